-- `views::look_over` meets its contract. The invariant: what is found of all boxes from the start is what is found from the present view on, from corner j of the box at
-- place k. Assumes nothing.
use mathlib.Core.Path.{◌≡◌}
use mathlib.Core.List.{List}
use Prim.Native.Nat.{ℕ, suc, ◌*◌, ◌/◌, ◌-◌, ◌≤◌, ◌<◌}
use lib.IntN.{ℤ}
use lib.ListN.{length, drop}
use Rattle.rounds.specs.Boxes.{boxes_of}
use Rattle.passes.specs.Passes.{names_in}
use Rattle.passes.specs.declared.CornerSet.{CornerSet}
use Rattle.views.specs.Looking.{looked_over}
use Rattle.views.specs.declared.View.{View}
use Rattle.views.proofs.Looking.{seen, rest}
use Rattle.views.proofs.look_over.Given as goal

-- so far
pub record Reached (boxes : List ℤ) (set : CornerSet) (plug : ℕ) (start view : View) (k j : ℕ) : Type 0 where
  pub in_range : k ≤ length boxes / 4
  pub place : j < length (names_in set)
  pub same : looked_over plug set 1 start (boxes_of boxes) ≡ rest plug set (suc k) j view (drop k (boxes_of boxes))

abbrev pub invariant-loop-k : goal.invariant-loop-k
invariant-loop-k l = Reached l.boxes.numbers.now l.set l.plug (seen l.initial.cone l.initial.met) (seen l.cone l.met) l.k l.j

-- a box has at most four corners
abbrev pub decreases-loop-k : goal.decreases-loop-k
decreases-loop-k l = (length l.boxes.numbers.now / 4 - l.k) * 5 - l.j
