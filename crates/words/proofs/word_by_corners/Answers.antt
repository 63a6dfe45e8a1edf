-- `words::word_by_corners` meets its contract: by what the corner polygons that are tried say (proofs/Deciding.antt, Tried.antt). Assumes nothing.
use mathlib.Core.Bool.{Bool, true, false}
use Prim.Native.Nat.{ℕ, ◌<◌}
use lib.ListN.{get_or}
use Rattle.std.specs.List.{AllWithin, HoldsAt}
use Rattle.std.specs.Bool.{MatchBool}
use Rattle.std.proofs.Common.{rules}
use Rattle.std.proofs.lemmas.Iterator.{cases_from_all, YieldsList-from_slice}
use Rattle.rounds.specs.declared.Corner.{Corner}
use Rattle.rounds.specs.declared.Corner.TheVariants.{SouthWest}
use Rattle.outlines.specs.RoundPolygons.{corner_vertices}
use Rattle.words.specs.Words.{WithinOf}
use Rattle.words.proofs.Deciding.{word_inside, word_undecided}
use Rattle.words.proofs.Tried.{all, each}
use Rattle.words.proofs.word_by_corners.Goals as goal
use Rattle.words.proofs.word_by_corners.Goals.{After-all-inside}

-- each corner polygon has the plug strictly within, or one has not
module _ (c : After-all-inside) where
  abbrev Says : Bool → Corner → Type 0
  Says r k = WithinOf (corner_vertices c.args.polygons.counts k c.args.polygons.vertices.now) c.args.plug r

  tried : MatchBool c.all-inside.result (AllWithin (Says true) all 0 4) ((k : ℕ) × (k < 4) × HoldsAt (Says false) all k)
  tried = cases_from_all _ _ _ (Says true) (Says false) c.all-inside.ensures.ran (YieldsList-from_slice all c.iter.ensures.rest) (λ x q k. search rules) (λ x q k. search rules)

pub returns-then-inside : goal.returns-then-inside
returns-then-inside c =
    let p = goal.at.returns-then-inside c in
    word_inside _ _ _ (each _ (rw c.if-inside.true at (tried p.After-all-inside)))

pub returns-else-inside : goal.returns-else-inside
returns-else-inside c =
    let p = goal.at.returns-else-inside c in
    let one = rw c.if-inside.false at (tried p.After-all-inside) in
    word_undecided _ _ _ c.requires (get_or all one.0 SouthWest) (one.2 SouthWest)
