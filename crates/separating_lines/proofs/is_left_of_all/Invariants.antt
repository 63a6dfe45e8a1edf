-- `separating_lines::is_left_of_all` meets its contract. The invariant: the corner of each of the first k boxes is right of the line through the plug. Assumes nothing.
use mathlib.Core.List.{List}
use Prim.Native.Nat.{ℕ, ◌/◌, ◌≤◌, ◌<◌}
use lib.IntN.{ℤ}
use lib.Signed.{◌<ℤ◌}
use lib.ListN.{length}
use Rattle.plane.specs.Points.{signed_area}
use Rattle.plane.specs.declared.Point.{Point}
use Rattle.turns.specs.Keys.{point_of}
use Rattle.rounds.specs.Boxes.{boxes_of}
use Rattle.rounds.specs.declared.Corner.{Corner}
use Rattle.corners.specs.Corners.{nth_corner}
use Rattle.separating_lines.proofs.is_left_of_all.Given as goal

pub record Beyond (l : List ℤ) (f t p : Point) (corner : Corner) (k : ℕ) : Type 0 where
  pub within : k ≤ length l / 4
  pub right : (i : ℕ) → i < k → signed_area f t (nth_corner corner (boxes_of l) i) <ℤ signed_area f t p

abbrev pub invariant-loop-k : goal.invariant-loop-k
invariant-loop-k l = Beyond l.boxes.numbers.now (point_of l.fn.a) (point_of l.fn.b) (point_of l.fn.plug) l.corner l.k
