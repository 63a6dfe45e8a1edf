-- A corner of a box of a list by the box's place. Definitions only.
use Rattle.std.specs.Prelude.{List, ℕ, pos, get_or, ◌≤ℤ◌}
use Rattle.plane.specs.Points.{point, signed_area}
use Rattle.plane.specs.declared.Point.{Point}
use Rattle.rounds.specs.Boxes.{Ordered, corner_of, corners_of}
use Rattle.rounds.specs.declared.Box.{Box}
use Rattle.rounds.specs.declared.Corner.{Corner}

-- that one corner of the box at place k, from 0
abbrev pub nth_corner : Corner → List Box → ℕ → Point
nth_corner c bs k = get_or (corners_of c bs) k (point (pos 0) (pos 0))

-- of every box, no corner is further right of the way from f to t than that one
pub record Rightmost (f t : Point) (corner : Corner) : Type 0 where
  pub least : (b : Box) → Ordered b → (other : Corner) → signed_area f t (corner_of corner b) ≤ℤ signed_area f t (corner_of other b)
