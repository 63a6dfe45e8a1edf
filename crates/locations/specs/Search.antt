-- What the parts of the search promise each other; callers do not see these. Definitions only.
use Rattle.std.specs.Prelude.{ℕ, ◌+◌, ◌-◌, ◌≤◌, ◌<◌, ◌≡◌, List, [], ◌∷◌, pos, ◌≤ℤ◌, length, get_or}
use Rattle.plane.specs.Points.{signed_area}
use Rattle.plane.specs.declared.Point.{Point}
use Rattle.turns.specs.Keys.{point_of}
use Rattle.locations.specs.Places.{PlaceOf}
use Rattle.locations.specs.declared.Place.{Place}

-- the point of a vertex by its index, from 0
abbrev pub vertex_at : List ℕ → ℕ → Point
vertex_at ks i = point_of (get_or ks i 0)

-- the answer for two vertices, a and b, and for one, where these are the same
pub record OfSegment (a b k : ℕ) (r : Place) : Type 0 where
  pub two : PlaceOf (a ∷ b ∷ []) k r
  pub one : a ≡ b → PlaceOf (a ∷ []) k r

-- three vertices or more, and the plug is strictly left of neither of the first vertex's two sides
pub record InFan (ks : List ℕ) (k : ℕ) : Type 0 where
  pub three : 3 ≤ length ks
  pub first_side : signed_area (vertex_at ks 0) (vertex_at ks 1) (point_of k) ≤ℤ pos 0
  pub last_side : signed_area (vertex_at ks (length ks - 1)) (vertex_at ks 0) (point_of k) ≤ℤ pos 0

-- as seen from the first vertex, the plug lies between the vertex at i and the next one: not left of the way to the one, not right of the way to the other
pub record FanWedge (ks : List ℕ) (k i : ℕ) : Type 0 where
  pub later : 1 ≤ i
  pub in_range : i + 1 < length ks
  pub right : signed_area (vertex_at ks 0) (vertex_at ks i) (point_of k) ≤ℤ pos 0
  pub left : pos 0 ≤ℤ signed_area (vertex_at ks 0) (vertex_at ks (i + 1)) (point_of k)
