-- The polygon of a list of keys. Definitions only.
use Rattle.std.specs.Prelude.{◌≡◌, List, map, ℕ, ◌≤◌, ◌<◌, length, take}
use Rattle.plane.specs.Polygons.{Polygon}
use Rattle.turns.specs.Keys.{point_of, AllKeys}
use Rattle.orders.specs.Order.{get}

-- x is the least number of the list: of keys, that of the westmost point, and the southmost of those
pub record Least (l : List ℕ) (x : ℕ) : Type 0 where
  pub listed : (i : ℕ) × (i < length l) × (x ≡ get l i)
  pub least : (i : ℕ) → i < length l → x ≤ get l i

-- the first count vertices are the polygon of the keys' points (docs/SCOPE.md 3.3), clockwise from the westmost, southmost (DECISIONS 10)
pub record Hull (keys vertices : List ℕ) (count : ℕ) : Type 0 where
  pub some : 1 ≤ count
  pub few : count ≤ length keys
  pub listed : AllKeys (get vertices) count
  pub polygon : Polygon (map point_of keys) (map point_of (take count vertices))
  pub first : Least keys (get vertices 0)
