-- Where a plug lies with respect to the points whose polygon is given by its vertices' keys: what each answer says. Definitions only.
use Rattle.std.specs.Prelude.{ℕ, List, map}
use Rattle.plane.specs.declared.Point.{Point}
use Rattle.plane.specs.Vectors.{from, Supported, Balanced, Separated}
use Rattle.plane.specs.Polygons.{Polygon}
use Rattle.turns.specs.Keys.{point_of}
use Rattle.locations.specs.declared.Place.{Place}
use Rattle.locations.specs.declared.Place.TheVariants.{Within, OnLine, Off}

-- what an answer says of the plug p and the points qs, by the terms of docs/SCOPE.md 1.7 and 1.8. Within: strictly inside the hull. On the line: not strictly inside, and in the
-- hull, edge included. Off: a direction has every point strictly behind it, so that the plug is not in the hull
abbrev pub PlaceSays : List Point → Point → Place → Type 0
PlaceSays qs p Within = Supported (map (from 1 p) qs) → ⊥
PlaceSays qs p OnLine = Supported (map (from 1 p) qs) × Balanced (map (from 1 p) qs)
PlaceSays qs p Off = Separated (map (from 1 p) qs)

-- the answer holds of all points whose polygon the vertices are
pub record PlaceOf (ks : List ℕ) (k : ℕ) (r : Place) : Type 0 where
  pub says : (qs : List Point) → Polygon qs (map point_of ks) → PlaceSays qs (point_of k) r
