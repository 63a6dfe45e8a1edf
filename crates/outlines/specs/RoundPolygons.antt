-- The five polygons of a round, one behind another in one slice of keys. Definitions only.
use Rattle.std.specs.Prelude.{List, ℕ, ◌+◌, ◌≤◌, length, take, drop}
use Rattle.rounds.specs.Boxes.{corners_of, all_corners}
use Rattle.rounds.specs.declared.Box.{Box}
use Rattle.rounds.specs.declared.Corner.{Corner}
use Rattle.rounds.specs.declared.Corner.TheVariants.{SouthWest, SouthEast, NorthEast, NorthWest}
use Rattle.outlines.specs.declared.RoundCounts.{RoundCounts}
use Rattle.outlines.specs.Outlines.{PolygonKeys}

-- how many vertices a corner polygon has
abbrev pub count_of : RoundCounts → Corner → ℕ
count_of n SouthWest = n.southwest
count_of n SouthEast = n.southeast
count_of n NorthEast = n.northeast
count_of n NorthWest = n.northwest

-- how many vertices stand before it
abbrev pub start_of : RoundCounts → Corner → ℕ
start_of n SouthWest = n.outer
start_of n SouthEast = n.outer + n.southwest
start_of n NorthEast = n.outer + n.southwest + n.southeast
start_of n NorthWest = n.outer + n.southwest + n.southeast + n.northeast

-- how many vertices the five polygons have
abbrev pub all_counts : RoundCounts → ℕ
all_counts n = n.outer + n.southwest + n.southeast + n.northeast + n.northwest

-- n keys of a slice, from the index i on
abbrev pub vertices_from : ℕ → ℕ → List ℕ → List ℕ
vertices_from i n ks = take n (drop i ks)

-- the vertices of the outer polygon, and of a corner polygon
abbrev pub outer_vertices : RoundCounts → List ℕ → List ℕ
outer_vertices n ks = take n.outer ks

abbrev pub corner_vertices : RoundCounts → Corner → List ℕ → List ℕ
corner_vertices n c ks = vertices_from (start_of n c) (count_of n c) ks

-- they are the outer polygon and the corner polygons of the boxes (docs/SCOPE.md 3.4)
pub record RoundPolygons (bs : List Box) (ks : List ℕ) (n : RoundCounts) : Type 0 where
  pub enough : all_counts n ≤ length ks
  pub outer : PolygonKeys (all_corners bs) ks n.outer
  pub corners : (c : Corner) → PolygonKeys (corners_of c bs) (drop (start_of n c) ks) (count_of n c)
