-- The polygon of some points as the keys of its vertices, and polygons one behind another. Definitions only.
use Rattle.std.specs.Prelude.{◌≡◌, List, map, ℕ, ◌+◌, ◌≤◌, length, take, drop}
use Rattle.plane.specs.Members.{All}
use Rattle.plane.specs.declared.Point.{Point}
use Rattle.plane.specs.Polygons.{Polygon}
use Rattle.turns.specs.Keys.{IsKey, point_of}

-- the first count vertices are keys, and their points are the polygon of the points qs (docs/SCOPE.md 3.3)
pub record PolygonKeys (qs : List Point) (vertices : List ℕ) (count : ℕ) : Type 0 where
  pub some : 1 ≤ count
  pub few : count ≤ length qs
  pub keys : All IsKey (take count vertices)
  pub polygon : Polygon qs (map point_of (take count vertices))

-- two slices are scratch for n keys
pub record ScratchFor (n : ℕ) (keys mirror : List ℕ) : Type 0 where
  pub in_keys : n ≤ length keys
  pub in_mirror : n ≤ length mirror

-- room for the outer polygon of n boxes: for its vertices, for the keys of two corners of each and a chain of them, and for a list of them
pub record OuterRoom (n : ℕ) (vertices keys list : List ℕ) : Type 0 where
  pub in_vertices : n + n + n + n + 3 ≤ length vertices
  pub in_keys : n + n + 3 ≤ length keys
  pub in_list : n + n + 1 ≤ length list

-- the first `from` keys are unchanged, and behind them is the polygon of the points qs
pub record PolygonBehind (qs : List Point) (from : ℕ) (before : List ℕ) (count : ℕ) (after : List ℕ) : Type 0 where
  pub kept : take from after ≡ take from before
  pub behind : PolygonKeys qs (drop from after) count

-- likewise the polygons of the points qs, and behind them those of the points rs
pub record TwoBehind (qs rs : List Point) (from : ℕ) (before : List ℕ) (first second : ℕ) (after : List ℕ) : Type 0 where
  pub kept : take from after ≡ take from before
  pub behind : PolygonKeys qs (drop from after) first
  pub next : PolygonKeys rs (drop (from + first) after) second
