-- The word of a plug against the five polygons of some boxes, which are given by their vertices' keys. Definitions only.
use Rattle.std.specs.Prelude.{◌≡◌, Bool, true, false, List, map, ℕ, ◌≤◌, length}
use Rattle.plane.specs.declared.Point.{Point}
use Rattle.plane.specs.Members.{All}
use Rattle.plane.specs.Vectors.{from, Supported}
use Rattle.plane.specs.Polygons.{Polygon}
use Rattle.turns.specs.Keys.{IsKey, point_of}
use Rattle.rounds.specs.Boxes.{Ordered}
use Rattle.rounds.specs.Words.{word_of}
use Rattle.rounds.specs.declared.Box.{Box}
use Rattle.rounds.specs.declared.Corner.{Corner}
use Rattle.rounds.specs.declared.Word.{Word}
use Rattle.outlines.specs.declared.RoundCounts.{RoundCounts}
use Rattle.outlines.specs.RoundPolygons.{all_counts, outer_vertices, corner_vertices, RoundPolygons}

-- there is a vertex, and every vertex is a key
pub record KeyVertices (ks : List ℕ) : Type 0 where
  pub some : 1 ≤ length ks
  pub keys : All IsKey ks

-- the slice has the five polygons' vertices, of each at least one, and they are keys
pub record RoundKeys (ks : List ℕ) (n : RoundCounts) : Type 0 where
  pub enough : all_counts n ≤ length ks
  pub outer : KeyVertices (outer_vertices n ks)
  pub corners : (c : Corner) → KeyVertices (corner_vertices n c ks)

-- it is the one word of the plug, for all ordered boxes whose polygons they are
pub record WordIn (ks : List ℕ) (n : RoundCounts) (k : ℕ) (r : Word) : Type 0 where
  pub says : (bs : List Box) → All Ordered bs → RoundPolygons bs ks n → r ≡ word_of bs (point_of k)

-- ---- one of the polygons

-- the plug p is strictly inside the hull of the points qs, or not
abbrev pub WithinSays : List Point → Point → Bool → Type 0
WithinSays qs p true = Supported (map (from 1 p) qs) → ⊥
WithinSays qs p false = Supported (map (from 1 p) qs)

-- the answer holds of all points whose polygon the vertices are
pub record WithinOf (ks : List ℕ) (k : ℕ) (r : Bool) : Type 0 where
  pub says : (qs : List Point) → Polygon qs (map point_of ks) → WithinSays qs (point_of k) r
