-- The starred examples (docs/SCOPE.md 9.1), as one joint fact about the definitions: the rounds are accepted, the reply is the word, and the word means what it says. Definitions only.
use Rattle.std.specs.Prelude.{ℕ, List, [], ◌∷◌, map, pos, ◌≡◌}
use Rattle.plane.specs.Points.{point}
use Rattle.plane.specs.declared.Point.{Point}
use Rattle.plane.specs.Members.{◌∈◌}
use Rattle.plane.specs.Vectors.{from, Balanced}
use Rattle.plane.specs.Polygons.{AllRight, Polygon}
use Rattle.plane.proofs.PolygonFacts.{Between}
use Rattle.rounds.specs.Boxes.{box, corners_of, all_corners}
use Rattle.rounds.specs.declared.Box.{Box}
use Rattle.rounds.specs.Picks.{Each}
use Rattle.rounds.specs.Reasons.{SecondReason}
use Rattle.rounds.specs.declared.Entry.{Entry}
use Rattle.rounds.specs.Words.{Means}
use Rattle.rounds.specs.declared.Word.TheVariants.{Inside, Outside, Undecided}
use Rattle.rounds.specs.declared.Corner.{Corner}
use Rattle.rounds.specs.declared.Corner.TheVariants.{SouthWest, SouthEast, NorthEast, NorthWest}
use Rattle.rounds.specs.Refusals.{Fault, verdict_fault}
use Rattle.rounds.specs.Replies.{result}
use Rattle.rounds.specs.declared.Word.{Word}
use Rattle.verdicts.specs.Verdicts.{verdict_on}
use Rattle.records.specs.Records.{edges_of}
use Rattle.demands.specs.Polygons.{StrictlyInside}

-- ---- the rounds

-- the point and the box at numbers that are not negative
abbrev pub at : ℕ → ℕ → Point
at e n = point (pos e) (pos n)

abbrev pub edges : ℕ → ℕ → ℕ → ℕ → Box
edges w s e n = box (pos w) (pos s) (pos e) (pos n)

abbrev pub B : List Box
B = edges 0 0 2 2 ∷ edges 8 0 10 2 ∷ edges 8 8 10 10 ∷ edges 0 8 2 10 ∷ []

-- a box that is a line, and one that is a point
abbrev pub L : List Box
L = edges 0 0 1 0 ∷ edges 2 3 2 3 ∷ []

abbrev pub One : List Box
One = edges 0 0 4 4 ∷ []

abbrev pub entry : ℕ → Corner → ℕ → Entry
entry b c w = record { number = b; corner = c; weight = w }

abbrev pub thirds : List Entry
thirds = entry 1 SouthWest 1 ∷ entry 1 SouthEast 1 ∷ entry 2 SouthWest 1 ∷ []

-- the plug lies on a side of the polygon of the points: between two of them, and every point lies right of that side or on it
pub record OnSide (qs : List Point) (p : Point) : Type 0 where
  pub from_vertex : Point
  pub to_vertex : Point
  pub from_in : from_vertex ∈ qs
  pub to_in : to_vertex ∈ qs
  pub right : AllRight qs from_vertex to_vertex
  pub between : Between from_vertex to_vertex p

-- a starred example: no cause turns it back, the reply is the word, and every pick is as the word says
pub record Star (boxes : List Box) (plug : Point) (word : Word) : Type 0 where
  pub accepted : verdict_fault (edges_of boxes) plug ≡ Fault.none
  pub reply : verdict_on (edges_of boxes) plug ≡ result word
  pub means : Means boxes plug word

-- the joint fact
pub record Stars : Type 0 where
  pub B-5-5 : Star B (at 5 5) Inside
  pub B-3-3 : Star B (at 3 3) Inside
  -- undecided, on the south-east and the north-east corner polygon, and strictly inside the other two
  pub B-2-5 : Star B (at 2 5) Undecided
  pub B-2-5-on-south-east : OnSide (corners_of SouthEast B) (at 2 5)
  pub B-2-5-on-north-east : OnSide (corners_of NorthEast B) (at 2 5)
  pub B-2-5-in-south-west : StrictlyInside (corners_of SouthWest B) (at 2 5)
  pub B-2-5-in-north-west : StrictlyInside (corners_of NorthWest B) (at 2 5)
  pub B-0-0 : Star B (at 0 0) Undecided
  pub B-10-5 : Star B (at 10 5) Undecided
  pub B-11-5 : Star B (at 11 5) Outside
  pub B-outer : Polygon (all_corners B) (at 0 0 ∷ at 0 10 ∷ at 10 10 ∷ at 10 0 ∷ [])
  -- by weights 1, 1, 1 on (0, 0), (1, 0) and (2, 3); no whole-metre pick shows it
  pub L-1-1 : Star L (at 1 1) Undecided
  pub L-1-1-thirds : SecondReason L (at 1 1) thirds
  pub L-1-1-no-whole : (qs : List Point) → Each 1 L qs → Balanced (map (from 1 (at 1 1)) qs) → ⊥
  pub L-1-2 : Star L (at 1 2) Outside
  pub One-2-2 : Star One (at 2 2) Undecided
