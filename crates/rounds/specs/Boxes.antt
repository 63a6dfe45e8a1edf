-- Boxes, their corners, and lists of numbers as boxes and plugs. Definitions only.
use Rattle.std.specs.Prelude.{ℕ, ◌+◌, ◌/◌, ◌%◌, ◌≤◌, ◌≡◌, List, [], ◌∷◌, ◌++◌, map, ℤ, pos, length, get_or, ◌≤ℤ◌}
use Rattle.integers.specs.Upto.{Upto}
use Rattle.plane.specs.Members.{All}
use Rattle.plane.specs.Points.{point, span}
use Rattle.plane.specs.declared.Point.{Point}
use Rattle.rounds.specs.declared.Box.{Box}
use Rattle.rounds.specs.declared.Corner.{Corner}
use Rattle.rounds.specs.declared.Corner.TheVariants.{SouthWest, SouthEast, NorthEast, NorthWest}

-- a box of four edges in whole metres, in the order of docs/SCOPE.md 1.2
abbrev pub box : ℤ → ℤ → ℤ → ℤ → Box
box w s e n = record { west = w; south = s; east = e; north = n }

-- the boxes of a flat list, four numbers each; what is left over at the end is no box
abbrev pub boxes_of : List ℤ → List Box
boxes_of [] = []
boxes_of (w ∷ []) = []
boxes_of (w ∷ s ∷ []) = []
boxes_of (w ∷ s ∷ e ∷ []) = []
boxes_of (w ∷ s ∷ e ∷ n ∷ rest) = box w s e n ∷ boxes_of rest

-- the box whose four edges start at an index of a flat list; 0 stands for what is past its end
abbrev pub box_at : List ℤ → ℕ → Box
box_at l i = box (get_or l i (pos 0)) (get_or l (i + 1) (pos 0)) (get_or l (i + 2) (pos 0)) (get_or l (i + 3) (pos 0))

-- the plugs of a flat list, two numbers each, east then north; what is left over at the end is no plug
abbrev pub plugs_of : List ℤ → List Point
plugs_of [] = []
plugs_of (e ∷ []) = []
plugs_of (e ∷ n ∷ rest) = point e n ∷ plugs_of rest

-- the plug whose two numbers start at an index of a flat list; 0 stands for what is past its end
abbrev pub plug_at : List ℤ → ℕ → Point
plug_at l i = point (get_or l i (pos 0)) (get_or l (i + 1) (pos 0))

-- the edges are in order; a line and a point are boxes too
pub record Ordered (b : Box) : Type 0 where
  pub across : b.west ≤ℤ b.east
  pub upward : b.south ≤ℤ b.north

-- every edge is from −16,000 to 16,000
pub record BoxInSpan (b : Box) : Type 0 where
  pub west : Upto span b.west
  pub south : Upto span b.south
  pub east : Upto span b.east
  pub north : Upto span b.north

-- the corner of a box that a corner name means
abbrev pub corner_of : Corner → Box → Point
corner_of SouthWest b = point b.west b.south
corner_of SouthEast b = point b.east b.south
corner_of NorthEast b = point b.east b.north
corner_of NorthWest b = point b.west b.north

-- that one corner of every box: the points of a corner polygon
abbrev pub corners_of : Corner → List Box → List Point
corners_of c bs = map (corner_of c) bs

-- all four corners of all boxes: the points of the outer polygon
abbrev pub all_corners : List Box → List Point
all_corners bs = corners_of SouthWest bs ++ corners_of SouthEast bs ++ corners_of NorthEast bs ++ corners_of NorthWest bs

-- the most boxes that a round has
abbrev pub most_boxes : ℕ
most_boxes = 1024

-- a flat list of boxes that polygons and verdicts are worked out of: whole boxes, at least one and at most 1,024, each with its edges in
-- order and in the span
pub record BoxList (l : List ℤ) : Type 0 where
  pub whole : length l % 4 ≡ 0
  pub some : 4 ≤ length l
  pub few : length l / 4 ≤ most_boxes
  pub ordered : All Ordered (boxes_of l)
  pub in_span : All BoxInSpan (boxes_of l)
