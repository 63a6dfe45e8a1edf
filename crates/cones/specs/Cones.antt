-- The cone of some points as seen from a plug: what each case says. The points are corners of boxes of a list, and those that a cone holds
-- keep their box number and corner name. Definitions only.
use Rattle.std.specs.Prelude.{◌≡◌, List, [], ◌∷◌, ◌++◌, map, ℕ, ◌≤◌, pos, ◌≤ℤ◌, ◌<ℤ◌, length}
use Rattle.plane.specs.Points.{signed_area, dot_product}
use Rattle.plane.specs.declared.Point.{Point}
use Rattle.plane.specs.Members.{All, ◌∈◌}
use Rattle.plane.specs.Vectors.{from, Supported}
use Rattle.turns.specs.Keys.{IsKey, point_of}
use Rattle.rounds.specs.Reasons.{corner_at}
use Rattle.rounds.specs.declared.Box.{Box}
use Rattle.rounds.specs.declared.Corner.{Corner}
use Rattle.rounds.specs.declared.Entry.{Entry}
use Rattle.corners.specs.Corners.{nth_corner}
use Rattle.cones.specs.declared.CornerKey.{CornerKey}
use Rattle.cones.specs.declared.Cone.{Cone}
use Rattle.cones.specs.declared.Cone.TheVariants.{Nothing, Ray, Line, Wedge, Half, Around}

-- the point of a corner's key
abbrev pub corner_point : CornerKey → Point
corner_point v = point_of v.key

-- the entry that names the corner, with a weight (docs/SCOPE.md 4.4)
abbrev pub entry_of : CornerKey → ℕ → Entry
entry_of v w = record { number = v.number; corner = v.corner; weight = w }

-- the number and the corner name are those of a box of the list, whose corner has the key
pub record Named (bs : List Box) (v : CornerKey) : Type 0 where
  pub key : IsKey v.key
  pub least : 1 ≤ v.number
  pub most : v.number ≤ length bs
  pub is : (w : ℕ) → corner_at 1 bs (entry_of v w) ≡ corner_point v

-- that one corner of the box at place k, from 0
pub record CornerOf (bs : List Box) (corner : Corner) (k : ℕ) (v : CornerKey) : Type 0 where
  pub named : Named bs v
  pub is : corner_point v ≡ nth_corner corner bs k

-- a corner of a box of the list that is one of the points
pub record Seen (bs : List Box) (qs : List Point) (v : CornerKey) : Type 0 where
  pub named : Named bs v
  pub listed : corner_point v ∈ qs

-- every point is on the ray from the plug p through a, which is another point
pub record AllOnRay (bs : List Box) (qs : List Point) (p : Point) (a : CornerKey) : Type 0 where
  pub seen_a : Seen bs qs a
  pub apart : pos 0 <ℤ dot_product p (corner_point a) (corner_point a)
  pub in_line : All (λ q. signed_area p (corner_point a) q ≡ pos 0) qs
  pub onward : All (λ q. pos 0 ≤ℤ dot_product p (corner_point a) q) qs

-- every point is on the line through a, p and b, in this order
pub record AllOnLine (bs : List Box) (qs : List Point) (p : Point) (a b : CornerKey) : Type 0 where
  pub seen_a : Seen bs qs a
  pub seen_b : Seen bs qs b
  pub opposite : dot_product p (corner_point a) (corner_point b) <ℤ pos 0
  pub in_line : All (λ q. signed_area p (corner_point a) q ≡ pos 0) qs

-- every point is from the ray through a to the ray through b, which is left of it by less than half a turn
pub record AllInWedge (bs : List Box) (qs : List Point) (p : Point) (a b : CornerKey) : Type 0 where
  pub seen_a : Seen bs qs a
  pub seen_b : Seen bs qs b
  pub wide : pos 0 <ℤ signed_area p (corner_point a) (corner_point b)
  pub from_a : All (λ q. pos 0 ≤ℤ signed_area p (corner_point a) q) qs
  pub to_b : All (λ q. pos 0 ≤ℤ signed_area p q (corner_point b)) qs

-- every point is left of the line through a, p and b, in this order, or on it; c is left of it
pub record AllInHalf (bs : List Box) (qs : List Point) (p : Point) (a b : CornerKey) : Type 0 where
  pub seen_a : Seen bs qs a
  pub seen_b : Seen bs qs b
  pub opposite : dot_product p (corner_point a) (corner_point b) <ℤ pos 0
  pub straight : signed_area p (corner_point a) (corner_point b) ≡ pos 0
  pub from_a : All (λ q. pos 0 ≤ℤ signed_area p (corner_point a) q) qs
  pub c : Point
  pub listed : c ∈ qs
  pub left : pos 0 <ℤ signed_area p (corner_point a) c

-- p is strictly inside the hull, and in the triangle of a, b and c
pub record IsAround (bs : List Box) (qs : List Point) (p : Point) (a b c : CornerKey) : Type 0 where
  pub seen_a : Seen bs qs a
  pub seen_b : Seen bs qs b
  pub seen_c : Seen bs qs c
  pub of_a_b : pos 0 ≤ℤ signed_area p (corner_point a) (corner_point b)
  pub of_b_c : pos 0 <ℤ signed_area p (corner_point b) (corner_point c)
  pub of_c_a : pos 0 <ℤ signed_area p (corner_point c) (corner_point a)
  pub surrounded : Supported (map (from 1 p) qs) → ⊥

-- what a cone says of the points qs and the plug p
abbrev pub ConeSays : List Box → List Point → Point → Cone → Type 0
ConeSays bs qs p Nothing = All (λ q. q ≡ p) qs
ConeSays bs qs p (Ray a) = AllOnRay bs qs p a
ConeSays bs qs p (Line a b) = AllOnLine bs qs p a b
ConeSays bs qs p (Wedge a b) = AllInWedge bs qs p a b
ConeSays bs qs p (Half a b) = AllInHalf bs qs p a b
ConeSays bs qs p (Around a b c) = IsAround bs qs p a b c

-- some points have the cone
pub record Known (p : Point) (cone : Cone) : Type 0 where
  pub boxes : List Box
  pub points : List Point
  pub says : ConeSays boxes points p cone

-- the wider cone is that of the points and of v, whatever points they are
pub record Widened (p : Point) (cone : Cone) (v : CornerKey) (wider : Cone) : Type 0 where
  pub says : (bs : List Box) (qs : List Point) → Named bs v → ConeSays bs qs p cone → ConeSays bs (qs ++ (corner_point v ∷ [])) p wider
