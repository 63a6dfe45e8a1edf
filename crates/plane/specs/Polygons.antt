-- Extreme points, and what makes a listing the polygon of some points, the start being open (docs/SCOPE.md 3.2, 3.3). Definitions only.
use Rattle.std.specs.Prelude.{◌≤◌, ◌≡◌, List, [], ◌∷◌, map, pos, ◌≤ℤ◌, length}
use Rattle.plane.specs.Members.{All, ◌∈◌}
use Rattle.plane.specs.Points.{signed_area}
use Rattle.plane.specs.declared.Point.{Point}
use Rattle.plane.specs.Vectors.{from, Balanced}

-- q is one of the points, and not p
abbrev pub Other : List Point → Point → Point → Type 0
Other qs p q = (q ∈ qs) × (q ≡ p → ⊥)

-- an extreme point (docs/SCOPE.md 3.2): p is one of the points, and not in the hull of other distinct points
pub record Extreme (qs : List Point) (p : Point) : Type 0 where
  pub listed : p ∈ qs
  pub apart : (others : List Point) → All (Other qs p) others → Balanced (map (from 1 p) others) → ⊥

-- no point stands twice in the list
abbrev pub Distinct : List Point → Type 0
Distinct [] = Unit {0}
Distinct (p ∷ ps) = (p ∈ ps → ⊥) × Distinct ps

-- R holds from each vertex to the next, the last step going to `first`
abbrev pub Steps : (Point → Point → Type 0) → Point → List Point → Type 0
Steps R first [] = Unit {0}
Steps R first (a ∷ []) = R a first
Steps R first (a ∷ b ∷ rest) = R a b × Steps R first (b ∷ rest)

-- R holds of each side: from each vertex to the next, and from the last to the first
abbrev pub Around : (Point → Point → Type 0) → List Point → Type 0
Around R [] = Unit {0}
Around R (a ∷ rest) = Steps R a (a ∷ rest)

-- every point lies strictly right of the side from a to b, or on it
abbrev pub AllRight : List Point → Point → Point → Type 0
AllRight qs a b = All (λ q. signed_area a b q ≤ℤ pos 0) qs

-- clockwise: every point lies strictly right of each side, or on it
abbrev pub Clockwise : List Point → List Point → Type 0
Clockwise qs vs = Around (AllRight qs) vs

-- the polygon of the points qs (docs/SCOPE.md 3.3): exactly the extreme points, each once, clockwise
pub record Polygon (qs vs : List Point) : Type 0 where
  pub only_extreme : All (Extreme qs) vs
  pub every_extreme : (p : Point) → Extreme qs p → p ∈ vs
  pub once_each : Distinct vs
  pub clockwise : 3 ≤ length vs → Clockwise qs vs
