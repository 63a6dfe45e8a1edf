-- Vectors from a plug to points over a denominator; what it is for the plug to lie in the hull of the points, or not strictly inside it. Definitions only.
use Rattle.std.specs.Prelude.{ℕ, ◌+◌, ◌<◌, ◌≡◌, List, [], ◌∷◌, ℤ, pos, ◌+ℤ◌, ◌-ℤ◌, ◌*ℤ◌, ◌≤ℤ◌, ◌<ℤ◌, length}
use Rattle.plane.specs.Members.{All}
use Rattle.plane.specs.declared.Point.{Point}

-- the vector from the plug p to the point q, whose coordinates are numerators over d; the vector's too
abbrev pub from : ℕ → Point → Point → Point
from d p q = record { east = q.east -ℤ pos d *ℤ p.east; north = q.north -ℤ pos d *ℤ p.north }

-- how far a vector goes along the direction (a, b): a · east + b · north
abbrev pub along : ℤ → ℤ → Point → ℤ
along a b v = a *ℤ v.east +ℤ b *ℤ v.north

-- supported by a whole direction: "not strictly inside" (docs/SCOPE.md 1.7). Not both parts are zero, and no vector is ahead
pub record Supported (vs : List Point) : Type 0 where
  pub a : ℤ
  pub b : ℤ
  pub nonzero : (a ≡ pos 0) × (b ≡ pos 0) → ⊥
  pub behind : All (λ v. along a b v ≤ℤ pos 0) vs

-- the sum of the weights
abbrev pub total : List ℕ → ℕ
total [] = 0
total (w ∷ ws) = w + total ws

-- the weighted sum of one coordinate of the vectors
abbrev pub weighted : (Point → ℤ) → List ℕ → List Point → ℤ
weighted f [] vs = pos 0
weighted f (w ∷ ws) [] = pos 0
weighted f (w ∷ ws) (v ∷ vs) = pos w *ℤ f v +ℤ weighted f ws vs

-- balanced by natural weights: "in the hull", its edge included (docs/SCOPE.md 1.8). Not all weights are zero, and the weighted sum is
pub record Balanced (vs : List Point) : Type 0 where
  pub weights : List ℕ
  pub one_each : length weights ≡ length vs
  pub some_weight : 0 < total weights
  pub east_sum : weighted (λ v. v.east) weights vs ≡ pos 0
  pub north_sum : weighted (λ v. v.north) weights vs ≡ pos 0

-- strictly separated by a whole direction: every vector is strictly behind it, so that nothing balances
pub record Separated (vs : List Point) : Type 0 where
  pub a : ℤ
  pub b : ℤ
  pub behind : All (λ v. along a b v <ℤ pos 0) vs
