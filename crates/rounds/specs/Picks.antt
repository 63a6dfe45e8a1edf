-- Picks: one point in every box, whole or fractional. Definitions only.
use Rattle.std.specs.Prelude.{ℕ, ◌<◌, List, [], ◌∷◌, pos, ◌*ℤ◌, ◌≤ℤ◌}
use Rattle.plane.specs.declared.Point.{Point}
use Rattle.rounds.specs.declared.Box.{Box}

-- the point whose coordinates are q's over d lies in the box, edges included
pub record InBox (d : ℕ) (b : Box) (q : Point) : Type 0 where
  pub from_west : (pos d *ℤ b.west) ≤ℤ q.east
  pub to_east : q.east ≤ℤ (pos d *ℤ b.east)
  pub from_south : (pos d *ℤ b.south) ≤ℤ q.north
  pub to_north : q.north ≤ℤ (pos d *ℤ b.north)

-- the first point lies in the first box, the second in the second, and so on, as many points as boxes
infixr 35 ◌&◌
pub data Each (d : ℕ) : List Box → List Point → Type 0 where
  none : Each d [] []
  ◌&◌ : {b : Box} {bs : List Box} {q : Point} {qs : List Point} → InBox d b q → Each d bs qs → Each d (b ∷ bs) (q ∷ qs)

-- a pick (docs/SCOPE.md 1.6): one point in each box, as fractions over some positive common denominator
pub record Pick (bs : List Box) : Type 0 where
  pub denominator : ℕ
  pub positive : 0 < denominator
  pub points : List Point
  pub in_boxes : Each denominator bs points
