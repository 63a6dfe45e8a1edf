-- Reflection through the datum, (e, n) to (−e, −n), of points and of keys. Definitions only.
use Rattle.std.specs.Prelude.{ℕ, ◌-◌, neg_ℤ}
use Rattle.plane.specs.Points.{point}
use Rattle.plane.specs.declared.Point.{Point}
use Rattle.turns.specs.Keys.{greatest_key}

-- the point reflected through the datum
abbrev pub opposite : Point → Point
opposite p = point (neg_ℤ p.east) (neg_ℤ p.north)

-- the key of the reflected point
unfoldable pub reflected : ℕ → ℕ
reflected k = greatest_key - k
