-- A point of the span as a key: its coordinates are moved to be natural numbers, the two parts, and the key is the east part times a stride and the north part. So
-- the order of keys is that of points by east, then by north. No other crate sees how a key is made: it goes by the laws of proofs/. Definitions only.
use Rattle.std.specs.Prelude.{◌≡◌, Bool, true, false, cond, ℕ, ◌+◌, ◌*◌, ◌/◌, ◌%◌, ◌≤◌, ◌<◌, pos, nat_abs, ◌+ℤ◌, ◌-ℤ◌}
use Rattle.std.specs.Int.Signed.{lt_z}
use Rattle.plane.specs.Points.{point, span}
use Rattle.plane.specs.declared.Point.{Point}

-- the greatest part: from one end of the span to the other
abbrev pub greatest_part : ℕ
greatest_part = span + span

-- how much greater a key is than that of the point one metre west: more than any part
abbrev pub stride : ℕ
stride = 32768

-- the parts of a key: how far east and north its point lies of the south-west end of the span
unfoldable pub east_part : ℕ → ℕ
east_part k = k / stride

unfoldable pub north_part : ℕ → ℕ
north_part k = k % stride

-- the two parts of a key are each one of the 32,001 numbers of the span
pub record IsKey (k : ℕ) : Type 0 where
  pub east_in : east_part k ≤ greatest_part
  pub north_in : north_part k ≤ greatest_part

-- the first m numbers are keys of points of the span
pub record AllKeys (q : ℕ → ℕ) (m : ℕ) : Type 0 where
  pub key : (i : ℕ) → i < m → IsKey (q i)

-- the point of a key
unfoldable pub point_of : ℕ → Point
point_of k = point (pos (east_part k) -ℤ pos span) (pos (north_part k) -ℤ pos span)

-- the key of a point of the span
unfoldable pub key_at : Point → ℕ
key_at q = nat_abs (q.east +ℤ pos span) * stride + nat_abs (q.north +ℤ pos span)

-- k is the key of the point
pub record KeyOf (q : Point) (k : ℕ) : Type 0 where
  pub key : IsKey k
  pub is : point_of k ≡ q

-- lexicographic order: p lies west of q, or as far west and south of it
abbrev pub precedes : Point → Point → Bool
precedes p q = cond (lt_z p.east q.east) true (cond (lt_z q.east p.east) false (lt_z p.north q.north))

-- the greatest key, that of the north-east end of the span
abbrev pub greatest_key : ℕ
greatest_key = greatest_part * stride + greatest_part
