-- Points in whole metres, and the turn from one to the next. Definitions only.
use Rattle.std.specs.Prelude.{ℕ, ℤ, neg_ℤ, ◌+ℤ◌, ◌-ℤ◌, ◌*ℤ◌}
use Rattle.integers.specs.Upto.{Upto}
use Rattle.plane.specs.declared.Point.{Point}

-- the point at an east and a north
abbrev pub point : ℤ → ℤ → Point
point e n = record { east = e; north = n }

-- the span (docs/SCOPE.md 1.1): a coordinate is from −16,000 to 16,000
abbrev pub span : ℕ
span = 16000

-- each coordinate is in the span
pub record InSpan (q : Point) : Type 0 where
  pub easts : Upto span q.east
  pub norths : Upto span q.north

-- twice the signed area of the triangle a b c: the determinant of docs/SCOPE.md 3.1
abbrev pub signed_area : Point → Point → Point → ℤ
signed_area a b c =
    (b.east -ℤ a.east) *ℤ (c.north -ℤ a.north) -ℤ (b.north -ℤ a.north) *ℤ (c.east -ℤ a.east)

-- the dot product of the vectors from a to b and to c: how far c lies ahead of a on the way to b
abbrev pub dot_product : Point → Point → Point → ℤ
dot_product a b c =
    (b.east -ℤ a.east) *ℤ (c.east -ℤ a.east) +ℤ (b.north -ℤ a.north) *ℤ (c.north -ℤ a.north)

-- the direction outward from the side from a to b, a quarter turn left of it: its east and its north
abbrev pub outward_east : Point → Point → ℤ
outward_east a b = neg_ℤ (b.north -ℤ a.north)

abbrev pub outward_north : Point → Point → ℤ
outward_north a b = b.east -ℤ a.east
