-- The definitions of specs/ on the solvers' expressions (with ᴱ), a point as the solvers take it, and the determinant of two vectors. Definitions only.
use lib.IntN.{ℤ, ◌-ℤ◌, ◌*ℤ◌}
use Rattle.integers.proofs.Expr.{E, ◌⊕◌, ◌⊖◌, ◌⊗◌, #◌, Pt, PtE}
use Rattle.plane.specs.declared.Point.{Point}

-- a point as the solvers take it
abbrev pub pt : Point → Pt
pt v = (v.east, v.north)

-- signedArea
abbrev pub signed_areaᴱ : PtE → PtE → PtE → E
signed_areaᴱ a b c = (b.0 ⊖ a.0) ⊗ (c.1 ⊖ a.1) ⊖ (b.1 ⊖ a.1) ⊗ (c.0 ⊖ a.0)

-- from, over the denominator 1
abbrev pub fromᴱ : PtE → PtE → PtE
fromᴱ p q = (q.0 ⊖ # 1 ⊗ p.0, q.1 ⊖ # 1 ⊗ p.1)

-- along
abbrev pub alongᴱ : E → E → PtE → E
alongᴱ a b v = a ⊗ v.0 ⊕ b ⊗ v.1

-- the determinant of two vectors: twice the signed area between them, more than 0 where v lies left of u
abbrev pub det : Point → Point → ℤ
det u v = u.east *ℤ v.north -ℤ u.north *ℤ v.east

abbrev pub detᴱ : PtE → PtE → E
detᴱ u v = u.0 ⊗ v.1 ⊖ u.1 ⊗ v.0
