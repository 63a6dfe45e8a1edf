-- A key reflected through the datum: it is a key, that of the opposite point; the order of keys is turned round, and every signed area is kept. Assumes nothing.
use mathlib.Core.Path.{◌≡◌, ap}
use Prim.Native.Nat.{ℕ, ◌+◌, ◌-◌, ◌≤◌, ◌<◌}
use native.Mathlib.Omega.{arith}
use lib.IntN.{pos, neg_ℤ, ◌-ℤ◌}
use Rattle.integers.proofs.Expr.{◌⊕◌, ◌⊖◌, ⊝◌, #◌, ◌≐◌, ◌⟹◌}
use Rattle.integers.proofs.Ring.{ring}
use Rattle.integers.proofs.Lin.{lin}
use Rattle.plane.specs.Points.{signed_area, span}
use Rattle.plane.proofs.Twins.{pt, signed_areaᴱ}
use Rattle.plane.proofs.Sides.{point_ext}
use Rattle.turns.specs.Keys.{greatest_part, east_part, north_part, IsKey, point_of}
use Rattle.turns.specs.Reflection.{opposite, reflected}
use Rattle.turns.proofs.Parts.{key_most}

-- ---- its parts

reflected_east : {k : ℕ} → IsKey k → east_part (reflected k) ≡ greatest_part - east_part k
unfolding east_part north_part reflected
reflected_east {k} h = omega (arith, h.east_in, h.north_in)

reflected_north : {k : ℕ} → IsKey k → north_part (reflected k) ≡ greatest_part - north_part k
unfolding east_part north_part reflected
reflected_north {k} h = omega (arith, h.east_in, h.north_in)

pub reflected_key : {k : ℕ} → IsKey k → IsKey (reflected k)
reflected_key {k} h = record { east_in = omega (arith, reflected_east h); north_in = omega (arith, reflected_north h) }

-- its point has both coordinates negated
pub reflected_point : {k : ℕ} → IsKey k → point_of (reflected k) ≡ opposite (point_of k)
unfolding point_of
reflected_point {k} h = point_ext (turned _ _ (reflected_east h) h.east_in) (turned _ _ (reflected_north h) h.north_in)
  where
    turned : (x y : ℕ) → y ≡ greatest_part - x → x ≤ greatest_part → pos y -ℤ pos span ≡ neg_ℤ (pos x -ℤ pos span)
    turned x y e l =
        let f : y + x ≡ greatest_part = omega arith in
        lin 0 2 (λ a b. a ⊕ b ≐ # 32000 ⟹ a ⊖ # 16000 ≐ ⊝ (b ⊖ # 16000)) (omega arith) (pos y) (pos x) (ap pos f)

-- ---- twice, in order, and three of them

pub reflected_twice : {k : ℕ} → IsKey k → reflected (reflected k) ≡ k
unfolding reflected
reflected_twice {k} h = omega (arith, key_most h)

pub reflected_less : {a b : ℕ} → IsKey b → a < b → reflected b < reflected a
unfolding reflected
reflected_less {a} {b} h l = omega (arith, key_most h)

pub reflected_le : {a b : ℕ} → a ≤ b → reflected b ≤ reflected a
unfolding reflected
reflected_le {a} {b} l = omega arith

pub reflected_area : {a b c : ℕ} → IsKey a → IsKey b → IsKey c
    → signed_area (point_of (reflected a)) (point_of (reflected b)) (point_of (reflected c)) ≡ signed_area (point_of a) (point_of b) (point_of c)
reflected_area {a} {b} {c} ha hb hc =
    rw (reflected_point ha, reflected_point hb, reflected_point hc)
    (ring 3 0 (λ a b c. signed_areaᴱ (⊝ a.0, ⊝ a.1) (⊝ b.0, ⊝ b.1) (⊝ c.0, ⊝ c.1) ≐ signed_areaᴱ a b c) tt (pt (point_of a)) (pt (point_of b)) (pt (point_of c)))
