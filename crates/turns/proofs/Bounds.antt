-- Signed areas, dot products and outward directions of points of the span: their sizes, and how the machine holds them. Assumes nothing.
use Prim.Native.Nat.{ℕ, ◌<◌, ◌^◌}
use mathlib.Core.Path.{◌≡◌, sym, ◌∙◌, subst}
use native.Mathlib.Omega.{arith}
use lib.Dec.{T, ltb, leb→le}
use lib.IntN.{ℤ, pos, negsuc, nat_abs}
use lib.Signed.{◌≤ℤ◌, mag, non_neg, yes_non_neg, pos-nat_abs}
use mir.Syntax.{Width, w32}
use mir.Val.{Fits, hbits, to_z, of_z}
use mir.ValLaws.{to_z-of_z}
use Rattle.integers.specs.Upto.{Upto}
use Rattle.integers.proofs.Machine.{Got, plain, upto_add, upto_sub, upto_mul, upto_neg}
use Rattle.integers.proofs.Tests.{ok}
use Rattle.plane.specs.Points.{InSpan, signed_area, dot_product, outward_east, outward_north}
use Rattle.plane.specs.declared.Point.{Point}

-- ---- sizes

module _ {a b c : Point} (ha : InSpan a) (hb : InSpan b) (hc : InSpan c) where
  pub area_upto : Upto 2048000000 (signed_area a b c)
  area_upto =
      upto_sub
      (upto_mul (upto_sub hb.easts ha.easts) (upto_sub hc.norths ha.norths))
      (upto_mul (upto_sub hb.norths ha.norths) (upto_sub hc.easts ha.easts))

  pub dot_product_upto : Upto 2048000000 (dot_product a b c)
  dot_product_upto =
      upto_add
      (upto_mul (upto_sub hb.easts ha.easts) (upto_sub hc.easts ha.easts))
      (upto_mul (upto_sub hb.norths ha.norths) (upto_sub hc.norths ha.norths))

module _ {a b : Point} (ha : InSpan a) (hb : InSpan b) where
  pub outward_east_upto : Upto 32000 (outward_east a b)
  outward_east_upto = upto_neg (upto_sub hb.norths ha.norths)

  pub outward_north_upto : Upto 32000 (outward_north a b)
  outward_north_upto = upto_sub hb.easts ha.easts

-- ---- as the machine holds them

-- a number z of at most b in size that a call returned as r; `tt` is the check that 32 bits hold it
pub small : {b : ℕ} {r z : ℤ} → T (ltb b (2 ^ hbits w32)) → r ≡ z → Upto b z → Got w32 b (to_z w32 (of_z w32 r)) z
small {b} t e h = record { eq = plain w32 t (subst (Upto b) (sym e) h) ∙ e; size = h }

-- a number z that a call returned as r: the machine reads it back as it is
pub returned : (w : Width) {r z : ℤ} → mag r < 2 ^ hbits w → r ≡ z → to_z w (of_z w r) ≡ z
returned w {r} m e = to_z-of_z w r (ok r m) ∙ e

-- a number z that is not less than 0, read back as t and cast to 32 bits without a sign: what the cast asks, and what it leaves
module _ {t z : ℤ} (e : t ≡ z) (h : pos 0 ≤ℤ z) where
  pub unsigned_fits : z ≤ℤ pos 2048000000 → T (non_neg t) × Fits w32 (nat_abs t)
  unsigned_fits k = rw e (yes_non_neg h, record { fits = low z h k })
    where
      low : (z : ℤ) → pos 0 ≤ℤ z → z ≤ℤ pos 2048000000 → nat_abs z < 2 ^ 32
      low (pos n) h k = omega (arith, leb→le n 2048000000 k.le)
      low (negsuc n) h k = absurd h.le

  pub unsigned_is : pos (nat_abs t) ≡ z
  unsigned_is = rw e (pos-nat_abs z (yes_non_neg h))
