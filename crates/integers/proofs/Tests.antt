-- Tests of signed numbers, as a need has them: the machine compares what it reads back from the numbers' bits.
-- A number of which it is known that it fits goes in by that fact: `c.fits.x` of a parameter, `lit` of a literal, `ok` of a
-- call's result, `elem` of an element of a slice. Assumes nothing.
use mathlib.Core.Path.{◌≡◌, sym, ◌∙◌, ap, subst}
use mathlib.Core.Bool.{true}
use mathlib.Core.List.{List}
use Prim.Native.Nat.{ℕ, ◌^◌, ◌<◌}
use lib.IntN.{ℤ, pos, nat_abs}
use lib.Dec.{T, ltb, ltb→lt}
use lib.ListN.{get_or}
use lib.Signed.{lt_z, le_z, mag, non_neg, le_z_yes, yes_non_neg}
use mir.Facts.{sfits_widen, Fits-nat_abs}
use mir.Syntax.{Width, w32, w64}
use mir.Val.{Fits, SFits, hbits, to_z, of_z}
use mir.ValLaws.{to_z-of_z}

-- a literal fits, `lit (negsuc 15999) tt`, and a call's result does, `ok c.f.ok`
pub lit : {w : Width} (z : ℤ) → T (ltb (mag z) (2 ^ hbits w)) → SFits w z
lit {w} z t = record { sfits = ltb→lt (mag z) (2 ^ hbits w) t }

pub ok : {w : Width} (z : ℤ) → mag z < 2 ^ hbits w → SFits w z
ok z h = record { sfits = h }

-- an element that was read from a slice, `elem c.args.s.now i c.VAR.given`
pub elem : (xs : List ℤ) (i : ℕ) → mag (get_or xs i (pos 0)) < 2 ^ 31 → SFits w32 (get_or xs i (pos 0))
elem xs i h = record { sfits = h }

module _ {w : Width} {y z : ℤ} (fy : SFits w y) (fz : SFits w z) where
  -- `y < z` and `y <= z` of the code are the tests of the numbers
  pub ltz : lt_z (to_z w (of_z w y)) (to_z w (of_z w z)) ≡ lt_z y z
  ltz = rw (to_z-of_z w y fy, to_z-of_z w z fz)

  -- `y == z` compares the bits
  pub eqz : of_z w y ≡ of_z w z → y ≡ z
  eqz e = sym (to_z-of_z w y fy) ∙ ap (to_z w) e ∙ to_z-of_z w z fz

  pub nez : (of_z w y ≡ of_z w z → ⊥) → y ≡ z → ⊥
  nez f e = f (ap (of_z w) e)

-- what a callee says of the number that is read back from an argument's bits, said of the number
pub told : {A : Type 0} {w : Width} {z : ℤ} (f : ℤ → A) {r t : A} → SFits w z → r ≡ f (to_z w (of_z w z)) → r ≡ t → f z ≡ t
told {w = w} {z = z} f fz e h = sym (ap f (to_z-of_z w z fz)) ∙ sym e ∙ h

-- an i32 as an i64: the cast's need, and what the new local holds
pub wide_fits : {z : ℤ} → SFits w32 z → SFits w64 (to_z w32 (of_z w32 z))
wide_fits {z} fz = rw (to_z-of_z w32 z fz) (sfits_widen tt fz)

pub wide_is : {z : ℤ} → SFits w32 z → to_z w64 (of_z w64 (to_z w32 (of_z w32 z))) ≡ z
wide_is {z} fz = to_z-of_z w64 (to_z w32 (of_z w32 z)) (wide_fits fz) ∙ to_z-of_z w32 z fz

-- an i32 as a usize, after `if 0 <= x`
pub index_fits : (z : ℤ) → SFits w32 z → le_z (pos 0) (to_z w32 (of_z w32 z)) ≡ true → T (non_neg (to_z w32 (of_z w32 z))) × Fits w64 (nat_abs (to_z w32 (of_z w32 z)))
index_fits z fz t = (yes_non_neg {z = to_z w32 (of_z w32 z)} (le_z_yes (subst T (sym t) tt)), rw (to_z-of_z w32 z fz) (Fits-nat_abs tt fz))
