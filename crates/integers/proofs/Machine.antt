-- Signed machine integers. `Upto B z` (specs/) says that z is at most B in size; sums, differences and products carry it, with the bound computed,
-- and `fits` makes of it what a machine operation asks, `SFits w z`. `Got w B t z` says that t, which the machine read back from bits, is z, at most B in size:
-- a need over what the machine reads back, as `SFits w (to_z w (of_z w x) -ℤ to_z w (of_z w y))`, is so answered from facts of x and y alone.
-- Assumes nothing.
use mathlib.Core.Path.{◌≡◌, sym, ◌∙◌, ap₂, subst, subst₂}
use mathlib.Core.Bool.{true, false}
use Prim.Native.Nat.{ℕ, ◌+◌, ◌*◌, ◌^◌}
use native.Mathlib.Omega.{arith}
use Rattle.std.proofs.lemmas.Int.{ints}
use lib.Dec.{T, ltb}
use lib.IntN.{ℤ, ◌+ℤ◌, ◌*ℤ◌, ◌-ℤ◌, neg_ℤ}
use lib.Signed.{◌≤ℤ◌, ◌<ℤ◌, lt_z, le_z}
use mir.Syntax.{Width}
use mir.Val.{SFits, to_z, of_z, hbits}
use mir.ValLaws.{to_z-of_z}
use Rattle.integers.specs.Upto.{Upto}
use Rattle.integers.proofs.Order.{mul_bound}

-- ---- at most B in size

pub upto_neg : {A : ℕ} {x : ℤ} → Upto A x → Upto A (neg_ℤ x)
upto_neg h = record { low = omega (arith, ints); high = omega (arith, ints) }

pub upto_add : {A B : ℕ} {x y : ℤ} → Upto A x → Upto B y → Upto (A + B) (x +ℤ y)
upto_add h k = record { low = omega (arith, ints); high = omega (arith, ints) }

pub upto_sub : {A B : ℕ} {x y : ℤ} → Upto A x → Upto B y → Upto (A + B) (x -ℤ y)
upto_sub h k = upto_add h (upto_neg k)

pub upto_mul : {A B : ℕ} {x y : ℤ} → Upto A x → Upto B y → Upto (A * B) (x *ℤ y)
upto_mul h k = let r = mul_bound h.low h.high k.low k.high in record { low = r.0; high = r.1 }

-- ---- the range of a signed width

pub fits : (w : Width) {B : ℕ} {z : ℤ} → T (ltb B (2 ^ hbits w)) → Upto B z → SFits w z
fits w t h = grind (arith, ints)

-- ---- what the machine reads back

-- a number that the width holds is read back as it is, and so is as small; the first `tt` is the check of the bound
pub plain : (w : Width) {B : ℕ} {z : ℤ} → T (ltb B (2 ^ hbits w)) → Upto B z → to_z w (of_z w z) ≡ z
plain w {B} {z} t h = to_z-of_z w z (fits w t h)

pub upto_plain : (w : Width) {B : ℕ} {z : ℤ} → T (ltb B (2 ^ hbits w)) → Upto B z → Upto B (to_z w (of_z w z))
upto_plain w {B} t h = subst (λ x. Upto B x) (sym (plain w t h)) h

-- t is z, which is at most B in size
pub record Got (w : Width) (B : ℕ) (t z : ℤ) : Type 0 where
  pub eq : t ≡ z
  pub size : Upto B z

-- a local that holds x
pub got : {w : Width} {B : ℕ} {x : ℤ} → SFits w x → Upto B x → Got w B (to_z w (of_z w x)) x
got {w} {B} {x} f h = record { eq = to_z-of_z w x f; size = h }

-- the same from the bound alone, where the width holds it: `got' w64 tt h`
pub got' : (w : Width) {B : ℕ} {x : ℤ} → T (ltb B (2 ^ hbits w)) → Upto B x → Got w B (to_z w (of_z w x)) x
got' w t h = record { eq = plain w t h; size = h }

-- an operation whose result z is at most B in size, which the width holds
module _ {w : Width} {B : ℕ} {t z : ℤ} (e : t ≡ z) (h : Upto B z) (f : T (ltb B (2 ^ hbits w))) where
  asked : SFits w t
  asked = subst (λ x. SFits w x) (sym e) (fits w f h)

  made : Got w B (to_z w (of_z w t)) z
  made = record { eq = to_z-of_z w t asked ∙ e; size = h }

-- what each operation asks (`ask`), and what it leaves (`got`). The last argument is `tt`, where the bounds are numerals
module _ {w : Width} {A B : ℕ} {t s z y : ℤ} (h : Got w A t z) (k : Got w B s y) where
  pub ask_add : T (ltb (A + B) (2 ^ hbits w)) → SFits w (t +ℤ s)
  ask_add f = asked (ap₂ ◌+ℤ◌ h.eq k.eq) (upto_add h.size k.size) f

  pub got_add : T (ltb (A + B) (2 ^ hbits w)) → Got w (A + B) (to_z w (of_z w (t +ℤ s))) (z +ℤ y)
  got_add f = made (ap₂ ◌+ℤ◌ h.eq k.eq) (upto_add h.size k.size) f

  pub ask_sub : T (ltb (A + B) (2 ^ hbits w)) → SFits w (t -ℤ s)
  ask_sub f = asked (ap₂ ◌-ℤ◌ h.eq k.eq) (upto_sub h.size k.size) f

  pub got_sub : T (ltb (A + B) (2 ^ hbits w)) → Got w (A + B) (to_z w (of_z w (t -ℤ s))) (z -ℤ y)
  got_sub f = made (ap₂ ◌-ℤ◌ h.eq k.eq) (upto_sub h.size k.size) f

  pub ask_mul : T (ltb (A * B) (2 ^ hbits w)) → SFits w (t *ℤ s)
  ask_mul f = asked (ap₂ ◌*ℤ◌ h.eq k.eq) (upto_mul h.size k.size) f

  pub got_mul : T (ltb (A * B) (2 ^ hbits w)) → Got w (A * B) (to_z w (of_z w (t *ℤ s))) (z *ℤ y)
  got_mul f = made (ap₂ ◌*ℤ◌ h.eq k.eq) (upto_mul h.size k.size) f

-- ---- tests. What a branch is handed of a test of two signed numbers, `lt_z t s ≡ true`, with t and s read back from bits
-- (a test `a < b` is `lt_z`, `a <= b` is `le_z`; where the numbers are equal to what they are read from, see `Got`)

pub lt_z_true : {a b : ℤ} → lt_z a b ≡ true → a <ℤ b
lt_z_true e = grind (arith, ints)

pub lt_z_false : {a b : ℤ} → lt_z a b ≡ false → b ≤ℤ a
lt_z_false e = grind (arith, ints)

pub le_z_true : {a b : ℤ} → le_z a b ≡ true → a ≤ℤ b
le_z_true e = grind (arith, ints)

pub le_z_false : {a b : ℤ} → le_z a b ≡ false → b <ℤ a
le_z_false e = grind (arith, ints)

-- an order between what is read back, as one between the numbers
module _ {t s z y : ℤ} (p : t ≡ z) (q : s ≡ y) where
  pub lt_plain : t <ℤ s → z <ℤ y
  lt_plain h = subst₂ ◌<ℤ◌ p q h

  pub le_plain : t ≤ℤ s → z ≤ℤ y
  le_plain h = subst₂ ◌≤ℤ◌ p q h
