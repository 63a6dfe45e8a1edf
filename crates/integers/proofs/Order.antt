-- The order of the integers. lib.Signed has ≤ℤ-refl, <ℤ-≤ℤ-trans, <ℤ-irrefl and clashℤ.
-- What is linear is `lin`'s, and a product's sign comes from `mul_nn` and `mul_pos`. Numbers are implicit where a hypothesis shows them.
-- Assumes nothing.
use mathlib.Core.Path.{◌≡◌, sym}
use mathlib.Core.Logic.{◌⊎◌, inl, inr, ⊎_elim}
use Prim.Native.Nat.{ℕ, suc, ◌*◌, zero-le}
use native.Mathlib.Omega.{arith}
use Rattle.std.proofs.lemmas.Int.{ints, by_lt_z}
use lib.Dec.{le→leb}
use lib.IntN.{ℤ, pos, negsuc, ◌+ℤ◌, ◌*ℤ◌, ◌-ℤ◌, neg_ℤ}
use lib.Signed.{◌≤ℤ◌, ◌<ℤ◌}
use Rattle.integers.proofs.Expr.{◌⊕◌, ◌⊖◌, ◌⊗◌, ⊝◌, #◌, ◌≐◌, ◌≼◌, ◌≺◌, ◌⟹◌, ◌&◌}
use Rattle.integers.proofs.Lin.{lin}

-- the orders once more, to be read after + and *: lib.Signed's bind tighter, so that `a +ℤ b ≤ℤ c` is no order there and wants `(a +ℤ b) ≤ℤ c`
infix 5 ◌≤ᶻ◌ ◌<ᶻ◌
abbrev pub ◌≤ᶻ◌ : ℤ → ℤ → Type 0
a ≤ᶻ b = a ≤ℤ b

abbrev pub ◌<ᶻ◌ : ℤ → ℤ → Type 0
a <ᶻ b = a <ℤ b

-- ---- chains

pub ≤_trans : {a b c : ℤ} → a ≤ℤ b → b ≤ℤ c → a ≤ℤ c
≤_trans h k = omega (arith, ints)

pub ≤-<-trans : {a b c : ℤ} → a ≤ℤ b → b <ℤ c → a <ℤ c
≤-<-trans h k = omega (arith, ints)

pub <→≤ : {a b : ℤ} → a <ℤ b → a ≤ℤ b
<→≤ h = omega (arith, ints)

pub ≡→≤ : {a b : ℤ} → a ≡ b → a ≤ℤ b
≡→≤ e = omega (arith, ints)

pub ≤-antisym : {a b : ℤ} → a ≤ℤ b → b ≤ℤ a → a ≡ b
≤-antisym h k = omega (arith, ints)

-- ---- one of two, one of three

pub lt_or_ge : (a b : ℤ) → (a <ℤ b) ⊎ (b ≤ℤ a)
lt_or_ge a b = by_lt_z a b inl inr

pub ≤-total : (a b : ℤ) → (a ≤ℤ b) ⊎ (b ≤ℤ a)
≤-total a b = ⊎_elim (λ h. inl (<→≤ h)) (λ h. inr h) (lt_or_ge a b)

pub data Cmp (a b : ℤ) : Type 0 where
  is_less : a <ℤ b → Cmp a b
  is_same : a ≡ b → Cmp a b
  is_more : b <ℤ a → Cmp a b

pub compareℤ : (a b : ℤ) → Cmp a b
compareℤ a b = go (lt_or_ge a b) (lt_or_ge b a)
  where
    go : (a <ℤ b) ⊎ (b ≤ℤ a) → (b <ℤ a) ⊎ (a ≤ℤ b) → Cmp a b
    go (inl h) k = is_less h
    go (inr h) (inl k) = is_more k
    go (inr h) (inr k) = is_same (≤-antisym k h)

pub ≤-dec : (a b : ℤ) → Dec (a ≤ℤ b)
≤-dec a b = go (lt_or_ge b a)
  where
    go : (b <ℤ a) ⊎ (a ≤ℤ b) → Dec (a ≤ℤ b)
    go (inl h) = no (λ k. omega (arith, ints))
    go (inr h) = yes h

pub not-≤ : {a b : ℤ} → ¬ (a ≤ℤ b) → b <ℤ a
not-≤ {a} {b} f = grind (arith, ints)

pub not-< : {a b : ℤ} → ¬ (a <ℤ b) → b ≤ℤ a
not-< {a} {b} f = grind (arith, ints)

-- ---- an order and the sign of a difference

pub ≤→nn : {a b : ℤ} → a ≤ℤ b → pos 0 ≤ℤ (b -ℤ a)
≤→nn h = omega (arith, ints)

pub nn→≤ : {a b : ℤ} → pos 0 ≤ℤ (b -ℤ a) → a ≤ℤ b
nn→≤ h = omega (arith, ints)

pub <→pos : {a b : ℤ} → a <ℤ b → pos 0 <ℤ (b -ℤ a)
<→pos h = omega (arith, ints)

pub pos→< : {a b : ℤ} → pos 0 <ℤ (b -ℤ a) → a <ℤ b
pos→< h = omega (arith, ints)

-- ---- sums

pub add_nn : {a b : ℤ} → pos 0 ≤ℤ a → pos 0 ≤ℤ b → pos 0 ≤ℤ (a +ℤ b)
add_nn h k = omega (arith, ints)

pub add_pos_nn : {a b : ℤ} → pos 0 <ℤ a → pos 0 ≤ℤ b → pos 0 <ℤ (a +ℤ b)
add_pos_nn h k = omega (arith, ints)

pub add_nn_pos : {a b : ℤ} → pos 0 ≤ℤ a → pos 0 <ℤ b → pos 0 <ℤ (a +ℤ b)
add_nn_pos h k = omega (arith, ints)

-- ---- the sign of a product, from its factors'. `nn`: not negative, `np`: not positive

pub pos_nn : (n : ℕ) → pos 0 ≤ℤ pos n
pos_nn n = record { le = le→leb 0 n zero-le }

pub mul_nn : {a b : ℤ} → pos 0 ≤ℤ a → pos 0 ≤ℤ b → pos 0 ≤ℤ (a *ℤ b)
mul_nn {a = pos m} {b = pos n} h k = pos_nn (m * n)
mul_nn {a = pos m} {b = negsuc n} h k = absurd k.le
mul_nn {a = negsuc m} h k = absurd h.le

pub sq_nn : (a : ℤ) → pos 0 ≤ℤ (a *ℤ a)
sq_nn (pos n) = pos_nn (n * n)
sq_nn (negsuc n) = pos_nn (suc n * suc n)

-- (a − 1)(b − 1) + (a − 1) + (b − 1) = a b − 1
pub mul_pos : {a b : ℤ} → pos 0 <ℤ a → pos 0 <ℤ b → pos 0 <ℤ (a *ℤ b)
mul_pos {a} {b} h k =
    lin 0 2 (λ a b. # 0 ≺ a ⟹ # 0 ≺ b ⟹ # 0 ≼ (a ⊖ # 1) ⊗ (b ⊖ # 1) ⟹ # 0 ≺ a ⊗ b) (omega arith) a b h k (mul_nn (less1 h) (less1 k))
  where
    less1 : {a : ℤ} → pos 0 <ℤ a → pos 0 ≤ℤ (a -ℤ pos 1)
    less1 h = omega (arith, ints)

neg_of : {a : ℤ} → a <ℤ pos 0 → pos 0 <ℤ neg_ℤ a
neg_of h = omega (arith, ints)

np_of : {a : ℤ} → a ≤ℤ pos 0 → pos 0 ≤ℤ neg_ℤ a
np_of h = omega (arith, ints)

pub mul_nn_np : {a b : ℤ} → pos 0 ≤ℤ a → b ≤ℤ pos 0 → (a *ℤ b) ≤ℤ pos 0
mul_nn_np {a} {b} h k = lin 0 2 (λ a b. # 0 ≼ a ⊗ ⊝ b ⟹ a ⊗ b ≼ # 0) (omega arith) a b (mul_nn h (np_of k))

pub mul_pos_neg : {a b : ℤ} → pos 0 <ℤ a → b <ℤ pos 0 → (a *ℤ b) <ℤ pos 0
mul_pos_neg {a} {b} h k = lin 0 2 (λ a b. # 0 ≺ a ⊗ ⊝ b ⟹ a ⊗ b ≺ # 0) (omega arith) a b (mul_pos h (neg_of k))

pub mul_neg_neg : {a b : ℤ} → a <ℤ pos 0 → b <ℤ pos 0 → pos 0 <ℤ (a *ℤ b)
mul_neg_neg {a} {b} h k = lin 0 2 (λ a b. # 0 ≺ ⊝ a ⊗ ⊝ b ⟹ # 0 ≺ a ⊗ b) (omega arith) a b (mul_pos (neg_of h) (neg_of k))

-- ---- the sign of a factor, from the product's and the other factor's

pub pos_of_mul : {a : ℤ} (b : ℤ) → pos 0 <ℤ a → pos 0 <ℤ (a *ℤ b) → pos 0 <ℤ b
pos_of_mul {a} b h k = not-≤ (λ j. let l = mul_nn_np (<→≤ h) j in omega (arith, ints))

pub nn_of_mul : {a : ℤ} (b : ℤ) → pos 0 <ℤ a → pos 0 ≤ℤ (a *ℤ b) → pos 0 ≤ℤ b
nn_of_mul {a} b h k = not-< (λ j. let l = mul_pos_neg h j in omega (arith, ints))

pub np_of_mul : {a : ℤ} (b : ℤ) → pos 0 <ℤ a → (a *ℤ b) ≤ℤ pos 0 → b ≤ℤ pos 0
np_of_mul {a} b h k = not-< (λ j. let l = mul_pos h j in omega (arith, ints))

pub zero_of_mul : {a : ℤ} (b : ℤ) → pos 0 <ℤ a → a *ℤ b ≡ pos 0 → b ≡ pos 0
zero_of_mul b h e = ≤-antisym (np_of_mul b h (≡→≤ e)) (nn_of_mul b h (≡→≤ (sym e)))

pub mul_zero : (a b : ℤ) → a *ℤ b ≡ pos 0 → (a ≡ pos 0) ⊎ (b ≡ pos 0)
mul_zero a b e = go (compareℤ a (pos 0))
  where
    go : Cmp a (pos 0) → (a ≡ pos 0) ⊎ (b ≡ pos 0)
    go (is_less h) = inr (zero_of_mul b (neg_of h) (lin 0 2 (λ a b. a ⊗ b ≐ # 0 ⟹ ⊝ a ⊗ b ≐ # 0) (omega arith) a b e))
    go (is_same h) = inl h
    go (is_more h) = inr (zero_of_mul b h e)

-- ---- a factor on both sides

pub *-mono-l : {a b : ℤ} (c : ℤ) → pos 0 ≤ℤ c → a ≤ℤ b → (c *ℤ a) ≤ℤ (c *ℤ b)
*-mono-l {a} {b} c h k = lin 0 3 (λ a b c. # 0 ≼ c ⊗ (b ⊖ a) ⟹ c ⊗ a ≼ c ⊗ b) (omega arith) a b c (mul_nn h (≤→nn k))

pub *-cancel-≤ : {a b : ℤ} (c : ℤ) → pos 0 <ℤ c → (c *ℤ a) ≤ℤ (c *ℤ b) → a ≤ℤ b
*-cancel-≤ {a} {b} c h k = nn→≤ (nn_of_mul (b -ℤ a) h (lin 0 3 (λ a b c. c ⊗ a ≼ c ⊗ b ⟹ # 0 ≼ c ⊗ (b ⊖ a)) (omega arith) a b c k))

-- ---- bounds

-- |x| ≤ B and |y| ≤ C bound the product: (B − x)(C + y) + (B + x)(C − y) = 2 (B C − x y), and so for −x
pub mul_bound : {B C x y : ℤ} → neg_ℤ B ≤ℤ x → x ≤ℤ B → neg_ℤ C ≤ℤ y → y ≤ℤ C → (neg_ℤ (B *ℤ C) ≤ℤ (x *ℤ y)) × ((x *ℤ y) ≤ℤ (B *ℤ C))
mul_bound {B} {C} {x} {y} h₁ h₂ k₁ k₂ =
    lin 0 4
    (λ B C x y. # 0 ≼ (B ⊖ x) ⊗ (C ⊕ y) ⟹ # 0 ≼ (B ⊕ x) ⊗ (C ⊖ y) ⟹ # 0 ≼ (B ⊖ x) ⊗ (C ⊖ y) ⟹ # 0 ≼ (B ⊕ x) ⊗ (C ⊕ y)
    ⟹ ⊝ (B ⊗ C) ≼ x ⊗ y & x ⊗ y ≼ B ⊗ C)
    (omega arith) B C x y (mul_nn lx ly') (mul_nn lx' ly) (mul_nn lx ly) (mul_nn lx' ly')
  where
    lx : pos 0 ≤ℤ (B -ℤ x)
    lx = omega (arith, ints)

    ly : pos 0 ≤ℤ (C -ℤ y)
    ly = omega (arith, ints)

    lx' : pos 0 ≤ℤ (B +ℤ x)
    lx' = omega (arith, ints)

    ly' : pos 0 ≤ℤ (C +ℤ y)
    ly' = omega (arith, ints)
