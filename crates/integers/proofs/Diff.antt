-- An integer is a difference of two naturals. The library's `up z` and `down z` are its two parts, z = up z − down z, and `Is z a b` says that
-- z = a − b, for any two naturals. Sums, products, negations, equations and orders of integers are so carried to ℕ, where `omega`
-- proves what is linear in the monomials. The module `Lin` does that for a whole statement. Assumes nothing.
use mathlib.Core.Path.{◌≡◌, refl, ap}
use Prim.Native.Nat.{ℕ, ◌+◌, ◌*◌, ◌<◌, ◌≤◌}
use native.Mathlib.Omega.{arith}
use borrow.Author.Differences.{up, down, ints, product_is}
use lib.IntN.{ℤ, ◌+ℤ◌, ◌*ℤ◌, ◌-ℤ◌, neg_ℤ}
use lib.Signed.{◌≤ℤ◌, ◌<ℤ◌}

-- z = a − b. A record, so that a, b and z can be inferred from a proof
pub record Is (z : ℤ) (a b : ℕ) : Type 0 where
  pub is : up z + b ≡ a + down z

pub is_self : (z : ℤ) → Is z (up z) (down z)
is_self z = record { is = refl }

-- ---- the operations

pub is_neg : {z : ℤ} {a b : ℕ} → Is z a b → Is (neg_ℤ z) b a
is_neg h = record { is = omega (arith, ints) }

module _ {z w : ℤ} {a b c d : ℕ} (h : Is z a b) (k : Is w c d) where
  pub is_add : Is (z +ℤ w) (a + c) (b + d)
  is_add = record { is = omega (arith, ints) }

  pub is_sub : Is (z -ℤ w) (a + d) (b + c)
  is_sub = record { is = omega (arith, ints) }

  pub is_mul : Is (z *ℤ w) (a * c + b * d) (a * d + b * c)
  is_mul = record { is = omega (arith, product_is z w, ap (λ t. t * c) h.is, ap (λ t. t * d) h.is, ap (λ t. up z * t) k.is, ap (λ t. down z * t) k.is) }

  -- ---- equations and orders

  pub is_eq : a + d ≡ c + b → z ≡ w
  is_eq e = omega (arith, ints)

  pub eq_is : z ≡ w → a + d ≡ c + b
  eq_is e = omega (arith, ints)

  pub le_is : z ≤ℤ w → a + d ≤ c + b
  le_is o = omega (arith, ints)

  pub is_le : a + d ≤ c + b → z ≤ℤ w
  is_le o = omega (arith, ints)

  pub lt_is : z <ℤ w → a + d < c + b
  lt_is o = omega (arith, ints)

  pub is_lt : a + d < c + b → z <ℤ w
  is_lt o = omega (arith, ints)
