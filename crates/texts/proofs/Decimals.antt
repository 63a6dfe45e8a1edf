-- Numbers in base ten: their last digit, and how many digits they have. Assumes nothing.
use mathlib.Core.Path.{◌≡◌, ◌∙◌, ap}
use mathlib.Core.List.{[], ◌∷◌, ◌++◌}
use Prim.Native.Nat.{ℕ, zero, suc, ◌+◌, ◌*◌, ◌/◌, ◌%◌, ◌^◌, ◌≤◌, ◌<◌}
use native.Mathlib.Nat.{pow-suc}
use native.Mathlib.Omega.{arith}
use native.Mathlib.Decide.{dec_lt}
use borrow.Author.Tests.{lt-ltb, le-ltb}
use lib.ListN.{length, length-append}
use Rattle.texts.specs.Decimals.{digit, digits_of, decimal}

-- more room than digits changes nothing
enough : (k m n : ℕ) → n < k → n < m → digits_of k n ≡ digits_of m n
unfolding digits_of
enough zero m n h l = absurd (omega arith)
enough (suc k) zero n h l = absurd (omega arith)
enough (suc k) (suc m) n h l =
    elim (dec_lt n 10) [
      | yes s ↦ rw (lt-ltb n 10 s)
      | no s ↦
          let g : 10 ≤ n = omega arith in
          rw (le-ltb n 10 g) (ap (λ ds. ds ++ (digit (n % 10) ∷ [])) (enough k m (n / 10) (omega arith) (omega arith)))
    ]

-- a number below ten is one digit
pub decimal_small : (n : ℕ) → n < 10 → decimal n ≡ digit n ∷ []
unfolding decimal digits_of
decimal_small n h = rw (lt-ltb n 10 h)

-- any other is the number of its tens, then its last digit
pub decimal_large : (n : ℕ) → 10 ≤ n → decimal n ≡ decimal (n / 10) ++ (digit (n % 10) ∷ [])
unfolding decimal digits_of
decimal_large n h = rw (le-ltb n 10 h) (ap (λ ds. ds ++ (digit (n % 10) ∷ [])) (enough n (suc (n / 10)) (n / 10) (omega arith) (omega arith)))

-- ---- how many digits

pub length_small : (n : ℕ) → n < 10 → length (decimal n) ≡ 1
length_small n h = rw (decimal_small n h)

pub length_large : (n : ℕ) → 10 ≤ n → length (decimal n) ≡ length (decimal (n / 10)) + 1
length_large n h = ap length (decimal_large n h) ∙ length-append (decimal (n / 10)) (digit (n % 10) ∷ [])

pub length_hundreds : (n : ℕ) → 100 ≤ n → length (decimal n) ≡ length (decimal (n / 10 / 10)) + 2
length_hundreds n h = omega (arith, length_large n (omega arith), length_large (n / 10) (omega arith))

-- a number below a power of ten has at most so many
pub few_digits : (k n : ℕ) → n < 10 ^ suc k → length (decimal n) ≤ suc k
few_digits zero n h = omega (arith, length_small n h)
few_digits (suc k) n h =
    elim (dec_lt n 10) [
      | yes s ↦ omega (arith, length_small n s)
      | no s ↦
          let g : 10 ≤ n = omega arith in
          let p : 10 ^ suc (suc k) ≡ 10 ^ suc k * 10 = pow-suc 10 (suc k) in
          let l : n / 10 < 10 ^ suc k = omega arith in
          omega (arith, length_large n g, few_digits k (n / 10) l)
    ]

-- a 64-bit number has at most twenty digits
pub twenty_digits : (n : ℕ) → n < 2 ^ 64 → length (decimal n) ≤ 20
twenty_digits n h = few_digits 19 n (omega arith)
