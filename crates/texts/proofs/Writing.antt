-- Texts written one behind another. Assumes nothing.
use mathlib.Core.Path.{◌≡◌, refl, sym, ◌∙◌, ap, subst}
use mathlib.Core.List.{List, [], ◌∷◌, ◌++◌}
use Prim.Native.Nat.{ℕ, suc, ◌+◌, ◌-◌, ◌/◌, ◌%◌, ◌≤◌, ◌<◌}
use native.Mathlib.Omega.{arith}
use native.Mathlib.Numerals.{add-one}
use lib.ListN.{length, get_or, take, drop, set, length-append, length-drop}
use lib.Seq.{drop-cons, set_at, append_snoc}
use Rattle.integers.proofs.Parts.{tail_call, then_write}
use Rattle.texts.specs.Decimals.{digit, decimal}
use Rattle.texts.specs.Text.{Wrote}
use Rattle.texts.proofs.Decimals.{decimal_small, decimal_large, length_small, length_large}

-- a second text behind the first, by a call that was lent what the first left
pub then_wrote : {a b xs ys zs : List ℕ} {n m : ℕ} → Wrote a xs n ys → length a ≤ length xs → Wrote b (take (length ys - n) (drop n ys)) m zs
    → Wrote (a ++ b) xs (n + m) (take n ys ++ (zs ++ drop (length ys - n) (drop n ys)))
then_wrote {a} {b} {xs} {ys} {zs} {n} {m} f h g =
    record {
      counted = rw (f.counted, g.counted, length-append);
      bytes =
          tail_call (λ l. b ++ drop (length b) l) n ys zs g.bytes
          ∙ rw (f.counted, f.bytes, length-append) (then_write xs a b h);
    }

-- nothing is written yet
pub wrote_none : (xs : List ℕ) → Wrote [] xs 0 xs
wrote_none xs = record { counted = refl; bytes = refl }

-- one more byte
pub then_byte : {a xs ys : List ℕ} {n : ℕ} (b : ℕ) → Wrote a xs n ys → length a < length xs → Wrote (a ++ (b ∷ [])) xs (n + 1) (set ys n b)
then_byte {a} {xs} {ys} {n} b f h =
    record {
      counted = rw (f.counted, length-append);
      bytes =
          rw (f.counted, f.bytes, length-append, drop-cons xs (length a) 0 h, set_at a (get_or xs (length a) 0) (drop (suc (length a)) xs) b (length a) refl, add-one)
          (sym (append_snoc a b (drop (suc (length a)) xs)));
    }

-- ---- digits

-- a number below ten
pub wrote_digit : (n : ℕ) (xs : List ℕ) → n < 10 → length (decimal n) ≤ length xs → Wrote (decimal n) xs 1 (set xs 0 (digit n))
wrote_digit n xs h l = rw (decimal_small n h) (then_byte (digit n) (wrote_none xs) (omega (arith, length_small n h)))

-- any other, behind the number of its tens
pub then_digit : (n : ℕ) {xs ys : List ℕ} {k : ℕ} → 10 ≤ n → Wrote (decimal (n / 10)) xs k ys → length (decimal n) ≤ length xs
    → Wrote (decimal n) xs (k + 1) (set ys k (digit (n % 10)))
then_digit n h f l = rw (decimal_large n h) (then_byte (digit (n % 10)) f (omega (arith, length_large n h)))

-- one of two digits
pub wrote_two : (n : ℕ) (xs : List ℕ) → 10 ≤ n → n < 100 → length (decimal n) ≤ length xs → Wrote (decimal n) xs 2 (set (set xs 0 (digit (n / 10))) 1 (digit (n % 10)))
wrote_two n xs h s l = then_digit n h (wrote_digit (n / 10) xs (omega arith) (omega (arith, length_large n h))) l

-- one of more, its two last digits behind the number of its hundreds
pub then_two : (n : ℕ) {xs ys : List ℕ} {k : ℕ} → 100 ≤ n → Wrote (decimal (n / 10 / 10)) xs k ys → length (decimal n) ≤ length xs
    → Wrote (decimal n) xs (k + 2) (set (set ys k (digit (n / 10 % 10))) (k + 1) (digit (n % 10)))
then_two n {xs} {ys} {k} h f l =
    let g : 10 ≤ n = omega arith in
    subst (λ m. Wrote (decimal n) xs m (set (set ys k (digit (n / 10 % 10))) (k + 1) (digit (n % 10)))) (omega arith)
    (then_digit n g (then_digit (n / 10) (omega arith) f (omega (arith, length_large n g))) l)

-- the buffer keeps its length
pub wrote_length : {a xs ys : List ℕ} {n : ℕ} → Wrote a xs n ys → length a ≤ length xs → length ys ≡ length xs
wrote_length {a} {xs} f h = ap length f.bytes ∙ length-append a (drop (length a) xs) ∙ omega (arith, length-drop (length a) xs)

-- the text by another name
pub wrote_as : {a b xs ys : List ℕ} {n : ℕ} → a ≡ b → Wrote a xs n ys → Wrote b xs n ys
wrote_as {xs = xs} {ys = ys} {n = n} e f = subst (λ t. Wrote t xs n ys) e f
