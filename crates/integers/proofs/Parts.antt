-- Lists that are read in rows, lists that are written from the front, and a part `&mut out[k..]` that was passed on and is back. Assumes nothing.
use mathlib.Core.Path.{◌≡◌, sym}
use mathlib.Core.List.{List, ◌∷◌, ◌++◌}
use Prim.Native.Nat.{ℕ, suc, ◌+◌, ◌-◌, ◌≤◌, ◌<◌}
use native.Mathlib.Numerals.{add-one}
use native.Mathlib.Omega.{arith}
use Rattle.std.proofs.lemmas.Grind.{common_steps}
use lib.ListN.{length, get_or, take, drop, set}
use lib.Seq.{drop-cons, take-suc, set_at, append_snoc, length-take-le}

module _ {A : Type 0} where
  -- the next two and the next four elements from i on; z stands for what is past the end
  pub drop_two : (z : A) (xs : List A) (i : ℕ) → i + 1 < length xs → drop i xs ≡ get_or xs i z ∷ get_or xs (i + 1) z ∷ drop (i + 2) xs
  drop_two z xs i h = grind (arith, common_steps)

  pub drop_four : (z : A) (xs : List A) (i : ℕ) → i + 3 < length xs
      → drop i xs ≡ get_or xs i z ∷ get_or xs (i + 1) z ∷ get_or xs (i + 2) z ∷ get_or xs (i + 3) z ∷ drop (i + 4) xs
  drop_four z xs i h = grind (arith, common_steps)

  -- a turn of a loop that copies s over d
  pub over_more : (d s : List A) (j : ℕ) (z : A) → j < length d → j < length s → set (take j s ++ drop j d) j (get_or s j z) ≡ take (j + 1) s ++ drop (j + 1) d
  over_more d s j z h k =
      rw (drop-cons d j z h, set_at (take j s) (get_or d j z) (drop (suc j) d) (get_or s j z) j (length-take-le j s (omega arith)), add-one, take-suc s j z k)
      (sym (append_snoc (take j s) (get_or s j z) (drop (suc j) d)))

  -- `&xs[k..]` as a callee sees it
  pub tail_is : (k : ℕ) (xs : List A) → take (length xs - k) (drop k xs) ≡ drop k xs
  tail_is k xs = grind (arith, common_steps)

  -- `&mut xs[k..]` passed to a callee that leaves  f l  where it found l: the whole is then  take k xs ++ f (drop k xs)
  pub tail_call : (f : List A → List A) (k : ℕ) (xs ys : List A) → ys ≡ f (take (length xs - k) (drop k xs)) → take k xs ++ (ys ++ drop (length xs - k) (drop k xs)) ≡ take k xs ++ f (drop k xs)
  tail_call f k xs ys e = grind (arith, common_steps)

  -- two writes from the front, the second after the first
  pub then_write : (xs a b : List A) → length a ≤ length xs → take (length a) (a ++ drop (length a) xs) ++ (b ++ drop (length b) (drop (length a) (a ++ drop (length a) xs))) ≡ (a ++ b) ++ drop (length a + length b) xs
  then_write xs a b h = grind (arith, common_steps)
