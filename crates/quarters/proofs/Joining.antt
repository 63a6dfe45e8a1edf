-- The keys before a northmost one, it, and those behind it, as one list (`UpperList` of specs/Quarters). Assumes nothing.
use mathlib.Core.Path.{◌≡◌, refl, sym, ◌∙◌, ap}
use mathlib.Core.Logic.{◌⊎◌, inl, inr, ⊎_elim}
use mathlib.Core.List.{List, ◌++◌}
use Prim.Native.Nat.{ℕ, ◌+◌, ◌-◌, ◌≤◌, ◌<◌}
use native.Mathlib.Decide.{dec_lt}
use native.Mathlib.Omega.{arith}
use lib.IntN.{pos}
use lib.Signed.{◌≤ℤ◌}
use lib.ListN.{length, take, drop, length-drop, get_or-append}
use lib.Seq.{length-take-le, get_or-take, get_or-append-add}
use Rattle.integers.proofs.Order.{lt_or_ge}
use Rattle.orders.specs.Order.{get, Sorted}
use Rattle.chains.specs.Chains.{turn, Amid, Under}
use Rattle.extremes.specs.Inner.{Among}
use Rattle.chains.proofs.Covering.{under_first, under_last, under_among, under_between}
use Rattle.quarters.specs.Quarters.{Northmost, Outside, SortedQuarter, PeakPut, FromTo, UpperList}

-- a key that is not outside, but between the two in order, is right of the line from the one to the other or on it
not_left : {from to k : ℕ} → (Outside from to k → ⊥) → from < k → k < to → turn from to k ≤ℤ pos 0
not_left {from} {to} {k} f h o = ⊎_elim (λ l. absurd (f (record { after = h; before = o; left = l }))) (λ z. z) (lt_or_ge (pos 0) (turn from to k))

-- a keys of left in o₁; peak behind them, or not, in o₂, at in all; b keys of right in p; and both in out
module _ (left right o₁ o₂ p out : List ℕ) (first peak last a at b : ℕ) (lf : FromTo left first last) (rf : FromTo right first last) (n : Northmost left peak)
    (q : SortedQuarter left first peak o₁ a) (pp : PeakPut first peak last o₁ a o₂ at) (r : SortedQuarter right peak last p b)
    (before : (j : ℕ) → j < at → get out j ≡ get o₂ j) (after : (i : ℕ) → i < b → get out (at + i) ≡ get p i) where
  -- where the j-th of out comes from
  data Place (j : ℕ) : Type 0 where
    of_left : j < a → get out j ≡ get o₁ j → Place j
    of_peak : j ≡ a → at ≡ a + 1 → first < peak → peak < last → get out j ≡ peak → Place j
    of_right : (i : ℕ) → i < b → j ≡ at + i → get out j ≡ get p i → Place j

  at_least : a ≤ at
  at_least = ⊎_elim (λ z. omega (arith, z.0)) (λ z. omega (arith, z.0)) pp.put

  place : (j : ℕ) → j < at + b → Place j
  place j h = go (dec_lt j a) (dec_lt j at)
    where
      behind : (at ≤ j) → Place j
      behind o = let e : at + (j - at) ≡ j = omega arith in of_right (j - at) (omega arith) (sym e) (ap (get out) (sym e) ∙ after (j - at) (omega arith))

      go : Dec (j < a) → Dec (j < at) → Place j
      go (yes o) d = of_left o (before j (omega (arith, at_least)) ∙ pp.kept j o)
      go (no o) (no d) = behind (omega arith)
      go (no o) (yes d) =
          ⊎_elim (λ z. absurd (omega (arith, z.0)))
          (λ z. let e : j ≡ a = omega (arith, z.0) in of_peak e z.0 z.1 z.2 (before j d ∙ ap (get o₂) e ∙ z.3)) pp.put

  peak_first : first ≤ peak
  peak_first = let x = n.listed in omega (arith, x.2, lf.least x.0 x.1)

  peak_last : peak ≤ last
  peak_last = let x = n.listed in omega (arith, x.2, lf.most x.0 x.1)

  outside_left : (j : ℕ) → j < a → Outside first peak (get o₁ j)
  outside_left j h = let x = q.quarter.part.from j h in rw x.2 x.3

  outside_right : (i : ℕ) → i < b → Outside peak last (get p i)
  outside_right i h = let x = r.quarter.part.from i h in rw x.2 x.3

  upper_sorted : Sorted (get out) 0 (at + b)
  upper_sorted = record { le = λ i j z o h. go i j o (place i (omega arith)) (place j h) }
    where
      go : (i j : ℕ) → i ≤ j → Place i → Place j → get out i ≤ get out j
      go i j o (of_left x e) (of_left y f) = omega (arith, e, f, q.sorted.le i j (omega arith) o y)
      go i j o (of_left x e) (of_peak y k l m f) = omega (arith, e, f, (outside_left i x).before)
      go i j o (of_left x e) (of_right y k l f) = omega (arith, e, f, (outside_left i x).before, (outside_right y k).after)
      go i j o (of_peak x k l m e) (of_left y f) = absurd (omega arith)
      go i j o (of_peak x k l m e) (of_peak y s t u f) = omega (arith, e, f)
      go i j o (of_peak x k l m e) (of_right y s t f) = omega (arith, e, f, (outside_right y s).after)
      go i j o (of_right x k l e) (of_left y f) = absurd (omega (arith, at_least))
      go i j o (of_right x k l e) (of_peak y s t u f) = absurd (omega arith)
      go i j o (of_right x k l e) (of_right y s t f) = omega (arith, e, f, r.sorted.le x y (omega arith) (omega arith) s)

  upper_amid : Amid (get out) (at + b) first last
  upper_amid = record { above = λ j h. above j (place j h); below = λ j h. below j (place j h) }
    where
      above : (j : ℕ) → Place j → first < get out j
      above j (of_left x e) = omega (arith, e, (outside_left j x).after)
      above j (of_peak x k l m e) = omega (arith, e)
      above j (of_right i k l e) = omega (arith, e, (outside_right i k).after, peak_first)

      below : (j : ℕ) → Place j → get out j < last
      below j (of_left x e) = omega (arith, e, (outside_left j x).before, peak_last)
      below j (of_peak x k l m e) = omega (arith, e)
      below j (of_right i k l e) = omega (arith, e, (outside_right i k).before)

  upper_from : (j : ℕ) → Place j → Among (get left) (length left) (get out j) ⊎ Among (get right) (length right) (get out j)
  upper_from j (of_left x e) = let w = q.quarter.part.from j x in inl (w.0, w.1, e ∙ w.2)
  upper_from j (of_peak x k l m e) = let w = n.listed in inl (w.0, w.1, e ∙ w.2)
  upper_from j (of_right i k l e) = let w = r.quarter.part.from i k in inr (w.0, w.1, e ∙ w.2)

  peak_under : Under first (get out) (at + b) last peak
  peak_under = ⊎_elim (λ z. ⊎_elim (λ x. under_first (omega (arith, peak_first))) (λ x. under_last (omega (arith, peak_last))) z.1)
      (λ z. under_among a (omega (arith, z.0)) (sym (before a (omega (arith, z.0)) ∙ z.3))) pp.put

  left_under : (i : ℕ) → i < length left → get left i ≤ peak → Under first (get out) (at + b) last (get left i)
  left_under i h o = go (dec_lt first (get left i)) (dec_lt (get left i) peak)
    where
      kept : Among (get o₁) a (get left i) → Under first (get out) (at + b) last (get left i)
      kept w = under_among w.0 (omega (arith, w.1, at_least)) (w.2 ∙ sym (before w.0 (omega (arith, w.1, at_least)) ∙ pp.kept w.0 w.1))

      go : Dec (first < get left i) → Dec (get left i < peak) → Under first (get out) (at + b) last (get left i)
      go (yes x) (yes y) =
          ⊎_elim kept (λ f. under_between (under_first {k = first} refl) peak_under (omega arith) o (not_left f x y)) (q.quarter.part.rest i h)
      go (no x) d = under_first (omega (arith, lf.least i h))
      go (yes x) (no y) = let e : get left i ≡ peak = omega arith in rw e peak_under

  right_under : (i : ℕ) → i < length right → peak ≤ get right i → Under first (get out) (at + b) last (get right i)
  right_under i h o = go (dec_lt peak (get right i)) (dec_lt (get right i) last)
    where
      kept : Among (get p) b (get right i) → Under first (get out) (at + b) last (get right i)
      kept w = under_among (at + w.0) (omega (arith, w.1)) (w.2 ∙ sym (after w.0 w.1))

      go : Dec (peak < get right i) → Dec (get right i < last) → Under first (get out) (at + b) last (get right i)
      go (yes x) (yes y) =
          ⊎_elim kept (λ f. under_between peak_under (under_last {k = last} refl) o (omega arith) (not_left f x y)) (r.quarter.part.rest i h)
      go (no x) d = let e : get right i ≡ peak = omega arith in rw e peak_under
      go (yes x) (no y) = under_last (omega (arith, rf.most i h))

  pub joined : UpperList left right first last out (at + b)
  joined =
      record {
        few = ⊎_elim (λ z. omega (arith, z.0, q.quarter.few, r.quarter.few)) (λ z. omega (arith, z.0, q.quarter.few, r.quarter.few)) pp.put;
        sorted = upper_sorted;
        amid = upper_amid;
        from = λ j h. upper_from j (place j h);
        peak = peak;
        northmost = n;
        left_under = left_under;
        right_under = right_under;
      }

-- ---- a part that was lent on, in the whole

module _ (n : ℕ) (xs ys zs : List ℕ) (h : n ≤ length xs) where
  taken : length (take n xs) ≡ n
  taken = length-take-le n xs h

  pub whole_before : (j : ℕ) → j < n → get (take n xs ++ (ys ++ zs)) j ≡ get xs j
  whole_before j o = get_or-append (take n xs) (ys ++ zs) 0 j (omega (arith, taken)) ∙ get_or-take n xs j 0 o

  pub whole_after : (i : ℕ) → i < length ys → get (take n xs ++ (ys ++ zs)) (n + i) ≡ get ys i
  whole_after i o =
      ap (λ m. get (take n xs ++ (ys ++ zs)) (m + i)) (sym taken) ∙ get_or-append-add (take n xs) (ys ++ zs) i 0 ∙ get_or-append ys zs 0 i o

-- as long as what is left
pub rest_length : (n : ℕ) (xs : List ℕ) → n ≤ length xs → length (take (length xs - n) (drop n xs)) ≡ length xs - n
rest_length n xs h = length-take-le (length xs - n) (drop n xs) (simp length-drop (omega arith))
