-- Numbers of a list after a first and before a last (`framed` of specs/Halves), by index. Assumes nothing.
use mathlib.Core.Path.{◌≡◌, refl}
use mathlib.Core.List.{List, [], ◌∷◌}
use Prim.Native.Nat.{ℕ, zero, suc, ◌+◌, ◌≤◌, ◌<◌}
use native.Mathlib.Decide.{dec_lt}
use native.Mathlib.Omega.{arith}
use lib.ListN.{length, get_or-append}
use lib.Seq.{get_or-append_seam}
use Rattle.orders.specs.Order.{get, Sorted}
use Rattle.turns.specs.Keys.{IsKey, AllKeys}
use Rattle.chains.specs.Chains.{Amid, framed}

-- where the i-th of m framed numbers stands
pub data Place (m i : ℕ) : Type 0 where
  at_first : i ≡ 0 → Place m i
  amid : (j : ℕ) → j < m → i ≡ suc j → Place m i
  at_last : i ≡ suc m → Place m i

pub place_of : (m i : ℕ) → i < m + 2 → Place m i
place_of m zero h = at_first refl
place_of m (suc i) h = go (dec_lt i m)
  where
    go : Dec (i < m) → Place m (suc i)
    go (yes o) = amid i o refl
    go (no o) = at_last (omega arith)

module _ (first : ℕ) (l : List ℕ) (last : ℕ) where
  pub framed_at : (i : ℕ) → i < length l → framed first l last (suc i) ≡ get l i
  framed_at i h = get_or-append l (last ∷ []) 0 i h

  pub framed_last : framed first l last (suc (length l)) ≡ last
  framed_last = get_or-append_seam l last [] 0

  -- all but the last are keys
  pub framed_keys : IsKey first → AllKeys (get l) (length l) → AllKeys (framed first l last) (length l + 1)
  framed_keys f ks = record { key = λ i h. go i h (place_of (length l) i (omega arith)) }
    where
      go : (i : ℕ) → i < length l + 1 → Place (length l) i → IsKey (framed first l last i)
      go i h (at_first e) = rw e f
      go i h (amid j o e) = rw (e, framed_at j o) (ks.key j o)
      go i h (at_last e) = absurd (omega arith)

  module _ (h : first < last) (a : Amid (get l) (length l) first last) where
    pub framed_above : (i : ℕ) → 0 < i → i < length l + 2 → first < framed first l last i
    framed_above i z o = go (place_of (length l) i o)
      where
        go : Place (length l) i → first < framed first l last i
        go (at_first e) = absurd (omega arith)
        go (amid j p e) = rw (e, framed_at j p) (a.above j p)
        go (at_last e) = rw (e, framed_last) h

    framed_below : (i : ℕ) → i < length l + 2 → framed first l last i ≤ last
    framed_below i o = go (place_of (length l) i o)
      where
        go : Place (length l) i → framed first l last i ≤ last
        go (at_first e) = rw e (omega arith)
        go (amid j p e) = rw (e, framed_at j p) (let b = a.below j p in omega arith)
        go (at_last e) = rw (e, framed_last) (omega arith)

    pub framed_sorted : Sorted (get l) 0 (length l) → Sorted (framed first l last) 0 (length l + 2)
    framed_sorted s = record { le = λ i j z o p. go i j o p (place_of (length l) i (omega arith)) (place_of (length l) j p) }
      where
        go : (i j : ℕ) → i ≤ j → j < length l + 2 → Place (length l) i → Place (length l) j → framed first l last i ≤ framed first l last j
        go i j o p q (at_last e) = let b = framed_below i (omega arith) in rw (e, framed_last) b
        go i j o p (at_first d) (at_first e) = rw (d, e) (omega arith)
        go i j o p (at_first d) (amid y f e) = rw (d, e, framed_at y f) (let b = a.above y f in omega arith)
        go i j o p (amid x g d) (at_first e) = absurd (omega arith)
        go i j o p (at_last d) (at_first e) = absurd (omega arith)
        go i j o p (amid x g d) (amid y f e) = rw (d, e, framed_at x g, framed_at y f) (s.le x y (omega arith) (omega arith) f)
        go i j o p (at_last d) (amid y f e) = absurd (omega arith)
