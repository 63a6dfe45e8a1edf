-- The upper chain of some of the keys, above which none of the others is, is that of all. Assumes nothing.
use mathlib.Core.Path.{◌≡◌, sym, ap, ◌∙◌}
use mathlib.Core.List.{List}
use Prim.Native.Nat.{ℕ, suc, ◌+◌, ◌-◌, ◌≤◌, ◌<◌}
use native.Mathlib.Omega.{arith}
use lib.ListN.{length}
use Rattle.orders.specs.Order.{get, EachAmong}
use Rattle.orders.proofs.Pigeons.{within_few}
use Rattle.chains.specs.Chains.{Chain, Under, framed}
use Rattle.extremes.specs.Inner.{Among}
use Rattle.chains.proofs.Framing.{Place, at_first, amid, at_last, place_of, framed_at, framed_last}
use Rattle.hulls.proofs.Fan.{rises}

-- some of the m keys of q, with the first and the last of q, and no key is above them
pub record Half (q : ℕ → ℕ) (m first : ℕ) (l : List ℕ) (last : ℕ) : Type 0 where
  pub some : 1 ≤ m
  pub first_is : q 0 ≡ first
  pub last_is : q (m - 1) ≡ last
  pub from : EachAmong (get l) (length l) q m
  pub under : (i : ℕ) → i < m → Under first (get l) (length l) last (q i)

module _ (q : ℕ → ℕ) (m first : ℕ) (l : List ℕ) (last : ℕ) (h : Half q m first l last) (s : ℕ → ℕ) (k : ℕ) (ch : Chain (framed first l last) (length l + 2) s k) where
  framed_from : (j : ℕ) → Place (length l) j → Among q m (framed first l last j)
  framed_from j (at_first e) = (0, omega (arith, h.some), rw e (sym h.first_is))
  framed_from j (amid x o e) = let r = h.from.find x o in (r.0, r.1, rw (e, framed_at first l last x o) r.2)
  framed_from j (at_last e) = (m - 1, omega (arith, h.some), rw (e, framed_last first l last) (sym h.last_is))

  vertices_from_lem : EachAmong s k q m
  vertices_from_lem =
      record { find = λ j o. let r = ch.from j o in let x = framed_from r.0 (place_of (length l) r.0 r.1) in (x.0, x.1, r.2 ∙ x.2) }

  pub widen : Chain q m s k
  widen =
      record {
        some = ch.some;
        few = within_few vertices_from_lem (λ i j a b e. let c = rises (framed first l last) (length l + 2) s k ch i j a b in omega arith);
        first = ch.first ∙ sym h.first_is;
        last = λ i j a b. let c : m - 1 ≡ i = omega arith in
            ch.last (suc (length l)) j (omega arith) b ∙ framed_last first l last ∙ sym h.last_is ∙ ap q c;
        from = vertices_from_lem.find;
        rising = ch.rising;
        bends = ch.bends;
        right = λ i j o n. (h.under i o).right (s j) (s (suc j)) (ch.rising j n) (ch.right 0 j (omega arith) n)
            (λ x p. rw (← framed_at first l last x p) (ch.right (suc x) j (omega arith) n))
            (rw (← framed_last first l last) (ch.right (suc (length l)) j (omega arith) n));
      }
