-- Keys of a list that are outside a line, kept one by one; and the same in order. Assumes nothing.
use mathlib.Core.Path.{◌≡◌, refl, ◌∙◌, subst}
use mathlib.Core.Logic.{◌⊎◌, inl, inr, ⊎_elim}
use mathlib.Core.List.{List}
use Prim.Native.Nat.{ℕ, ◌+◌, ◌≤◌, ◌<◌}
use native.Mathlib.Decide.{dec_lt}
use native.Mathlib.Omega.{arith}
use lib.ListN.{length, set, length-set}
use lib.Seq.{get_or-set_same, get_or-set_other}
use Rattle.turns.specs.Keys.{north_part}
use Rattle.orders.specs.Order.{get}
use Rattle.extremes.specs.Inner.{Among}
use Rattle.halves.specs.Halves.{Part, Reordered}
use Rattle.halves.proofs.Halving.{part_none, part_more}
use Rattle.quarters.specs.Quarters.{Outside, KeptIf, Quarter, SortedQuarter}

-- ---- a northmost key

-- the same of the first i keys
pub record NorthmostUpto (l : List ℕ) (i p : ℕ) : Type 0 where
  pub i_in : i ≤ length l
  pub listed : Among (get l) (length l) p
  pub most : (j : ℕ) → j < i → north_part (get l j) ≤ north_part p

-- ---- keeping

-- after i keys are passed, n are in out
pub record Keeping (keys : List ℕ) (from to : ℕ) (out : List ℕ) (i n : ℕ) : Type 0 where
  pub i_in : i ≤ length keys
  pub few : n ≤ i
  part : Part (get keys) i (λ k. k) (get out) n (Outside from to) (λ k. Outside from to k → ⊥)

pub keeping_none : (keys : List ℕ) (from to : ℕ) (out : List ℕ) → Keeping keys from to out 0 0
keeping_none keys from to out = record { i_in = omega arith; few = omega arith; part = part_none (get keys) _ (get out) _ _ }

pub keeping_more : (keys : List ℕ) (from to : ℕ) (old : List ℕ) (i n : ℕ) (new : List ℕ) (m : ℕ) → i < length keys → n < length old → Keeping keys from to old i n
    → (x : ℕ) → x ≡ get keys i → KeptIf from to x old n new m → (length new ≡ length old) × Keeping keys from to new (i + 1) m
keeping_more keys from to old i n new m h k p x e t = ⊎_elim put left (subst (λ y. KeptIf from to y old n new m) e t).kept
  where
    put : (m ≡ n + 1) × Outside from to (get keys i) × (new ≡ set old n (get keys i)) → (length new ≡ length old) × Keeping keys from to new (i + 1) m
    put z =
        rw (z.0, z.2) (
          length-set old n (get keys i),
          record {
            i_in = omega arith;
            few = omega (arith, p.few);
            part =
                part_more (get keys) i (λ x. x) (get old) (get (set old n (get keys i))) n _ _ p.part (λ j l. get_or-set_other old n j (get keys i) 0 (λ z. omega arith))
                (get_or-set_same old n (get keys i) 0 k) 1 (inl (refl, z.1));
          },
        )

    left : (m ≡ n) × (Outside from to (get keys i) → ⊥) × (new ≡ old) → (length new ≡ length old) × Keeping keys from to new (i + 1) m
    left z = rw (z.0, z.2) (refl, record { i_in = omega arith; few = omega (arith, p.few); part = part_left p.part z.1 })
      where
        part_left : Part (get keys) i (λ k. k) (get old) n (Outside from to) (λ k. Outside from to k → ⊥) → (Outside from to (get keys i) → ⊥)
            → Part (get keys) (i + 1) (λ k. k) (get old) n (Outside from to) (λ k. Outside from to k → ⊥)
        part_left q f =
            record {
              from = λ j l. let r = q.from j l in (r.0, omega (arith, r.1), r.2, r.3);
              rest = λ j l. rest j l (dec_lt j i);
            }
          where
            rest : (j : ℕ) → j < i + 1 → Dec (j < i) → Among (get old) n (get keys j) ⊎ (Outside from to (get keys j) → ⊥)
            rest j l (yes o) = q.rest j o
            rest j l (no o) = let e : j ≡ i = omega arith in rw e (inr f)

pub keeping_end : (keys : List ℕ) (from to : ℕ) (out : List ℕ) (i n : ℕ) → length keys ≤ i → Keeping keys from to out i n → Quarter keys from to out n
keeping_end keys from to out i n h p =
    let e : i ≡ length keys = omega (arith, p.i_in) in
    record { few = omega (arith, p.few); part = subst (λ j. Part (get keys) j (λ k. k) (get out) n (Outside from to) (λ k. Outside from to k → ⊥)) e p.part }

-- ---- in order

pub sorted_quarter : {keys : List ℕ} {from to : ℕ} (old new : List ℕ) {n : ℕ} → Quarter keys from to old n → Reordered old new n → SortedQuarter keys from to new n
sorted_quarter {keys} {from} {to} old new {n} q r =
    record {
      quarter =
          record {
            few = q.few;
            part =
                record {
                  from = λ j h. let w = r.from.find j h in let x = q.part.from w.0 w.1 in (x.0, x.1, w.2 ∙ x.2, x.3);
                  rest = λ i h. ⊎_elim (λ a. let w = r.all.find a.0 a.1 in inl (w.0, w.1, a.2 ∙ w.2)) inr (q.part.rest i h);
                };
          };
      sorted = r.sorted;
    }
