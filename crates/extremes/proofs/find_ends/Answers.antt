-- `extremes::find_ends` meets its contract. Assumes nothing.
use Rattle.std.proofs.Common.{◌≡◌, ℕ, ◌+◌, ◌<◌, ◌≤◌, List, length, map, refl, arith}
use Rattle.std.proofs.lemmas.List.{length-map}
use native.Mathlib.Decide.{dec_lt}
use Rattle.codes.proofs.Codes.{code_read}
use Rattle.orders.specs.Order.{get}
use Rattle.extremes.specs.Inner.{Among, Lesser, Greater}
use Rattle.extremes.proofs.Dropping.{taken}
use Rattle.extremes.proofs.find_ends.Goals as goal
use Rattle.extremes.proofs.find_ends.Invariants.{Sofar}

more : (l : List ℕ) (i first last a b : ℕ) → i < length l → Sofar l i first last → Lesser first (get l i) a → Greater last (get l i) b → Sofar l (i + 1) a b
more l i first last a b h s x y =
    record {
      i_in = omega arith;
      first_in = taken (Among (get l) (length l)) s.first_in (i, h, refl) x.either;
      last_in = taken (Among (get l) (length l)) s.last_in (i, h, refl) y.either;
      least = λ j o. least j o (dec_lt j i);
      most = λ j o. most j o (dec_lt j i);
    }
  where
    least : (j : ℕ) → j < i + 1 → Dec (j < i) → a ≤ get l j
    least j o (yes k) = omega (arith, s.least j k, x.first)
    least j o (no k) = let e : j ≡ i = omega arith in rw e x.second

    most : (j : ℕ) → j < i + 1 → Dec (j < i) → get l j ≤ b
    most j o (yes k) = omega (arith, s.most j k, y.first)
    most j o (no k) = let e : j ≡ i = omega arith in rw e y.second

pub loop-value-preserved : goal.loop-value-preserved
loop-value-preserved g c =
    let code = g.T.Coded.code in
    let values = c.args.values.now in
    let l = c.loop-value in
    let read = code_read code values l.value-index _ (omega arith) c.value-item.is in
    more (map code values) l.value-index _ _ _ _ (omega (arith, length-map values code)) l.invariant (rw (← read) c.lesser-first.ensures) (rw (← read) c.greater-last.ensures)
