-- `chains::upper_chain` meets its contract. The invariant: the first k of stack are the chain over the first key and the m next. A turn is `next` of proofs/Chaining.
-- Assumes nothing.
use mathlib.Core.Path.{◌≡◌, sym, ap, ◌∙◌, subst}
use mathlib.Core.List.{List}
use Prim.Native.Nat.{ℕ, suc, ◌+◌, ◌≤◌, ◌<◌}
use native.Mathlib.Numerals.{add-one}
use native.Mathlib.Omega.{arith}
use lib.ListN.{length, set, take, length-set}
use Rattle.orders.specs.Order.{get, Sorted}
use Rattle.plane.specs.Members.{All}
use Rattle.turns.specs.Keys.{IsKey}
use Rattle.turns.proofs.Listed.{each_key, front_listed}
use Rattle.chains.specs.Chains.{Chain, Popped, Amid, framed}
use Rattle.chains.proofs.Chaining.{chain_keys, popped_front, next}
use Rattle.chains.proofs.Framing.{framed_at, framed_last, framed_keys, framed_above, framed_sorted}
use Rattle.chains.proofs.upper_chain.Goals as goal

module _ (first : ℕ) (keys : List ℕ) (last : ℕ) (stack : List ℕ) (m k : ℕ) (ch : Chain (framed first keys last) (suc m) (get stack) k)
    (long : length keys + 2 ≤ length stack) (in_keys : m ≤ length keys) where
  enough : k ≤ length stack
  enough = omega (arith, ch.few)

  vertices : IsKey first → All IsKey keys → All IsKey (take k stack)
  vertices f ks = front_listed stack k (chain_keys (framed_keys first keys last f (each_key ks)) (omega arith) ch)

  step : (n r : ℕ) → first < last → Sorted (get keys) 0 (length keys) × Amid (get keys) (length keys) first last → r ≡ framed first keys last (suc m)
      → Popped (get (take k stack)) (length (take k stack)) r n → Chain (framed first keys last) (suc (suc m)) (get (set stack n r)) (n + 1)
  step n r h s e p =
      let q = popped_front stack k r n enough p in
      next (framed first keys last) stack (suc m) k n r (omega arith) (omega (arith, q.most, ch.few))
      (record { le = λ i j a b c. (framed_sorted first keys last h s.1 s.0).le i j a b (omega arith) })
      (framed_above first keys last h s.1 (suc m) (omega arith) (omega arith)) e ch q

  finish : (n : ℕ) → first < last → Sorted (get keys) 0 (length keys) × Amid (get keys) (length keys) first last → length keys ≡ m
      → Popped (get (take k stack)) (length (take k stack)) last n → Chain (framed first keys last) (length keys + 2) (get (set stack n last)) (n + 1)
  finish n h s e p =
      let d : suc (suc m) ≡ length keys + 2 = omega arith in
      subst (λ i. Chain (framed first keys last) i (get (set stack n last)) (n + 1)) d
      (step n last h s (sym (framed_last first keys last) ∙ ap (λ i. framed first keys last (suc i)) e) p)

-- the room that is asked for stays
room : (old stack keys : List ℕ) (x : ℕ) → length keys + 2 ≤ length old → length stack ≡ length (set old 0 x) → length keys + 2 ≤ length stack
room old stack keys x h e = omega (arith, length-set old 0 x)

-- the vertices so far, as popping sees them
stacked : (first : ℕ) (keys : List ℕ) (last : ℕ) (old stack : List ℕ) (x m k : ℕ) → Chain (framed first keys last) (suc m) (get stack) k → length keys + 2 ≤ length old
    → length stack ≡ length (set old 0 x) → m ≤ length keys → IsKey first → All IsKey keys → All IsKey (take k stack)
stacked first keys last old stack x m k ch h e o f ks = vertices first keys last stack m k ch (room old stack keys x h e) o f ks

pub invariant_of-pop : goal.invariant_of-pop
invariant_of-pop c =
    let l = c.loop-i in
    record { all_keys = stacked _ _ c.args.ends.now.last _ _ _ _ _ l.invariant c.requires.keys_in_bounds.0 l.auto.stack l.auto.i-end c.code.ensures.key c.args.keys.all_keys }

pub invariant_of-pop-2 : goal.invariant_of-pop-2
invariant_of-pop-2 c =
    let l = c.loop-i in
    record { all_keys = stacked _ _ c.args.ends.now.last _ _ _ _ _ l.invariant c.requires.keys_in_bounds.0 l.auto.stack l.auto.i-end c.code.ensures.key c.args.keys.all_keys }

pub loop-i-preserved : goal.loop-i-preserved
loop-i-preserved c =
    let l = c.loop-i in
    let ks = c.args.keys.codes.now in
    let ends = c.args.ends.now in
    let r = room c.args.stack.now l.stack ks c.code.result c.requires.keys_in_bounds.0 l.auto.stack in
    let e = c.at-r.ensures ∙ sym (framed_at ends.first ks ends.last l.i (omega (arith, c.loop-i-test.true))) in
    rw (add-one l.i, c.code-in-loop-i.ensures.value)
    (step ends.first ks ends.last l.stack l.i l.k l.invariant r (omega (arith, l.auto.i-end)) c.pop-n.result _ c.requires.keys_in_bounds.1 c.requires.sorted e c.pop-n.ensures)

pub returns : goal.returns
returns c =
    let l = c.loop-i in
    let ks = c.args.keys.codes.now in
    let ends = c.args.ends.now in
    let r = room c.args.stack.now l.stack ks c.code.result c.requires.keys_in_bounds.0 l.auto.stack in
    rw c.code-2.ensures.value
    (finish ends.first ks ends.last l.stack l.i l.k l.invariant r (omega (arith, l.auto.i-end)) c.pop-n-2.result c.requires.keys_in_bounds.1 c.requires.sorted (omega arith) c.pop-n-2.ensures)
