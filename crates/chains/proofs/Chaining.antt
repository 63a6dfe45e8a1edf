-- How one more key changes an upper chain (specs/Chains). Assumes nothing.
use mathlib.Core.Path.{◌≡◌, sym, subst, ◌∙◌}
use Prim.Native.Nat.{ℕ, zero, suc, ◌+◌, ◌-◌, ◌≤◌, ◌<◌}
use native.Mathlib.Decide.{dec_lt}
use native.Mathlib.Omega.{arith}
use mathlib.Core.List.{List}
use lib.ListN.{length, set, take}
use lib.Seq.{get_or-set_same, get_or-set_other, get_or-take, length-take-le}
use native.Mathlib.Numerals.{add-one}
use lib.IntN.{pos}
use lib.Signed.{◌≤ℤ◌, ◌<ℤ◌}
use Rattle.integers.proofs.Order.{<→≤}
use Rattle.std.proofs.lemmas.Int.{ints}
use Rattle.orders.specs.Order.{get, Sorted, EachAmong}
use Rattle.turns.specs.Keys.{IsKey, AllKeys}
use Rattle.chains.specs.Chains.{turn, Chain, Popped}
use Rattle.chains.proofs.Turning.{turn_same, turn_end, not_right_end, down, beyond, behind}

-- numbers that are among keys are keys
pub among : {q s : ℕ → ℕ} {m k : ℕ} → AllKeys q m → EachAmong s k q m → AllKeys s k
among ks w = record { key = λ i h. let r = w.find i h in subst IsKey (sym r.2) (ks.key r.0 r.1) }

-- so the vertices of a chain are
pub chain_keys : {q s : ℕ → ℕ} {m n k : ℕ} → AllKeys q n → m ≤ n → Chain q m s k → AllKeys s k
chain_keys ks h ch = among ks (record { find = λ j l. let r = ch.from j l in (r.0, omega (arith, r.1), r.2) })

-- what popping leaves of the first k numbers of a list
pub popped_front : (s : List ℕ) (k r n : ℕ) → k ≤ length s → Popped (get (take k s)) (length (take k s)) r n → Popped (get s) k r n
popped_front s k r n h p =
    let e = length-take-le k s h in
    record {
      some = p.some;
      most = omega (arith, p.most);
      bend = λ j z. rw (← get_or-take k s j 0 (omega (arith, p.most)), ← get_or-take k s (suc j) 0 (omega (arith, p.most))) (p.bend j z);
      gone = λ j z l. rw (← get_or-take k s j 0 (omega arith), ← get_or-take k s (suc j) 0 l) (p.gone j z (omega arith));
    }

-- the next key q m, which is greater than those before it, pushed after popping: s' is s below n, and that key at n
module _ (q : ℕ → ℕ) (m : ℕ) (s : ℕ → ℕ) (k n : ℕ) (srt : Sorted q 0 (suc m)) (fresh : (i : ℕ) → i < m → q i < q m) (ch : Chain q m s k)
    (pop : Popped s k (q m) n) where
  -- a vertex is before the next key
  before : (j : ℕ) → j < k → s j < q m
  before j h =
      let f = ch.from j h in
      let u : q f.0 < q m = fresh f.0 f.1 in
      omega (arith, f.2)

  -- (a) r is right of each side that is left, d sides before the last
  under : (d j : ℕ) → suc (suc j) + d ≡ n → turn (s j) (s (suc j)) (q m) ≤ℤ pos 0
  under zero j h = let b = pop.bend j (omega arith) in omega (arith, ints)
  under (suc d) j h =
      let l : suc (suc (suc j)) ≤ k = omega (arith, pop.most) in
      down (ch.rising j (omega arith)) (ch.rising (suc j) (omega arith)) (before (suc j) (omega arith))
      (<→≤ (ch.bends j (omega arith))) (under d (suc j) (omega arith))

  pub all_under : (j : ℕ) → suc j < n → turn (s j) (s (suc j)) (q m) ≤ℤ pos 0
  all_under j h = under (n - suc (suc j)) j (omega arith)

  -- (b) each passed key is right of the new side, from the last vertex that is left: after that vertex …
  past : (i j : ℕ) → i < m → suc j ≡ n → s j < q i → turn (s j) (q m) (q i) ≤ℤ pos 0
  past i j h e l = go (dec_lt n k)
    where
      go : Dec (n < k) → turn (s j) (q m) (q i) ≤ℤ pos 0
      go (yes g) =
          let o : suc j < k = omega arith in
          let a : s j < s n = subst (λ x. s j < s x) e (ch.rising j o) in
          let b : turn (s j) (s n) (q i) ≤ℤ pos 0 = subst (λ x. turn (s j) (s x) (q i) ≤ℤ pos 0) e (ch.right i j h o) in
          let c : pos 0 ≤ℤ turn (s j) (s n) (q m) = subst (λ x. pos 0 ≤ℤ turn (s j) (s x) (q m)) e (pop.gone j (omega arith) o) in
          beyond a (before j (omega arith)) l c b
      -- nothing went: the vertex is the last key, and no key is after it
      go (no f) =
          let o : n ≡ k = omega (arith, pop.most) in
          let t : s j ≡ q (m - 1) = ch.last (m - 1) j (omega arith) (omega arith) in
          let u : q i ≤ q (m - 1) = srt.le i (m - 1) (omega arith) (omega arith) (omega arith) in
          absurd (omega arith)

  -- … or before it
  prior : (i j : ℕ) → i < m → suc j ≡ n → q i < s j → turn (s j) (q m) (q i) ≤ℤ pos 0
  prior i zero h e l =
      let f : s 0 ≡ q 0 = ch.first in
      let g : q 0 ≤ q i = srt.le 0 i (omega arith) (omega arith) (omega arith) in
      absurd (omega arith)
  prior i (suc j) h e l =
      let o : suc (suc j) ≤ k = omega (arith, pop.most) in
      behind (ch.rising j (omega arith)) (before (suc j) (omega arith)) l (ch.right i j h (omega arith)) (all_under j (omega arith))

  new_side : (i j : ℕ) → i < m → suc j ≡ n → turn (s j) (q m) (q i) ≤ℤ pos 0
  new_side i j h e = go (dec_lt (s j) (q i)) (dec_lt (q i) (s j))
    where
      go : Dec (s j < q i) → Dec (q i < s j) → turn (s j) (q m) (q i) ≤ℤ pos 0
      go (yes l) d = past i j h e l
      go (no f) (yes l) = prior i j h e l
      go (no f) (no g) = let o : q i ≡ s j = omega arith in rw o (turn_same (s j) (q m))

  module _ (s' : ℕ → ℕ) (below : (j : ℕ) → j < n → s' j ≡ s j) (at : s' n ≡ q m) where
    right' : (i j : ℕ) → i < suc m → suc j < suc n → turn (s' j) (s' (suc j)) (q i) ≤ℤ pos 0
    right' i j h l = go (dec_lt i m) (dec_lt (suc j) n)
      where
        go : Dec (i < m) → Dec (suc j < n) → turn (s' j) (s' (suc j)) (q i) ≤ℤ pos 0
        go (yes a) (yes b) = rw (below j (omega arith), below (suc j) b) (ch.right i j a (omega (arith, pop.most)))
        go (no a) (yes b) = let e : i ≡ m = omega arith in rw (below j (omega arith), below (suc j) b, e) (all_under j b)
        go (yes a) (no b) = let e : suc j ≡ n = omega arith in rw (below j (omega arith), e, at) (new_side i j a e)
        go (no a) (no b) =
            let e : suc j ≡ n = omega arith in
            let d : i ≡ m = omega arith in
            rw (below j (omega arith), e, at, d) (turn_end (s j) (q m))

    rising' : (j : ℕ) → suc j < suc n → s' j < s' (suc j)
    rising' j l = go (dec_lt (suc j) n)
      where
        go : Dec (suc j < n) → s' j < s' (suc j)
        go (yes b) = rw (below j (omega arith), below (suc j) b) (ch.rising j (omega (arith, pop.most)))
        go (no b) = let e : suc j ≡ n = omega arith in rw (below j (omega arith), e, at) (before j (omega (arith, pop.most)))

    bends' : (j : ℕ) → suc (suc j) < suc n → turn (s' j) (s' (suc j)) (s' (suc (suc j))) <ℤ pos 0
    bends' j l = go (dec_lt (suc (suc j)) n)
      where
        go : Dec (suc (suc j) < n) → turn (s' j) (s' (suc j)) (s' (suc (suc j))) <ℤ pos 0
        go (yes b) = rw (below j (omega arith), below (suc j) (omega arith), below (suc (suc j)) b) (ch.bends j (omega (arith, pop.most)))
        go (no b) = let e : suc (suc j) ≡ n = omega arith in rw (below j (omega arith), below (suc j) (omega arith), e, at) (pop.bend j e)

    from' : (j : ℕ) → j < suc n → (i : ℕ) × (i < suc m) × (s' j ≡ q i)
    from' j l = go (dec_lt j n)
      where
        go : Dec (j < n) → (i : ℕ) × (i < suc m) × (s' j ≡ q i)
        go (yes b) =
            let f = ch.from j (omega (arith, pop.most)) in
            let o : f.0 < m = f.1 in
            (f.0, omega arith, below j b ∙ f.2)
        go (no b) = let e : j ≡ n = omega arith in (m, omega arith, rw e at)

    pub push : Chain q (suc m) s' (suc n)
    push =
        record {
          some = omega arith;
          few = omega (arith, ch.few, pop.most);
          first = below 0 (omega (arith, pop.some)) ∙ ch.first;
          last = λ i j a b. let c : i ≡ m = omega arith in let d : j ≡ n = omega arith in rw (c, d) at;
          from = from';
          rising = rising';
          bends = bends';
          right = right';
        }

-- the next key q m, which is the one before it again: that one goes, and comes back
module _ (q : ℕ → ℕ) (m : ℕ) (s : ℕ → ℕ) (k n : ℕ) (some : 1 ≤ m) (same : q (m - 1) ≡ q m) (above : q 0 < q m) (ch : Chain q m s k) (pop : Popped s k (q m) n) where
  top : (j : ℕ) → suc j ≡ k → s j ≡ q m
  top j e = ch.last (m - 1) j (omega arith) e ∙ same

  two : 2 ≤ k
  two = go (dec_lt 1 k)
    where
      go : Dec (1 < k) → 2 ≤ k
      go (yes l) = omega arith
      go (no l) = absurd (omega (arith, top 0 (omega (arith, ch.some)), ch.first, above))

  one_went : suc n ≡ k
  one_went = go (dec_lt n k) (dec_lt (suc n) k)
    where
      kept : (j : ℕ) → suc (suc j) ≡ k → n ≡ k → ⊥
      kept j e z = not_right_end (s j) (q m) (subst (λ x. turn (s j) x (q m) <ℤ pos 0) (top (suc j) e) (pop.bend j (e ∙ sym z)))

      more : (j : ℕ) → suc (suc (suc j)) ≡ k → suc n < k → ⊥
      more j e l =
          let a = pop.gone j (omega arith) (omega arith) in
          let b : turn (s j) (s (suc j)) (q m) <ℤ pos 0 = subst (λ x. turn (s j) (s (suc j)) x <ℤ pos 0) (top (suc (suc j)) e) (ch.bends j (omega arith)) in
          omega (arith, ints)

      go : Dec (n < k) → Dec (suc n < k) → suc n ≡ k
      go (yes a) (yes b) = absurd (more (k - 3) (omega (arith, pop.some)) b)
      go (yes a) (no b) = omega arith
      go (no a) b = absurd (kept (k - 2) (omega (arith, two)) (omega (arith, pop.most)))

  module _ (s' : ℕ → ℕ) (below : (j : ℕ) → j < n → s' j ≡ s j) (at : s' n ≡ q m) where
    agree : (j : ℕ) → j < suc n → s' j ≡ s j
    agree j l = go (dec_lt j n)
      where
        go : Dec (j < n) → s' j ≡ s j
        go (yes o) = below j o
        go (no o) = let e : j ≡ n = omega arith in rw e (at ∙ sym (top n one_went))

    right'' : (i j : ℕ) → i < suc m → suc j < suc n → turn (s' j) (s' (suc j)) (q i) ≤ℤ pos 0
    right'' i j h l = rw (agree j (omega arith), agree (suc j) l) (go (dec_lt i m))
      where
        go : Dec (i < m) → turn (s j) (s (suc j)) (q i) ≤ℤ pos 0
        go (yes o) = ch.right i j o (omega (arith, one_went))
        go (no o) = let e : i ≡ m = omega arith in rw (e, ← same) (ch.right (m - 1) j (omega arith) (omega (arith, one_went)))

    pub again : Chain q (suc m) s' (suc n)
    again =
        record {
          some = omega arith;
          few = omega (arith, ch.few, one_went);
          first = agree 0 (omega arith) ∙ ch.first;
          last = λ i j a b. let c : i ≡ m = omega arith in let d : j ≡ n = omega arith in rw (c, d) at;
          from = λ j l. let f = ch.from j (omega (arith, one_went)) in (f.0, omega (arith, f.1), agree j l ∙ f.2);
          rising = λ j l. rw (agree j (omega arith), agree (suc j) l) (ch.rising j (omega (arith, one_went)));
          bends = λ j l. rw (agree j (omega arith), agree (suc j) (omega arith), agree (suc (suc j)) l) (ch.bends j (omega (arith, one_went)));
          right = right'';
        }

-- both, as the code has it: the key r is stored at n
pub next : (q : ℕ → ℕ) (stack : List ℕ) (m k n r : ℕ) → 1 ≤ m → n < length stack → Sorted q 0 (suc m) → q 0 < q m → r ≡ q m
    → Chain q m (get stack) k → Popped (get stack) k r n → Chain q (suc m) (get (set stack n r)) (n + 1)
next q stack m k n r some l srt above e ch pop = rw (add-one n, e) (go (dec_lt (q (m - 1)) (q m)))
  where
    popped : Popped (get stack) k (q m) n
    popped = rw (← e) pop

    below : (j : ℕ) → j < n → get (set stack n (q m)) j ≡ get stack j
    below j o = get_or-set_other stack n j (q m) 0 (λ z. omega arith)

    at : get (set stack n (q m)) n ≡ q m
    at = get_or-set_same stack n (q m) 0 l

    go : Dec (q (m - 1) < q m) → Chain q (suc m) (get (set stack n (q m))) (suc n)
    go (yes o) =
        push q m (get stack) k n srt (λ i h. let a = srt.le i (m - 1) (omega arith) (omega arith) (omega arith) in omega arith) ch popped
        (get (set stack n (q m))) below at
    go (no o) =
        let a = srt.le (m - 1) m (omega arith) (omega arith) (omega arith) in
        again q m (get stack) k n some (omega arith) above ch popped (get (set stack n (q m))) below at
