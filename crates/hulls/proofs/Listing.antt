-- The upper chain and the lower one, which is the upper chain of the reflected keys, make a closed listing of vertices: by index, what plane asks of a polygon.
-- Assumes nothing.
use mathlib.Core.Path.{◌≡◌, refl, sym, ap, subst, ◌∙◌}
use Prim.Native.Nat.{ℕ, suc, ◌+◌, ◌-◌, ◌≤◌, ◌<◌}
use native.Mathlib.Decide.{dec_lt}
use native.Mathlib.Omega.{arith}
use mathlib.Core.Bool.{cond}
use lib.Dec.{ltb}
use borrow.Author.Tests.{lt-ltb, le-ltb}
use lib.IntN.{pos}
use lib.Signed.{◌≤ℤ◌, ◌<ℤ◌}
use Rattle.orders.specs.Order.{Sorted, EachAmong}
use Rattle.orders.proofs.Pigeons.{within_few}
use Rattle.turns.specs.Keys.{IsKey, AllKeys}
use Rattle.turns.specs.Reflection.{reflected}
use Rattle.turns.proofs.Reflection.{reflected_less}
use Rattle.chains.specs.Chains.{turn, Chain}
use Rattle.chains.proofs.Turning.{cyclic-<, turn_end, not_both, around, around_last}
use Rattle.hulls.proofs.Fan.{rises, fan}
use Rattle.hulls.proofs.Mirroring.{Mirrors, reflected_turn, mirror_keys, mirror_back}

-- j' is the vertex after j, of h: after the last comes the first
pub data Next (h j j' : ℕ) : Type 0 where
  on : suc j < h → j' ≡ suc j → Next h j j'
  round : suc j ≡ h → j' ≡ 0 → Next h j j'

-- the vertices p, h of them, close around the m keys of q
pub record Closed (q : ℕ → ℕ) (m : ℕ) (p : ℕ → ℕ) (h : ℕ) : Type 0 where
  pub some : 1 ≤ h
  -- each vertex is a key, and no two are the same
  pub from : EachAmong p h q m
  pub apart : (i j : ℕ) → i < j → j < h → p i ≡ p j → ⊥
  -- each key is right of each side, or on it
  pub right : (i j j' : ℕ) → i < m → Next h j j' → turn (p j) (p j') (q i) ≤ℤ pos 0
  -- at each vertex the way turns right
  pub bends : (x y z : ℕ) → 3 ≤ h → Next h x y → Next h y z → turn (p x) (p y) (p z) <ℤ pos 0
  -- the first vertex is the least key; a single vertex is every key, and of two vertices the second is the greatest key
  pub least : (i : ℕ) → i < m → p 0 ≤ q i
  pub one : h ≡ 1 → (i : ℕ) → i < m → q i ≡ p 0
  pub most : h ≡ 2 → (i : ℕ) → i < m → q i ≤ p 1

-- there are no more vertices than keys
pub closed_few : {q p : ℕ → ℕ} {m h : ℕ} → Closed q m p h → h ≤ m
closed_few c = within_few c.from c.apart

-- ---- one key, as often as it is there

pub single_key : (q : ℕ → ℕ) (m : ℕ) (p : ℕ → ℕ) → 1 ≤ m → ((i : ℕ) → i < m → q i ≡ q 0) → p 0 ≡ q 0 → Closed q m p 1
single_key q m p some same e =
    record {
      some = omega arith;
      from = record { find = λ i l. let z : i ≡ 0 = omega arith in (0, some, rw z e) };
      apart = λ i j a b. absurd (omega arith);
      right = λ i j j' l n. alone i j j' l n;
      bends = λ x y z l. absurd (omega arith);
      least = λ i l. omega (arith, same i l, e);
      one = λ z i l. same i l ∙ sym e;
      most = λ z. absurd (omega arith);
    }
  where
    alone : (i j j' : ℕ) → i < m → Next 1 j j' → turn (p j) (p j') (q i) ≤ℤ pos 0
    alone i j j' l (on a b) = absurd (omega arith)
    alone i j j' l (round a b) =
        let c : j ≡ 0 = omega arith in
        rw (b, c, same i l, e) (turn_end (q 0) (q 0))

-- ---- two different keys or more: u is the upper chain, with a sides, and l the upper chain of the reflected keys f, with b sides

module _ (q : ℕ → ℕ) (m : ℕ) (ups : Sorted q 0 m) (ks : AllKeys q m) (ends : q 0 < q (m - 1))
    (u : ℕ → ℕ) (a : ℕ) (cu : Chain q m u (suc a)) (f : ℕ → ℕ) (mi : Mirrors q m f) (l : ℕ → ℕ) (b : ℕ) (cl : Chain f m l (suc b)) where
  more : 2 ≤ m
  more = go (dec_lt 1 m)
    where
      go : Dec (1 < m) → 2 ≤ m
      go (yes h) = omega arith
      go (no h) = let z : m - 1 ≡ 0 = omega arith in let e : q 0 < q 0 = subst (λ i. q 0 < q i) z ends in absurd (omega arith)

  u_last : u a ≡ q (m - 1)
  u_last = cu.last (m - 1) a (omega arith) refl

  a_some : 1 ≤ a
  a_some = go (dec_lt 0 a)
    where
      go : Dec (0 < a) → 1 ≤ a
      go (yes h) = omega arith
      go (no h) =
          let z : a ≡ 0 = omega arith in
          let e : u 0 ≡ q (m - 1) = rw z at u_last in
          let d = ends in
          absurd (omega (arith, cu.first))

  -- the lower chain: l, reflected back
  d_first : reflected (l 0) ≡ q (m - 1)
  d_first = ap reflected cl.first ∙ mirror_back q m f ks mi 0 (m - 1) (omega arith)

  d_last : reflected (l b) ≡ q 0
  d_last = ap reflected (cl.last (m - 1) b (omega arith) refl) ∙ mirror_back q m f ks mi (m - 1) 0 (omega arith)

  b_some : 1 ≤ b
  b_some = go (dec_lt 0 b)
    where
      go : Dec (0 < b) → 1 ≤ b
      go (yes h) = omega arith
      go (no h) =
          let z : b ≡ 0 = omega arith in
          let e : reflected (l 0) ≡ q 0 = rw z at d_last in
          let d = ends in
          absurd (omega (arith, d_first))

  d_from : (i : ℕ) → i ≤ b → (j : ℕ) × (j < m) × (reflected (l i) ≡ q j)
  d_from i h =
      let r = cl.from i (omega arith) in
      let o : r.0 < m = r.1 in
      (m - suc r.0, omega arith, ap reflected r.2 ∙ mirror_back q m f ks mi r.0 (m - suc r.0) (omega arith))

  l_key : (i : ℕ) → i ≤ b → IsKey (l i)
  l_key i h = let r = cl.from i (omega arith) in subst IsKey (sym r.2) ((mirror_keys q m f ks mi).key r.0 r.1)

  d_falls : (i j : ℕ) → i < j → j ≤ b → reflected (l j) < reflected (l i)
  d_falls i j h k = reflected_less (l_key j k) (rises f m l (suc b) cl i j h (omega arith))

  d_bends : (i : ℕ) → suc (suc i) ≤ b → turn (reflected (l i)) (reflected (l (suc i))) (reflected (l (suc (suc i)))) <ℤ pos 0
  d_bends i h = rw (reflected_turn (l_key i (omega arith)) (l_key (suc i) (omega arith)) (l_key (suc (suc i)) h)) (cl.bends i (omega arith))

  d_right : (i j : ℕ) → i < m → j < b → turn (reflected (l j)) (reflected (l (suc j))) (q i) ≤ℤ pos 0
  d_right i j h k =
      let o : m - suc i < m = omega arith in
      rw (← mirror_back q m f ks mi (m - suc i) i (omega arith), reflected_turn (l_key j (omega arith)) (l_key (suc j) k) ((mirror_keys q m f ks mi).key (m - suc i) o))
      (cl.right (m - suc i) j o (omega arith))

  -- a vertex of the upper chain that is no end is left of the line from the first key to the last, and one of the lower chain right of it
  up_left : (j : ℕ) → 0 < j → j < a → turn (q 0) (u j) (q (m - 1)) <ℤ pos 0
  up_left j h k = rw (cu.first, u_last) at (fan q m u (suc a) cu j a h k (omega arith))

  down_right : (i : ℕ) → 0 < i → i < b → turn (q 0) (q (m - 1)) (reflected (l i)) <ℤ pos 0
  down_right i h k = cyclic-< _ _ _ (cyclic-< _ _ _ turned)
    where
      turned : turn (q (m - 1)) (reflected (l i)) (q 0) <ℤ pos 0
      turned =
          rw (← d_first, ← d_last, reflected_turn (l_key 0 (omega arith)) (l_key i (omega arith)) (l_key b (omega arith)))
          (fan f m l (suc b) cl i b h k (omega arith))

  u_before : (j : ℕ) → j < a → u j < q (m - 1)
  u_before j h = let r = rises q m u (suc a) cu j a h (omega arith) in omega (arith, u_last)

  u_after : (j : ℕ) → 0 < j → j ≤ a → q 0 < u j
  u_after j h k = let r = rises q m u (suc a) cu 0 j h (omega arith) in omega (arith, cu.first)

  d_before : (i : ℕ) → 0 < i → i ≤ b → reflected (l i) < q (m - 1)
  d_before i h k = let r = d_falls 0 i h k in omega (arith, d_first)

  d_after : (i : ℕ) → i < b → q 0 < reflected (l i)
  d_after i h = let r = d_falls i b h (omega arith) in omega (arith, d_last)

  -- where the chains meet
  meet_last : (x : ℕ) → suc x ≡ a → 3 ≤ a + b → turn (u x) (q (m - 1)) (reflected (l 1)) <ℤ pos 0
  meet_last x e h = go (dec_lt 1 a) (dec_lt 1 b)
    where
      go : Dec (1 < a) → Dec (1 < b) → turn (u x) (q (m - 1)) (reflected (l 1)) <ℤ pos 0
      go (yes i) (yes j) =
          around_last (u_before x (omega arith)) ends (d_before 1 (omega arith) (omega arith)) (up_left x (omega arith) (omega arith)) (down_right 1 (omega arith) j)
      go (yes i) (no j) =
          let o : 1 ≡ b = omega (arith, b_some) in
          let r : reflected (l 1) ≡ q 0 = rw (← o) at d_last in
          rw r (cyclic-< _ _ _ (up_left x (omega arith) (omega arith)))
      go (no i) (yes j) =
          let o : x ≡ 0 = omega arith in
          rw (o, cu.first) (down_right 1 (omega arith) j)
      go (no i) (no j) = absurd (omega arith)

  meet_first : (y : ℕ) → suc y ≡ b → 3 ≤ a + b → turn (reflected (l y)) (q 0) (u 1) <ℤ pos 0
  meet_first y e h = go (dec_lt 1 a) (dec_lt 1 b)
    where
      go : Dec (1 < a) → Dec (1 < b) → turn (reflected (l y)) (q 0) (u 1) <ℤ pos 0
      go (yes i) (yes j) =
          cyclic-< _ _ _ (cyclic-< _ _ _
          (around (u_after 1 (omega arith) (omega arith)) ends (d_after y (omega arith)) (up_left 1 (omega arith) i) (down_right y (omega arith) (omega arith))))
      go (yes i) (no j) =
          let o : y ≡ 0 = omega arith in
          rw (o, d_first) (cyclic-< _ _ _ (cyclic-< _ _ _ (up_left 1 (omega arith) i)))
      go (no i) (yes j) =
          let o : 1 ≡ a = omega (arith, a_some) in
          let r : u 1 ≡ q (m - 1) = rw (← o) at u_last in
          rw r (cyclic-< _ _ _ (cyclic-< _ _ _ (down_right y (omega arith) (omega arith))))
      go (no i) (no j) = absurd (omega arith)

  -- p holds the upper chain without its last vertex, and then the lower one without its last
  module _ (p : ℕ → ℕ) (at_up : (j : ℕ) → j < a → p j ≡ u j) (at-down : (i : ℕ) → i < b → p (a + i) ≡ reflected (l i)) where
    p_up : (j : ℕ) → j ≤ a → p j ≡ u j
    p_up j h = go (dec_lt j a)
      where
        go : Dec (j < a) → p j ≡ u j
        go (yes k) = at_up j k
        go (no k) =
            let e : j ≡ a + 0 = omega arith in
            let o : j ≡ a = omega arith in
            ap p e ∙ at-down 0 (omega (arith, b_some)) ∙ d_first ∙ sym u_last ∙ ap u (sym o)

    p_zero : p 0 ≡ q 0
    p_zero = p_up 0 (omega arith) ∙ cu.first

    p_last : p a ≡ q (m - 1)
    p_last = p_up a (omega arith) ∙ u_last

    next_up : (j j' : ℕ) → j < a → Next (a + b) j j' → p j' ≡ u (suc j)
    next_up j j' h (on k e) = ap p e ∙ p_up (suc j) (omega arith)
    next_up j j' h (round k e) = absurd (omega (arith, b_some))

    next_down : (i j j' : ℕ) → i < b → j ≡ a + i → Next (a + b) j j' → p j' ≡ reflected (l (suc i))
    next_down i j j' h z (on k e) = let o : j' ≡ a + suc i = omega arith in ap p o ∙ at-down (suc i) (omega arith)
    next_down i j j' h z (round k e) = let o : b ≡ suc i = omega arith in ap p e ∙ p_zero ∙ sym d_last ∙ ap (λ i. reflected (l i)) o

    p_down : (i j : ℕ) → i < b → j ≡ a + i → p j ≡ reflected (l i)
    p_down i j h e = ap p e ∙ at-down i h

    in_range : {j j' : ℕ} → Next (a + b) j j' → j < a + b
    in_range (on k e) = omega arith
    in_range (round k e) = omega arith

    right' : (i j j' : ℕ) → i < m → Next (a + b) j j' → turn (p j) (p j') (q i) ≤ℤ pos 0
    right' i j j' h n = go (dec_lt j a)
      where
        go : Dec (j < a) → turn (p j) (p j') (q i) ≤ℤ pos 0
        go (yes k) = rw (p_up j (omega arith), next_up j j' k n) (cu.right i j h (omega arith))
        go (no k) =
            let o : j < a + b = in_range n in
            let e : j ≡ a + (j - a) = omega arith in
            rw (p_down (j - a) j (omega arith) e, next_down (j - a) j j' (omega arith) e n) (d_right i (j - a) h (omega arith))

    bends' : (x y z : ℕ) → 3 ≤ a + b → Next (a + b) x y → Next (a + b) y z → turn (p x) (p y) (p z) <ℤ pos 0
    -- at the first key
    bends' x y z h (round k e) n =
        let o : x ≡ a + (b - 1) = omega (arith, b_some) in
        let i : 0 < a = omega (arith, a_some) in
        rw (p_down (b - 1) x (omega (arith, b_some)) o, next_up y z (rw e i) n, e, p_zero) (meet_first (b - 1) (omega (arith, b_some)) h)
    bends' x y z h (on k e) n = go (dec_lt y a) (dec_lt a y)
      where
        go : Dec (y < a) → Dec (a < y) → turn (p x) (p y) (p z) <ℤ pos 0
        -- on the upper chain
        go (yes i) j =
            rw (p_up x (omega arith), next_up y z i n, p_up y (omega arith), e) (cu.bends x (omega arith))
        -- on the lower chain
        go (no i) (yes j) =
            let o : x ≡ a + (x - a) = omega arith in
            let s : y ≡ a + suc (x - a) = omega arith in
            let t : y < a + b = in_range n in
            rw (p_down (x - a) x (omega arith) o, p_down (suc (x - a)) y (omega arith) s, next_down (suc (x - a)) y z (omega arith) s n)
            (d_bends (x - a) (omega arith))
        -- at the last key
        go (no i) (no j) =
            let o : y ≡ a = omega arith in
            let s : y ≡ a + 0 = omega arith in
            rw (p_up x (omega arith), next_down 0 y z (omega (arith, b_some)) s n, o, p_last) (meet_last x (omega arith) h)

    apart' : (i j : ℕ) → i < j → j < a + b → p i ≡ p j → ⊥
    apart' i j h k e = go (dec_lt i a) (dec_lt j a)
      where
        mixed : (x : ℕ) → x < b → j ≡ a + x → i < a → Dec (0 < i) → Dec (0 < x) → ⊥
        mixed x o s t (yes v) (yes w) =
            not_both (q 0) (q (m - 1)) (u i) (up_left i v t)
            (rw (sym (p_up i (omega arith)) ∙ e ∙ p_down x j o s) (down_right x w o))
        mixed x o s t (no v) w =
            let z : i ≡ 0 = omega arith in
            let r : p j ≡ q 0 = sym e ∙ ap p z ∙ p_zero in
            let d = d_after x o in
            absurd (omega (arith, p_down x j o s))
        mixed x o s t (yes v) (no w) =
            let z : j ≡ a = omega arith in
            let r : p j ≡ q (m - 1) = ap p z ∙ p_last in
            let d = u_before i t in
            absurd (omega (arith, p_up i (omega arith)))

        go : Dec (i < a) → Dec (j < a) → ⊥
        go d (yes t) =
            let r = rises q m u (suc a) cu i j h (omega arith) in
            omega (arith, p_up i (omega arith), p_up j (omega arith))
        go (yes s) (no t) = mixed (j - a) (omega arith) (omega arith) s (dec_lt 0 i) (dec_lt 0 (j - a))
        go (no s) (no t) =
            let r = d_falls (i - a) (j - a) (omega arith) (omega arith) in
            omega (arith, p_down (i - a) i (omega arith) (omega arith), p_down (j - a) j (omega arith) (omega arith))

    from' : (j : ℕ) → j < a + b → Dec (j < a) → (i : ℕ) × (i < m) × (p j ≡ q i)
    from' j h (yes k) = let r = cu.from j (omega arith) in (r.0, r.1, p_up j (omega arith) ∙ r.2)
    from' j h (no k) = let r = d_from (j - a) (omega arith) in (r.0, r.1, p_down (j - a) j (omega arith) (omega arith) ∙ r.2)

    least' : (i : ℕ) → i < m → p 0 ≤ q i
    least' i h = let r = ups.le 0 i (omega arith) (omega arith) h in omega (arith, p_zero)

    most' : a + b ≡ 2 → (i : ℕ) → i < m → q i ≤ p 1
    most' e i h =
        let o : 1 ≡ a = omega (arith, a_some, b_some) in
        let z : p 1 ≡ q (m - 1) = ap p o ∙ p_last in
        let r = ups.le i (m - 1) (omega arith) (omega arith) (omega (arith, more)) in
        omega arith

    pub closed_is : Closed q m p (a + b)
    closed_is =
        record {
          some = omega (arith, a_some);
          from = record { find = λ j h. from' j h (dec_lt j a) };
          apart = apart';
          right = right';
          bends = bends';
          least = least';
          one = λ e. absurd (omega (arith, a_some, b_some));
          most = most';
        }

  -- so there are no more sides than keys
  joined : ℕ → ℕ
  joined j = cond (ltb j a) (u j) (reflected (l (j - a)))

  pub sides_few : a + b ≤ m
  unfolding joined
  sides_few =
      closed_few
      (closed_is joined
      (λ j h. rw (lt-ltb j a h))
      (λ i h. let e : a + i - a ≡ i = omega arith in rw (le-ltb (a + i) a (omega arith), e)))
