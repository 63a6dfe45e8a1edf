-- Dropping keys that are in a rectangle (specs/Inner): what is known after some keys are passed (`Keeping`), that one more keeps it, and that each key that is
-- dropped has kept keys in all four quadrants round it. Assumes nothing.
use Rattle.std.proofs.Common.{◌≡◌, ℕ, ◌+◌, ◌<◌, ◌≤◌, Bool, true, false, ◌⊎◌, List, length, take, set, min, max}
use Rattle.std.proofs.Common.{sym, refl, ◌∙◌, subst, inl, inr, ⊎_elim, arith, length-set, length-take-le, get_or-set_other, get_or-take, get_or-set_same}
use Rattle.std.specs.Int.{from_bool}
use native.Mathlib.Decide.{dec_lt}
use Rattle.orders.specs.Order.{get, EachAmong}
use Rattle.turns.specs.Keys.{IsKey, east_part, north_part}
use Rattle.turns.specs.Sums.{sum_of, difference_of}
use Rattle.extremes.specs.declared.Far.{Far}
use Rattle.extremes.specs.declared.Rectangle.{Rectangle}
use Rattle.extremes.specs.Inner.{Among, Lesser, Greater, FarKeys, Bounds, InRectangle, Inner, Kept, Outer}

-- ---- the least and the greatest of two numbers

pub lesser : {a b r : ℕ} → r ≡ min a b → Lesser a b r
lesser {a} {b} {r} e = record { first = omega arith; second = omega arith; either = go (dec_lt a b) }
  where
    go : Dec (a < b) → (r ≡ a) ⊎ (r ≡ b)
    go (yes h) = inl (omega arith)
    go (no h) = inr (omega arith)

pub greater : {a b r : ℕ} → r ≡ max a b → Greater a b r
greater {a} {b} {r} e = record { first = omega arith; second = omega arith; either = go (dec_lt a b) }
  where
    go : Dec (a < b) → (r ≡ a) ⊎ (r ≡ b)
    go (yes h) = inr (omega arith)
    go (no h) = inl (omega arith)

-- ---- the tests

-- what is counted of a key by a test that fails where it has property P
pub counted : (b : Bool) {d : ℕ} {P : Type 0} → d ≡ from_bool b → (b ≡ false → P) → (d ≡ 1) ⊎ ((d ≡ 0) × P)
counted true e f = inl e
counted false e f = inr (e, f refl)

-- ---- moving keys to the front

-- after i keys of old are passed, n of them are kept at the front of new, and the others have property P
pub record Keeping (old new : List ℕ) (i n : ℕ) (P : ℕ → Type 0) : Type 0 where
  pub most : n ≤ i
  pub i_in : i ≤ length old
  pub same_length : length new ≡ length old
  pub unread : (j : ℕ) → i ≤ j → get new j ≡ get old j
  pub kept : EachAmong (get new) n (get old) (length old)
  pub rest : (j : ℕ) → j < i → Among (get new) n (get old j) ⊎ P (get old j)

-- the next key is stored after those that are kept, and stays there (d is 1), or has property P (d is 0)
module _ (old new : List ℕ) (i n d : ℕ) (P : ℕ → Type 0) (h : i < length old) (k : Keeping old new i n P) (c : (d ≡ 1) ⊎ ((d ≡ 0) × P (get new i))) where
  small : d ≤ 1
  small = ⊎_elim (λ e. omega arith) (λ e. omega arith) c

  stored : get (set new n (get new i)) n ≡ get old i
  stored = get_or-set_same new n (get new i) 0 (omega (arith, k.most, k.same_length)) ∙ k.unread i (omega arith)

  other : (j : ℕ) → (j ≡ n → ⊥) → get (set new n (get new i)) j ≡ get new j
  other j f = get_or-set_other new n j (get new i) 0 f

  kept' : (j : ℕ) → j < n + d → Dec (j < n) → Among (get old) (length old) (get (set new n (get new i)) j)
  kept' j l (yes o) = let f = k.kept.find j o in (f.0, f.1, other j (λ e. omega arith) ∙ f.2)
  kept' j l (no o) = let e : j ≡ n = omega (arith, small) in (i, h, rw e stored)

  rest' : (j : ℕ) → j < i + 1 → Dec (j < i) → Among (get (set new n (get new i))) (n + d) (get old j) ⊎ P (get old j)
  rest' j l (yes o) = ⊎_elim (λ f. let b : f.0 < n = f.1 in inl (f.0, omega arith, f.2 ∙ sym (other f.0 (λ e. omega arith)))) inr (k.rest j o)
  rest' j l (no o) =
      let e : j ≡ i = omega arith in
      rw e (⊎_elim (λ z. inl (n, omega arith, sym stored)) (λ z. inr (subst P (k.unread i (omega arith)) z.1)) c)

  pub more : Keeping old (set new n (get new i)) (i + 1) (n + d) P
  more =
      record {
        most = omega (arith, small, k.most);
        i_in = omega arith;
        same_length = length-set new n (get new i) ∙ k.same_length;
        unread = λ j l. other j (λ e. omega (arith, k.most)) ∙ k.unread j (omega arith);
        kept = record { find = λ j l. kept' j l (dec_lt j n) };
        rest = λ j l. rest' j l (dec_lt j i);
      }

-- ---- numbers of four keys of a list

-- one stays, or another takes its place
pub taken : (P : ℕ → Type 0) {a b x : ℕ} → P a → P x → (b ≡ a) ⊎ (b ≡ x) → P b
taken P p q e = ⊎_elim (λ z. subst P (sym z) p) (λ z. subst P (sym z) q) e

-- x is what f gives to the key at an index of a list
pub record CodeIn (f : ℕ → ℕ) (l : List ℕ) (x : ℕ) : Type 0 where
  pub index : ℕ
  pub in_list : index < length l
  pub key : IsKey (get l index)
  pub value : x ≡ f (get l index)

-- the sums of two keys of a list, and the differences of two
pub record Codes (l : List ℕ) (ne nw sw se : ℕ) : Type 0 where
  pub north_east : CodeIn sum_of l ne
  pub north_west : CodeIn difference_of l nw
  pub south_west : CodeIn sum_of l sw
  pub south_east : CodeIn difference_of l se

-- ---- keys in a rectangle beyond whose corners four keys lie

module _ {old new : List ℕ} {n : ℕ} {far : Far} {box : Rectangle} (c : FarKeys old far) (b : Bounds far box) (k : Kept old new n (λ x. InRectangle x box)) where
  -- the four are kept
  corner : (x : ℕ) → Among (get old) (length old) x → (InRectangle x box → ⊥) → Among (get new) n x
  corner x m f = ⊎_elim (λ r. (r.0, r.1, m.2 ∙ r.2)) (λ i. absurd (f (subst (λ y. InRectangle y box) (sym m.2) i))) (k.rest m.0 m.1)

  around : (x : ℕ) → InRectangle x box → Inner (get new) n x
  around x i =
      let p = corner far.ne c.north_east (λ j. omega (arith, j.past_east, b.east_ne)) in
      let q = corner far.nw c.north_west (λ j. omega (arith, j.past_west, b.west_nw)) in
      let r = corner far.sw c.south_west (λ j. omega (arith, j.past_west, b.west_sw)) in
      let s = corner far.se c.south_east (λ j. omega (arith, j.past_east, b.east_se)) in
      record {
        north_east = (p.0, p.1, at p.2 (omega (arith, b.east_ne, i.past_east)), up p.2 (omega (arith, b.north_ne, i.past_north)));
        north_west = (q.0, q.1, back q.2 (omega (arith, b.west_nw, i.past_west)), up q.2 (omega (arith, b.north_nw, i.past_north)));
        south_west = (r.0, r.1, back r.2 (omega (arith, b.west_sw, i.past_west)), down r.2 (omega (arith, b.south_sw, i.past_south)));
        south_east = (s.0, s.1, at s.2 (omega (arith, b.east_se, i.past_east)), down s.2 (omega (arith, b.south_se, i.past_south)));
      }
    where
      at : {y z : ℕ} → y ≡ z → east_part x < east_part y → east_part x < east_part z
      at e h = subst (λ y. east_part x < east_part y) e h

      back : {y z : ℕ} → y ≡ z → east_part y < east_part x → east_part z < east_part x
      back e h = subst (λ y. east_part y < east_part x) e h

      up : {y z : ℕ} → y ≡ z → north_part x < north_part y → north_part x < north_part z
      up e h = subst (λ y. north_part x < north_part y) e h

      down : {y z : ℕ} → y ≡ z → north_part y < north_part x → north_part z < north_part x
      down e h = subst (λ y. north_part y < north_part x) e h

  pub outer : Outer old new n
  outer = record { few = k.few; kept = k.kept; rest = λ i l. ⊎_elim inl (λ x. inr (around (get old i) x)) (k.rest i l) }

-- nothing is dropped
pub undropped : (l : List ℕ) → Outer l l (length l)
undropped l = record { few = omega arith; kept = record { find = λ i h. (i, h, refl) }; rest = λ i h. inl (i, h, refl) }

-- ---- the keys that are left, as a callee sees them

module _ (old new : List ℕ) (n : ℕ) (h : n ≤ length new) (o : Outer old new n) where
  front_inner : {k : ℕ} → Inner (get new) n k → Inner (get (take n new)) (length (take n new)) k
  front_inner {k} i =
      let e = length-take-le n new h in
      record {
        north_east = let r = i.north_east in (r.0, omega (arith, r.1), rw (get_or-take n new r.0 0 r.1) r.2, rw (get_or-take n new r.0 0 r.1) r.3);
        north_west = let r = i.north_west in (r.0, omega (arith, r.1), rw (get_or-take n new r.0 0 r.1) r.2, rw (get_or-take n new r.0 0 r.1) r.3);
        south_west = let r = i.south_west in (r.0, omega (arith, r.1), rw (get_or-take n new r.0 0 r.1) r.2, rw (get_or-take n new r.0 0 r.1) r.3);
        south_east = let r = i.south_east in (r.0, omega (arith, r.1), rw (get_or-take n new r.0 0 r.1) r.2, rw (get_or-take n new r.0 0 r.1) r.3);
      }

  pub front_rest : (i : ℕ) → i < length old → Among (get (take n new)) (length (take n new)) (get old i) ⊎ Inner (get (take n new)) (length (take n new)) (get old i)
  front_rest i l =
      let e = length-take-le n new h in
      ⊎_elim (λ r. inl (r.0, omega (arith, r.1), r.2 ∙ sym (get_or-take n new r.0 0 r.1))) (λ r. inr (front_inner r)) (o.rest i l)
