-- Splitting keys by the line from the least to the greatest (specs/Halves): what is known after some keys are passed (`Splitting`). Assumes nothing.
use mathlib.Core.Bool.{Bool, true, false}
use mathlib.Core.Path.{◌≡◌, refl, sym, ap, ◌∙◌, subst}
use mathlib.Core.Logic.{◌⊎◌, inl, inr, ⊎_elim}
use mathlib.Core.List.{List}
use Prim.Native.Nat.{ℕ, ◌+◌, ◌≤◌, ◌<◌}
use native.Mathlib.Decide.{dec_lt}
use native.Mathlib.Omega.{arith}
use lib.IntN.{pos}
use lib.Signed.{◌≤ℤ◌, ◌<ℤ◌, lt_z}
use lib.ListN.{length, set, length-set}
use Rattle.std.specs.Int.{from_bool}
use lib.Seq.{get_or-set_same, get_or-set_other}
use Rattle.std.proofs.lemmas.Int.{ints}
use Rattle.plane.specs.Points.{signed_area}
use Rattle.orders.specs.Order.{get}
use Rattle.turns.specs.Keys.{point_of, AllKeys}
use Rattle.turns.specs.Reflection.{reflected}
use Rattle.chains.specs.Chains.{turn}
use Rattle.extremes.specs.Inner.{Among, EndsOf}
use Rattle.halves.specs.Halves.{Part, Halves}
use Rattle.chains.proofs.Turning.{right_if, not_right_if, left_if, not_left_if, turn_first, turn_last}

-- ---- one more key of a part

-- nothing is passed yet
pub part_none : (q f out : ℕ → ℕ) (T P : ℕ → Type 0) → Part q 0 f out 0 T P
part_none q f out T P = record { from = λ j l. absurd (omega arith); rest = λ j l. absurd (omega arith) }

-- the next key is stored at u, and stays there (d is 1) or not (d is 0)
module _ (q : ℕ → ℕ) (i : ℕ) (f out out' : ℕ → ℕ) (u : ℕ) (T P : ℕ → Type 0) (p : Part q i f out u T P) (same : (j : ℕ) → j < u → out' j ≡ out j)
    (at : out' u ≡ f (q i)) (d : ℕ) (c : ((d ≡ 1) × T (q i)) ⊎ ((d ≡ 0) × P (q i))) where
  found : (j : ℕ) → j < u + d → Dec (j < u) → (x : ℕ) × (x < i + 1) × (out' j ≡ f (q x)) × T (q x)
  found j l (yes o) = let r = p.from j o in (r.0, omega (arith, r.1), same j o ∙ r.2, r.3)
  found j l (no o) =
      ⊎_elim (λ z. let e : j ≡ u = omega (arith, z.0) in (i, omega arith, rw e at, z.1)) (λ z. absurd (omega (arith, z.0))) c

  left_out : (j : ℕ) → j < i + 1 → Dec (j < i) → Among out' (u + d) (f (q j)) ⊎ P (q j)
  left_out j l (yes o) = ⊎_elim (λ r. inl (r.0, omega (arith, r.1), r.2 ∙ sym (same r.0 r.1))) inr (p.rest j o)
  left_out j l (no o) =
      let e : j ≡ i = omega arith in
      rw e (⊎_elim (λ z. inl (u, omega (arith, z.0), sym at)) (λ z. inr z.1) c)

  pub part_more : Part q (i + 1) f out' (u + d) T P
  part_more = record { from = λ j l. found j l (dec_lt j u); rest = λ j l. left_out j l (dec_lt j i) }

-- ---- room for the first key and the last

-- of i keys w are taken, but none of the first and the last
record Spare (q : ℕ → ℕ) (first last i w : ℕ) : Type 0 where
  most : w ≤ i
  but_first : Among q i first → w + 1 ≤ i
  but_last : Among q i last → w + 1 ≤ i
  but_both : Among q i first → Among q i last → w + 2 ≤ i

-- what is among one more key is that key, or among those before
sooner : (q : ℕ → ℕ) (i x : ℕ) (r : Among q (i + 1) x) → Dec (r.0 < i) → (x ≡ q i) ⊎ Among q i x
sooner q i x r (yes o) = inr (r.0, o, r.2)
sooner q i x r (no o) = let l = r.1 in let e : r.0 ≡ i = omega arith in inl (r.2 ∙ ap q e)

module _ (q : ℕ → ℕ) (first last i w : ℕ) (s : Spare q first last i w) where
  spare_keep : (first ≡ q i → ⊥) → (last ≡ q i → ⊥) → Spare q first last (i + 1) (w + 1)
  spare_keep f l =
      record {
        most = omega (arith, s.most);
        but_first = λ a. let z = s.but_first (older first f a) in omega arith;
        but_last = λ a. let z = s.but_last (older last l a) in omega arith;
        but_both = λ a b. let z = s.but_both (older first f a) (older last l b) in omega arith;
      }
    where
      older : (x : ℕ) → (x ≡ q i → ⊥) → Among q (i + 1) x → Among q i x
      older x f r = ⊎_elim (λ e. absurd (f e)) (λ a. a) (sooner q i x r (dec_lt r.0 i))

  spare_drop : first < last → Spare q first last (i + 1) w
  spare_drop h =
      record {
        most = omega (arith, s.most);
        but_first = λ a. omega (arith, s.most);
        but_last = λ a. omega (arith, s.most);
        but_both = λ a b. both (sooner q i first a (dec_lt a.0 i)) (sooner q i last b (dec_lt b.0 i));
      }
    where
      both : (first ≡ q i) ⊎ Among q i first → (last ≡ q i) ⊎ Among q i last → w + 2 ≤ i + 1
      both (inl a) (inl b) = absurd (omega arith)
      both (inr a) b = let z = s.but_first a in omega arith
      both (inl a) (inr b) = let z = s.but_last b in omega arith

-- ---- the loop

-- a key left of the line from the first to the last, right of it, not left of it, and not right of it
abbrev pub Left : ℕ → ℕ → ℕ → Type 0
Left first last k = pos 0 <ℤ turn first last k

abbrev pub Right : ℕ → ℕ → ℕ → Type 0
Right first last k = turn first last k <ℤ pos 0

abbrev pub NotLeft : ℕ → ℕ → ℕ → Type 0
NotLeft first last k = turn first last k ≤ℤ pos 0

abbrev pub NotRight : ℕ → ℕ → ℕ → Type 0
NotRight first last k = pos 0 ≤ℤ turn first last k

-- after i keys are passed: u are in keys and v in mirror
pub record Splitting (old : List ℕ) (first last : ℕ) (keys mirror : List ℕ) (i u v : ℕ) : Type 0 where
  pub i_in : i ≤ length old
  pub long : length keys ≡ length old
  pub room : length old ≤ length mirror
  pub unread : (j : ℕ) → i ≤ j → get keys j ≡ get old j
  -- so many are taken
  pub few : u + v ≤ i
  spare : Spare (get old) first last i (u + v)
  up : Part (get old) i (λ k. k) (get keys) u (Left first last) (NotLeft first last)
  down : Part (get old) i reflected (get mirror) v (Right first last) (NotRight first last)

pub splitting : (old mirror : List ℕ) (first last : ℕ) → length old ≤ length mirror → Splitting old first last old mirror 0 0 0
splitting old mirror first last h =
    record {
      i_in = omega arith;
      long = refl;
      room = h;
      unread = λ j l. refl;
      few = omega arith;
      spare =
          record {
            most = omega arith;
            but_first = λ a. absurd (omega (arith, a.1));
            but_last = λ a. absurd (omega (arith, a.1));
            but_both = λ a b. absurd (omega (arith, a.1));
          };
      up = part_none (get old) _ (get old) _ _;
      down = part_none (get old) _ (get mirror) _ _;
    }

-- what is counted by a test that tells T from P
pub counted : {T P : Type 0} (b : Bool) (d : ℕ) → d ≡ from_bool b → (b ≡ true → T) → (b ≡ false → P) → ((d ≡ 1) × T) ⊎ ((d ≡ 0) × P)
counted true d e t p = inl (e, t refl)
counted false d e t p = inr (e, p refl)

module _ (old : List ℕ) (first last : ℕ) (keys mirror : List ℕ) (i u v : ℕ) (p : Splitting old first last keys mirror i u v) where
  -- a turn, with what the code counts
  module _ (key key' : ℕ) (left right : Bool) (d e : ℕ) (h : first < last) (o : i < length old) (ke : key ≡ get old i) (ke' : key' ≡ reflected key)
      (le : left ≡ lt_z (pos 0) (signed_area (point_of first) (point_of last) (point_of key)))
      (re : right ≡ lt_z (signed_area (point_of first) (point_of last) (point_of key)) (pos 0))
      (de : d ≡ from_bool left) (ee : e ≡ from_bool right) where
    lefts : ((d ≡ 1) × Left first last (get old i)) ⊎ ((d ≡ 0) × NotLeft first last (get old i))
    lefts =
        counted left d de (λ z. subst (Left first last) ke (left_if first last key left le z)) (λ z. subst (NotLeft first last) ke (not_left_if first last key left le z))

    rights : ((e ≡ 1) × Right first last (get old i)) ⊎ ((e ≡ 0) × NotRight first last (get old i))
    rights =
        counted right e ee (λ z. subst (Right first last) ke (right_if first last key right re z)) (λ z. subst (NotRight first last) ke (not_right_if first last key right re z))

    -- a key that is taken is neither the first nor the last
    not_zero : {k : ℕ} → (turn first last k ≡ pos 0) → (k ≡ get old i) → Left first last (get old i) ⊎ Right first last (get old i) → ⊥
    not_zero z q (inl a) = let b : pos 0 <ℤ pos 0 = rw (← q, z) at a in omega (arith, ints)
    not_zero z q (inr a) = let b : pos 0 <ℤ pos 0 = rw (← q, z) at a in omega (arith, ints)

    keep : Left first last (get old i) ⊎ Right first last (get old i) → Spare (get old) first last (i + 1) (u + v + 1)
    keep t = spare_keep (get old) first last i (u + v) p.spare (λ q. not_zero (turn_first first last) q t) (λ q. not_zero (turn_last first last) q t)

    spare' : Spare (get old) first last (i + 1) ((u + d) + (v + e))
    spare' = go lefts rights
      where
        go : ((d ≡ 1) × Left first last (get old i)) ⊎ ((d ≡ 0) × NotLeft first last (get old i)) → ((e ≡ 1) × Right first last (get old i)) ⊎ ((e ≡ 0) × NotRight first last (get old i))
            → Spare (get old) first last (i + 1) ((u + d) + (v + e))
        go (inl a) (inl b) = let x = a.1 in let y = b.1 in absurd (omega (arith, ints))
        go (inl a) (inr b) = let w : u + v + 1 ≡ (u + d) + (v + e) = omega (arith, a.0, b.0) in subst (λ n. Spare (get old) first last (i + 1) n) w (keep (inl a.1))
        go (inr a) (inl b) = let w : u + v + 1 ≡ (u + d) + (v + e) = omega (arith, a.0, b.0) in subst (λ n. Spare (get old) first last (i + 1) n) w (keep (inr b.1))
        go (inr a) (inr b) =
            let w : u + v ≡ (u + d) + (v + e) = omega (arith, a.0, b.0) in
            subst (λ n. Spare (get old) first last (i + 1) n) w (spare_drop (get old) first last i (u + v) p.spare h)

    pub split_more : Splitting old first last (set keys u key) (set mirror v key') (i + 1) (u + d) (v + e)
    split_more =
        record {
          i_in = omega arith;
          long = length-set keys u key ∙ p.long;
          room = simp length-set p.room;
          unread = λ j l. get_or-set_other keys u j key 0 (λ z. omega (arith, p.few)) ∙ p.unread j (omega arith);
          few = spare'.most;
          spare = spare';
          up =
              part_more (get old) i (λ k. k) (get keys) (get (set keys u key)) u _ _ p.up (λ j l. get_or-set_other keys u j key 0 (λ z. omega arith))
              (get_or-set_same keys u key 0 (omega (arith, p.few, p.long)) ∙ ke) d lefts;
          down =
              part_more (get old) i reflected (get mirror) (get (set mirror v key')) v _ _ p.down (λ j l. get_or-set_other mirror v j key' 0 (λ z. omega arith))
              (get_or-set_same mirror v key' 0 (omega (arith, p.few, p.room)) ∙ ke' ∙ ap reflected ke) e rights;
        }

  -- both parts, whatever the numbers are
  pub split_parts : length old ≤ i → EndsOf old first last
      → (u + v + 2 ≤ length old) × Part (get old) (length old) (λ k. k) (get keys) u (Left first last) (NotLeft first last)
      × Part (get old) (length old) reflected (get mirror) v (Right first last) (NotRight first last)
  split_parts h n =
      let e : i ≡ length old = omega (arith, p.i_in) in
      let s = subst (λ j. Spare (get old) first last j (u + v)) e p.spare in (
        s.but_both n.first_in n.last_in,
        subst (λ j. Part (get old) j (λ k. k) (get keys) u (Left first last) (NotLeft first last)) e p.up,
        subst (λ j. Part (get old) j reflected (get mirror) v (Right first last) (NotRight first last)) e p.down,
      )

  pub split_end : AllKeys (get old) (length old) → length old ≤ i → EndsOf old first last → Halves old first last keys mirror u v
  split_end ks h n = let s = split_parts h n in record { all_keys = ks; few = s.0; above = s.1; below = s.2 }
