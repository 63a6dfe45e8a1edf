-- The two parts of keys (specs/Halves), in order, as the chains take them: each is a half of all keys, or of the reflected ones. Assumes nothing.
use mathlib.Core.Path.{◌≡◌, refl, sym, ◌∙◌, subst}
use mathlib.Core.Logic.{◌⊎◌, inl, inr, ⊎_elim}
use mathlib.Core.List.{List}
use Prim.Native.Nat.{ℕ, ◌≤◌, ◌<◌}
use native.Mathlib.Decide.{dec_lt}
use native.Mathlib.Omega.{arith}
use lib.IntN.{pos}
use lib.Signed.{◌≤ℤ◌, ◌<ℤ◌}
use lib.ListN.{length, take}
use lib.Seq.{length-take-le, get_or-take}
use Rattle.std.proofs.lemmas.Int.{ints}
use Rattle.orders.specs.Order.{get, Sorted}
use Rattle.plane.specs.Members.{All}
use Rattle.turns.specs.Keys.{IsKey, AllKeys}
use Rattle.turns.specs.Reflection.{reflected}
use Rattle.turns.proofs.Listed.{listed}
use Rattle.turns.proofs.Reflection.{reflected_key, reflected_less}
use Rattle.chains.specs.Chains.{turn, Amid, Under}
use Rattle.extremes.specs.Inner.{Among, EndsOf}
use Rattle.extremes.proofs.Extreme.{last_key}
use Rattle.halves.specs.Halves.{Part, Halves, Reordered, PartsReordered}
use Rattle.chains.proofs.Turning.{turn_first, turn_last}
use Rattle.chains.proofs.Covering.{under_first, under_last, under_among, under_between}
use Rattle.halves.proofs.Halving.{Left, Right, NotLeft, NotRight}

-- ---- a part, in order, as a callee sees it that is lent the first of a list

module _ (old new : List ℕ) (u : ℕ) (r : Reordered old new u) (room : u ≤ length new) where
  pub sorted_front : Sorted (get (take u new)) 0 (length (take u new))
  sorted_front = record { le = λ i j a b c. le i j b c }
    where
      le : (i j : ℕ) → i ≤ j → j < length (take u new) → get (take u new) i ≤ get (take u new) j
      le i j b c =
          let e = length-take-le u new room in
          rw (get_or-take u new i 0 (omega arith), get_or-take u new j 0 (omega arith)) (r.sorted.le i j (omega arith) b (omega arith))

  pub part_front : {q f : ℕ → ℕ} {m : ℕ} {T P : ℕ → Type 0} → Part q m f (get old) u T P → Part q m f (get (take u new)) (length (take u new)) T P
  part_front {q} {f} {m} {T} {P} p = record { from = from; rest = λ i h. ⊎_elim (λ a. inl (moved a)) inr (p.rest i h) }
    where
      from : (j : ℕ) → j < length (take u new) → (i : ℕ) × (i < m) × (get (take u new) j ≡ f (q i)) × T (q i)
      from j h =
          let e = length-take-le u new room in
          let w = r.from.find j (omega arith) in
          let x = p.from w.0 w.1 in
          (x.0, x.1, get_or-take u new j 0 (omega arith) ∙ w.2 ∙ x.2, x.3)

      moved : {k : ℕ} → Among (get old) u k → Among (get (take u new)) (length (take u new)) k
      moved a =
          let e = length-take-le u new room in
          let w = r.all.find a.0 a.1 in
          (w.0, omega (arith, w.1), a.2 ∙ w.2 ∙ sym (get_or-take u new w.0 0 w.1))

-- ---- keys off the line are strictly between its ends

module _ {keys : List ℕ} {first last : ℕ} (ends : EndsOf keys first last) where
  off : (k : ℕ) → turn first last k ≡ pos 0 → Left first last k ⊎ Right first last k → ⊥
  off k z (inl a) = let b : pos 0 <ℤ pos 0 = rw z at a in omega (arith, ints)
  off k z (inr a) = let b : pos 0 <ℤ pos 0 = rw z at a in omega (arith, ints)

  after_first : (i : ℕ) → i < length keys → Left first last (get keys i) ⊎ Right first last (get keys i) → first < get keys i
  after_first i h t = go (dec_lt first (get keys i))
    where
      go : Dec (first < get keys i) → first < get keys i
      go (yes o) = o
      go (no o) = let e : get keys i ≡ first = omega (arith, ends.least i h) in absurd (off (get keys i) (rw e (turn_first first last)) t)

  before_last : (i : ℕ) → i < length keys → Left first last (get keys i) ⊎ Right first last (get keys i) → get keys i < last
  before_last i h t = go (dec_lt (get keys i) last)
    where
      go : Dec (get keys i < last) → get keys i < last
      go (yes o) = o
      go (no o) = let e : get keys i ≡ last = omega (arith, ends.most i h) in absurd (off (get keys i) (rw e (turn_last first last)) t)

  module _ (ks : AllKeys (get keys) (length keys)) where
    -- the part that is left of the line
    module _ {out : ℕ → ℕ} {u : ℕ} (p : Part (get keys) (length keys) (λ k. k) out u (Left first last) (NotLeft first last)) where
      pub upper_amid : Amid out u first last
      upper_amid =
          record {
            above = λ j h. let r = p.from j h in rw r.2 (after_first r.0 r.1 (inl r.3));
            below = λ j h. let r = p.from j h in rw r.2 (before_last r.0 r.1 (inl r.3));
          }

      pub upper_keys : AllKeys out u
      upper_keys = record { key = λ j h. let r = p.from j h in subst IsKey (sym r.2) (ks.key r.0 r.1) }

    -- the part that is right of it, reflected
    module _ {out : ℕ → ℕ} {v : ℕ} (p : Part (get keys) (length keys) reflected out v (Right first last) (NotRight first last)) where
      pub lower_amid : Amid out v (reflected last) (reflected first)
      lower_amid =
          record {
            above = λ j h. let r = p.from j h in rw r.2 (reflected_less (last_key ends ks) (before_last r.0 r.1 (inr r.3)));
            below = λ j h. let r = p.from j h in rw r.2 (reflected_less (ks.key r.0 r.1) (after_first r.0 r.1 (inr r.3)));
          }

      pub lower_keys : AllKeys out v
      lower_keys = record { key = λ j h. let r = p.from j h in subst IsKey (sym r.2) (reflected_key (ks.key r.0 r.1)) }

-- ---- both parts, each in order: upper, and lower, which is reflected

pub record Parted (keys : List ℕ) (first last : ℕ) (upper lower : List ℕ) : Type 0 where
  pub ends : EndsOf keys first last
  pub all : AllKeys (get keys) (length keys)
  pub above : Part (get keys) (length keys) (λ k. k) (get upper) (length upper) (Left first last) (NotLeft first last)
  pub below : Part (get keys) (length keys) reflected (get lower) (length lower) (Right first last) (NotRight first last)
  pub upper_sorted : Sorted (get upper) 0 (length upper)
  pub lower_sorted : Sorted (get lower) 0 (length lower)

pub parted : {keys up down up' down' : List ℕ} {first last u v : ℕ} → EndsOf keys first last
    → Halves keys first last up down u v → PartsReordered up up' down down' u v → u ≤ length up' → v ≤ length down'
    → Parted keys first last (take u up') (take v down')
parted {keys} {up} {down} {up'} {down'} {first} {last} {u} {v} ends hs ro h k =
    record {
      ends = ends;
      all = hs.all_keys;
      above = part_front up up' u ro.upper h hs.above;
      below = part_front down down' v ro.lower k hs.below;
      upper_sorted = sorted_front up up' u ro.upper h;
      lower_sorted = sorted_front down down' v ro.lower k;
    }

-- what `chains::upper_chain` asks of each, and the view of its keys
module _ {keys : List ℕ} {first last : ℕ} {upper lower : List ℕ} (p : Parted keys first last upper lower) where
  pub upper_input : Sorted (get upper) 0 (length upper) × Amid (get upper) (length upper) first last
  upper_input = (p.upper_sorted, upper_amid p.ends p.all p.above)

  pub upper_listed : All IsKey upper
  upper_listed = listed (upper_keys p.ends p.all p.above)

  pub lower_listed : All IsKey lower
  lower_listed = listed (lower_keys p.ends p.all p.below)

  -- of the ends, reflected
  module _ {f l : ℕ} (fe : f ≡ reflected first) (le : l ≡ reflected last) where
    pub lower_less : first < last → l < f
    lower_less h = rw (fe, le) (reflected_less (last_key p.ends p.all) h)

    pub lower_input : Sorted (get lower) 0 (length lower) × Amid (get lower) (length lower) l f
    lower_input = (p.lower_sorted, rw (fe, le) (lower_amid p.ends p.all p.below))

-- ---- no key is above the part, which is those left of the line from the first to the last

pub part_under : {first last k : ℕ} (l : List ℕ) → first ≤ k → k ≤ last → Among (get l) (length l) k ⊎ (turn first last k ≤ℤ pos 0) → Under first (get l) (length l) last k
part_under l h o =
    ⊎_elim (λ r. under_among r.0 r.1 r.2) (λ t. under_between (under_first refl) (under_last refl) h o t)
