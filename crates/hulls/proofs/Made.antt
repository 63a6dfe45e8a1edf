-- The polygon of a list of keys, from what the calls of the code promise of lists. Assumes nothing.
use mathlib.Core.Path.{◌≡◌, refl, sym, ap, ◌∙◌, subst}
use mathlib.Core.Logic.{◌⊎◌, inl, inr, ⊎_elim}
use Prim.Native.Nat.{ℕ, suc, ◌+◌, ◌-◌, ◌≤◌, ◌<◌}
use native.Mathlib.Omega.{arith}
use mathlib.Core.List.{List, map}
use lib.ListN.{length, take}
use lib.Seq.{length-take-le, get_or-take}
use Rattle.plane.specs.declared.Point.{Point}
use Rattle.plane.specs.Members.{◌∈◌}
use Rattle.plane.specs.Polygons.{Polygon}
use Rattle.plane.proofs.Outline.{outline_polygon}
use Rattle.plane.proofs.Dropping.{Inner as InnerPoint, same_polygon}
use Rattle.turns.specs.Keys.{point_of, AllKeys}
use Rattle.turns.specs.Reflection.{reflected}
use Rattle.turns.proofs.Parts.{east_first, east_less, north_less, key_most}
use Rattle.turns.proofs.Reflection.{reflected_le}
use Rattle.orders.specs.Order.{get, EachAmong}
use Rattle.orders.specs.Count.{SortedOf}
use Rattle.orders.proofs.Counting.{within, same_sym}
use Rattle.orders.proofs.Passes.{rearranged_length}
use Rattle.orders.proofs.Digits.{passes, rearranged_passes, sorted_passes}
use Rattle.orders.proofs.Front.{front_within}
use Rattle.chains.specs.Chains.{Chain, Under, framed}
use Rattle.extremes.specs.Inner.{EndsOf, Among, Inner, Outer}
use Rattle.halves.specs.Halves.{Appended}
use Rattle.hulls.specs.Hulls.{Least, Hull}
use Rattle.chains.proofs.Chaining.{among}
use Rattle.chains.proofs.Turning.{turn_over}
use Rattle.hulls.proofs.Mirroring.{Mirrors, reflected_turn, mirror_keys}
use Rattle.hulls.proofs.Halving.{Half, widen}
use Rattle.extremes.proofs.Extreme.{first_key, last_key}
use Rattle.hulls.proofs.Parting.{Parted, part_under}
use Rattle.hulls.proofs.Listing.{Closed, closed_few, single_key, closed_is, sides_few}
use Rattle.hulls.proofs.Outlines.{closed_outline, point_in, from_point, within_points}
use Rattle.extremes.proofs.Dropping.{front_rest}

-- ---- the polygon of plain numbers, which need not be keys: what `Hull` says beside that the vertices are

pub record PlainHull (keys vertices : List ℕ) (count : ℕ) : Type 0 where
  pub some : 1 ≤ count
  pub few : count ≤ length keys
  pub polygon : Polygon (map point_of keys) (map point_of (take count vertices))
  pub first : Least keys (get vertices 0)

pub plain_hull : {keys vertices : List ℕ} {h : ℕ} → Hull keys vertices h → PlainHull keys vertices h
plain_hull g = record { some = g.some; few = g.few; polygon = g.polygon; first = g.first }

pub hull_of : {keys vertices : List ℕ} {h : ℕ} → AllKeys (get vertices) h → PlainHull keys vertices h → Hull keys vertices h
hull_of ks o = record { some = o.some; few = o.few; listed = ks; polygon = o.polygon; first = o.first }

-- ---- a closed listing is the polygon

module _ (keys vertices : List ℕ) (h : ℕ) (room : h ≤ length vertices) where
  pub closed_plain_hull : Closed (get keys) (length keys) (get (take h vertices)) h → PlainHull keys vertices h
  closed_plain_hull c =
      record {
        some = c.some;
        few = closed_few c;
        polygon =
            outline_polygon (closed_outline keys (take h vertices)
            (subst (λ n. Closed (get keys) (length keys) (get (take h vertices)) n) (sym (length-take-le h vertices room)) c));
        first = subst (Least keys) (get_or-take h vertices 0 0 c.some) (record { listed = c.from.find 0 c.some; least = c.least });
      }

  pub closed_hull : AllKeys (get keys) (length keys) → Closed (get keys) (length keys) (get (take h vertices)) h → Hull keys vertices h
  closed_hull ks c = hull_of (record { key = λ i l. rw (← get_or-take h vertices i 0 l) ((among ks c.from).key i l) }) (closed_plain_hull c)

-- ---- the same for other keys, each of which is one of the keys or has some of them in all four quadrants round it

inner_point : (l : List ℕ) (k : ℕ) → Inner (get l) (length l) k → InnerPoint (map point_of l) (point_of k)
inner_point l k i =
    let p = i.north_east in
    let q = i.north_west in
    let r = i.south_west in
    let s = i.south_east in
    record {
      north_east = (point_of (get l p.0), point_in l p.0 p.1, east_less k (get l p.0) p.2, north_less k (get l p.0) p.3);
      north_west = (point_of (get l q.0), point_in l q.0 q.1, east_less (get l q.0) k q.2, north_less k (get l q.0) q.3);
      south_west = (point_of (get l r.0), point_in l r.0 r.1, east_less (get l r.0) k r.2, north_less (get l r.0) k r.3);
      south_east = (point_of (get l s.0), point_in l s.0 s.1, east_less k (get l s.0) s.2, north_less (get l s.0) k s.3);
    }

module _ {keys others vertices : List ℕ} {h : ℕ} (l : length keys ≤ length others) (w : EachAmong (get keys) (length keys) (get others) (length others)) where
  module _ (v : (i : ℕ) → i < length others → Among (get keys) (length keys) (get others i) ⊎ Inner (get keys) (length keys) (get others i)) where
    pub outer_plain_hull : PlainHull keys vertices h → PlainHull others vertices h
    outer_plain_hull g =
        record {
          some = g.some;
          few = omega (arith, g.few);
          polygon = let r = g.first.listed in same_polygon (within_points keys others w) back (point_of (get keys r.0)) (point_in keys r.0 r.1) g.polygon;
          first = record {
            listed = let r = g.first.listed in let s = w.find r.0 r.1 in (s.0, s.1, r.2 ∙ s.2);
            least = λ i k. ⊎_elim (λ r. rw r.2 (g.first.least r.0 r.1))
                (λ r. let s = r.south_west in omega (arith, g.first.least s.0 s.1, east_first (get keys s.0) (get others i) s.2)) (v i k);
          };
        }
      where
        back : (p : Point) → p ∈ map point_of others → (p ∈ map point_of keys) ⊎ InnerPoint (map point_of keys) p
        back p m =
            let r = from_point others m in
            rw r.2 (⊎_elim (λ s. inl (rw s.2 (point_in keys s.0 s.1))) (λ s. inr (inner_point keys (get others r.0) s)) (v r.0 r.1))

    pub outer_hull : Hull keys vertices h → Hull others vertices h
    outer_hull g = hull_of g.listed (outer_plain_hull (plain_hull g))

  -- so for keys with the same members
  module _ (v : EachAmong (get others) (length others) (get keys) (length keys)) where
    pub same_plain_hull : PlainHull keys vertices h → PlainHull others vertices h
    same_plain_hull = outer_plain_hull (λ i k. inl (v.find i k))

    pub same_hull : Hull keys vertices h → Hull others vertices h
    same_hull = outer_hull (λ i k. inl (v.find i k))

-- and for keys of which the first n are left
module _ (old new : List ℕ) (n : ℕ) {vertices : List ℕ} {h : ℕ} (l : n ≤ length new) (o : Outer old new n) where
  pub left_plain_hull : PlainHull (take n new) vertices h → PlainHull old vertices h
  left_plain_hull =
      let e = length-take-le n new l in
      outer_plain_hull (omega (arith, o.few)) (front_within new n l o.kept) (front_rest old new n l o)

  pub left_hull : Hull (take n new) vertices h → Hull old vertices h
  left_hull g = hull_of g.listed (left_plain_hull (plain_hull g))

-- ---- the whole: the two parts of the keys, u of them in up and v in down; both in order, in up' and down'; the two chains, of ku vertices in old and kl in l

-- what the two chains make: not too many vertices; the lower chain's are keys; and the first ones without their last, then the others without theirs, are the polygon
pub record TwoChains (keys old l : List ℕ) (ku kl : ℕ) : Type 0 where
  pub few : ku - 1 + (kl - 1) ≤ length keys
  pub lower : AllKeys (get l) (kl - 1)
  pub hull : (new : List ℕ) → length keys ≤ length new → Appended reflected (get old) (get new) (get l) (ku - 1) (kl - 1) → Hull keys new (ku - 1 + (kl - 1))

-- what the first k of a list append is what the list appends
pub front_appended : {f old new : ℕ → ℕ} (l : List ℕ) {at k : ℕ} → k ≤ length l → Appended f old new (get (take k l)) at (length (take k l)) → Appended f old new (get l) at k
front_appended {f} l {at} {k} room w =
    record { before = w.before; after = λ i o. w.after i (omega (arith, o, length-take-le k l room)) ∙ ap f (get_or-take k l i 0 o) }

-- no key is above first, up and last, of which there is an upper chain; nor any reflected key above last, down and first, reflected
module _ (keys up down old l : List ℕ) (first last ku kl : ℕ) (ks : AllKeys (get keys) (length keys)) (h : first < last) (ends : EndsOf keys first last)
    (up_from : EachAmong (get up) (length up) (get keys) (length keys))
    (up-under : (i : ℕ) → i < length keys → Under first (get up) (length up) last (get keys i))
    (down-from : (j : ℕ) → j < length down → (i : ℕ) × (i < length keys) × (get down j ≡ reflected (get keys i)))
    (down-under : (i : ℕ) → i < length keys → Under (reflected last) (get down) (length down) (reflected first) (reflected (get keys i)))
    (cu : Chain (framed first up last) (length up + 2) (get old) ku)
    (cl : Chain (framed (reflected last) down (reflected first)) (length down + 2) (get l) kl) where
  -- all keys in order
  abbrev all : List ℕ
  all = passes keys

  sorted_all : SortedOf keys all
  sorted_all = sorted_passes keys (λ i o. omega (arith, key_most (ks.key i o)))

  many : length all ≡ length keys
  many = rearranged_length (rearranged_passes keys)

  some_key : 1 ≤ length all
  some_key = omega (arith, many, ends.first_in.1)

  inward : EachAmong (get all) (length all) (get keys) (length keys)
  inward = within sorted_all.same

  outward : EachAmong (get keys) (length keys) (get all) (length all)
  outward = within (same_sym sorted_all.same)

  keys_all : AllKeys (get all) (length all)
  keys_all = among ks inward

  first_is : get all 0 ≡ first
  first_is =
      let r = inward.find 0 some_key in
      let s = ends.first_in in
      let t = outward.find s.0 s.1 in
      omega (arith, r.2, ends.least r.0 r.1, s.2, t.2, sorted_all.sorted.le 0 t.0 (omega arith) (omega arith) t.1)

  last_is : get all (length all - 1) ≡ last
  last_is =
      let r = inward.find (length all - 1) (omega (arith, some_key)) in
      let s = ends.last_in in
      let t = outward.find s.0 s.1 in
      let o : t.0 < length all = t.1 in
      omega (arith, r.2, ends.most r.0 r.1, s.2, t.2, sorted_all.sorted.le t.0 (length all - 1) (omega arith) (omega arith) (omega arith))

  -- and reflected
  back : ℕ → ℕ
  back i = reflected (get all (length all - suc i))

  mirrored : Mirrors (get all) (length all) back
  unfolding back
  mirrored = record { is = λ i j e. let z : length all - suc i ≡ j = omega arith in rw z refl }

  upper_half : Half (get all) (length all) first up last
  upper_half =
      record {
        some = some_key;
        first_is = first_is;
        last_is = last_is;
        from = record { find = λ j o. let r = up_from.find j o in let s = outward.find r.0 r.1 in (s.0, s.1, r.2 ∙ s.2) };
        under = λ i o. let r = inward.find i o in subst (Under first (get up) (length up) last) (sym r.2) (up-under r.0 r.1);
      }

  lower_half : Half back (length all) (reflected last) down (reflected first)
  lower_half =
      record {
        some = some_key;
        first_is = mirrored.is 0 (length all - 1) (omega (arith, some_key)) ∙ ap reflected last_is;
        last_is = mirrored.is (length all - 1) 0 (omega (arith, some_key)) ∙ ap reflected first_is;
        from = record { find = find };
        under = λ i o. let r = inward.find (length all - suc i) (omega arith) in
            subst (Under (reflected last) (get down) (length down) (reflected first)) (sym (mirrored.is i (length all - suc i) (omega arith) ∙ ap reflected r.2))
            (down-under r.0 r.1);
      }
    where
      find : (j : ℕ) → j < length down → Among back (length all) (get down j)
      find j o =
          let r = down-from j o in
          let s = outward.find r.0 r.1 in
          let z : s.0 < length all = s.1 in
          (length all - suc s.0, omega arith, r.2 ∙ ap reflected s.2 ∙ sym (mirrored.is (length all - suc s.0) s.0 (omega arith)))

  -- the chains of all, by their sides
  cu' : Chain (get all) (length all) (get old) (suc (ku - 1))
  cu' =
      let e : ku ≡ suc (ku - 1) = omega (arith, cu.some) in
      subst (λ k. Chain (get all) (length all) (get old) k) e (widen (get all) (length all) first up last upper_half (get old) ku cu)

  cl' : Chain back (length all) (get l) (suc (kl - 1))
  cl' =
      let e : kl ≡ suc (kl - 1) = omega (arith, cl.some) in
      subst (λ k. Chain back (length all) (get l) k) e (widen back (length all) (reflected last) down (reflected first) lower_half (get l) kl cl)

  ends_all : get all 0 < get all (length all - 1)
  ends_all = omega (arith, first_is, last_is)

  made_few : ku - 1 + (kl - 1) ≤ length keys
  made_few = omega (arith, many, sides_few (get all) (length all) sorted_all.sorted keys_all ends_all (get old) (ku - 1) cu' back mirrored (get l) (kl - 1) cl')

  made_lower : AllKeys (get l) (kl - 1)
  made_lower = among (mirror_keys (get all) (length all) back keys_all mirrored) (record { find = λ j o. cl'.from j (omega arith) })

  made_hull : (new : List ℕ) → length keys ≤ length new → Appended reflected (get old) (get new) (get l) (ku - 1) (kl - 1) → Hull keys new (ku - 1 + (kl - 1))
  made_hull new long w =
      same_hull (omega (arith, many)) inward outward
      (closed_hull all new (ku - 1 + (kl - 1)) (omega (arith, made_few)) keys_all
      (closed_is (get all) (length all) sorted_all.sorted keys_all ends_all (get old) (ku - 1) cu' back mirrored (get l) (kl - 1) cl'
      (get (take (ku - 1 + (kl - 1)) new))
      (λ j o. get_or-take (ku - 1 + (kl - 1)) new j 0 (omega arith) ∙ w.before j o)
      (λ i o. get_or-take (ku - 1 + (kl - 1)) new (ku - 1 + i) 0 (omega arith) ∙ w.after i o)))

  pub chained : TwoChains keys old l ku kl
  chained = record { few = made_few; lower = made_lower; hull = made_hull }

-- the two parts of the keys that the line from the least to the greatest splits
pub made : {keys upper lower old l : List ℕ} {first last first' last' ku kl : ℕ} → Parted keys first last upper lower → first < last
    → Chain (framed first upper last) (length upper + 2) (get old) ku → first' ≡ reflected first → last' ≡ reflected last
    → Chain (framed last' lower first') (length lower + 2) (get l) kl → TwoChains keys old l ku kl
made {keys} {upper} {lower} {old} {l} {first} {last} {first'} {last'} {ku} {kl} p h cu f-is l-is cl =
    chained keys upper lower old l first last ku kl p.all h p.ends
    (record { find = λ j o. let r = p.above.from j o in (r.0, r.1, r.2) })
    (λ i o. part_under upper (p.ends.least i o) (p.ends.most i o) (p.above.rest i o))
    (λ j o. let r = p.below.from j o in (r.0, r.1, r.2))
    (λ i o. part_under lower (reflected_le (p.ends.most i o)) (reflected_le (p.ends.least i o))
    (⊎_elim inl (λ t. inr (rw (reflected_turn (last_key p.ends p.all) (first_key p.ends p.all) (p.all.key i o)) (turn_over first last (get keys i) t))) (p.below.rest i o)))
    cu (rw (← f-is, ← l-is) cl)

-- the same where all keys are one
module _ (keys out : List ℕ) (first last : ℕ) (some : 1 ≤ length keys) (long : 1 ≤ length out) where
  one_closed : EndsOf keys first last → last ≤ first → get out 0 ≡ first → Closed (get keys) (length keys) (get (take 1 out)) 1
  one_closed ends same e =
      single_key (get keys) (length keys) (get (take 1 out)) some (λ i o. is i o ∙ sym (is 0 some)) (get_or-take 1 out 0 0 (omega arith) ∙ e ∙ sym (is 0 some))
    where
      is : (i : ℕ) → i < length keys → get keys i ≡ first
      is i o = omega (arith, ends.least i o, ends.most i o)

  pub made_one : AllKeys (get keys) (length keys) → EndsOf keys first last → last ≤ first → get out 0 ≡ first → Hull keys out 1
  made_one ks ends same e = closed_hull keys out 1 long ks (one_closed ends same e)

  pub one_plain_hull : EndsOf keys first last → last ≤ first → get out 0 ≡ first → PlainHull keys out 1
  one_plain_hull ends same e = closed_plain_hull keys out 1 long (one_closed ends same e)
