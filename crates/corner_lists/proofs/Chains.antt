-- The keys that a chain of all corners is made of, from the list that crate quarters gives. Assumes nothing.
use mathlib.Core.Path.{◌≡◌, sym, ◌∙◌, ap, subst}
use mathlib.Core.Logic.{⊎_elim}
use mathlib.Core.List.{List, ◌++◌}
use Prim.Native.Nat.{ℕ, ◌+◌, ◌*◌, ◌/◌, ◌≤◌, ◌<◌}
use native.Mathlib.Decide.{dec_lt}
use native.Mathlib.Omega.{arith}
use lib.IntN.{ℤ, pos}
use lib.Signed.{◌≤ℤ◌}
use lib.ListN.{length, get_or, take, drop, length-drop, get_or-append}
use lib.Seq.{length-take-le, get_or-take, get_or-drop, get_or-append-add}
use Rattle.integers.proofs.Order.{≤_trans}
use Rattle.plane.specs.Points.{point}
use Rattle.plane.specs.declared.Point.{Point}
use Rattle.plane.specs.Members.{All}
use Rattle.plane.proofs.Lists.{index_of_all, map_at}
use Rattle.turns.specs.Keys.{IsKey, KeyOf, point_of}
use Rattle.turns.proofs.Listed.{front_listed}
use Rattle.orders.specs.Order.{get}
use Rattle.rounds.specs.Boxes.{Ordered, BoxList, boxes_of, box_at, corner_of, corners_of, all_corners}
use Rattle.rounds.specs.declared.Corner.{Corner}
use Rattle.rounds.proofs.Rows.{all_boxes_at}
use Rattle.corners.proofs.Places.{nth_corner_lem, corners_length}
use Rattle.chains.specs.Chains.{Under}
use Rattle.chains.proofs.Covering.{under_wider, east_from, north_from, order_from}
use Rattle.quarters.specs.Quarters.{FromTo, UpperInput, UpperList}
use Rattle.corner_lists.specs.KeyLists.{KeysOf}
use Rattle.corner_lists.specs.ChainKeys.{KeyIn, ChainRoom, ChainKeys}
use Rattle.corner_lists.proofs.Filling.{two_length, keys_listed}
use Rattle.corner_lists.proofs.Boxes.{corner_at_lem, at_corner, Widest}
use Rattle.corner_lists.proofs.Ends.{HoldsKeys}

module _ (f : ℕ → ℕ) (g : Point → Point) (sees : (x : ℕ) → IsKey x → point_of (f x) ≡ g (point_of x))
    (a b : Corner) (wide : Widest g a b) (l : List ℤ) (bl : BoxList l) (left right : List ℕ) (lk : HoldsKeys f l a left) (rk : HoldsKeys f l b right) where
  -- a key of the lists is one of the corners'
  module _ (c : Corner) (ks : List ℕ) (hk : HoldsKeys f l c ks) where
    held : (k : ℕ) → k < length ks → (x : ℕ) × KeyIn (all_corners (boxes_of l)) x × (get ks k ≡ f x)
    held k h =
        let o : k < length l / 4 = omega (arith, hk.long) in
        let r = hk.at k o in
        (r.0, record { key = r.1.key; listed = rw r.1.is (at_corner l c k o) }, r.2)

    pub held_ends : {first last : ℕ} → ((x : ℕ) → KeyIn (all_corners (boxes_of l)) x → first ≤ f x) → ((x : ℕ) → KeyIn (all_corners (boxes_of l)) x → f x ≤ last) → FromTo ks first last
    held_ends least most =
        record {
          least = λ k h. let r = held k h in rw r.2 (least r.0 r.1);
          most = λ k h. let r = held k h in rw r.2 (most r.0 r.1);
        }

    held_point : (k : ℕ) → k < length l / 4 → point_of (get ks k) ≡ g (corner_of c (box_at l (k * 4)))
    held_point k h = let r = hk.at k h in ap point_of r.2 ∙ sees r.0 r.1.key ∙ ap g r.1.is

  pub upper_input : {first last : ℕ} {list keys scratch : List ℕ} → ((x : ℕ) → KeyIn (all_corners (boxes_of l)) x → first ≤ f x)
      → ((x : ℕ) → KeyIn (all_corners (boxes_of l)) x → f x ≤ last) → ChainRoom (length l / 4) list keys scratch → UpperInput left right first last list scratch
  upper_input least most room =
      record {
        some = omega (arith, lk.long, bl.some);
        left_ends = held_ends a left lk least most;
        right_ends = held_ends b right rk least most;
        out_room = omega (arith, lk.long, rk.long, room.in_list);
        left_scratch = omega (arith, lk.long, room.in_scratch);
        right_scratch = omega (arith, rk.long, room.in_scratch);
      }

  module _ (first last : ℕ) (out : List ℕ) (u : ℕ) (ul : UpperList left right first last out u) where
    chain_from : (j : ℕ) → j < u → (x : ℕ) × KeyIn (all_corners (boxes_of l)) x × (get out j ≡ f x)
    chain_from j h =
        ⊎_elim (λ w. let r = held a left lk w.0 w.1 in (r.0, r.1, w.2 ∙ r.2))
        (λ w. let r = held b right rk w.0 w.1 in (r.0, r.1, w.2 ∙ r.2)) (ul.from j h)

    -- the corners of the box at place k
    module _ (k : ℕ) (h : k < length l / 4) where
      bx : Ordered (box_at l (k * 4))
      bx = all_boxes_at l bl.ordered k h

      left_at : point_of (get left k) ≡ g (corner_of a (box_at l (k * 4)))
      left_at = held_point a left lk k h

      right_at : point_of (get right k) ≡ g (corner_of b (box_at l (k * 4)))
      right_at = held_point b right rk k h

      -- whatever corner it is, it is east and south of the one, and west and south of the other
      module _ (c : Corner) (x : ℕ) (is : point_of x ≡ g (corner_of c (box_at l (k * 4)))) where
        from_left : (point_of (get left k)).east ≤ℤ (point_of x).east
        from_left = rw (left_at, is) (wide.west (box_at l (k * 4)) bx c)

        under_left : (point_of x).north ≤ℤ (point_of (get left k)).north
        under_left = rw (left_at, is) (wide.west_north (box_at l (k * 4)) bx c)

        to_right : (point_of x).east ≤ℤ (point_of (get right k)).east
        to_right = rw (right_at, is) (wide.east (box_at l (k * 4)) bx c)

        under_right : (point_of x).north ≤ℤ (point_of (get right k)).north
        under_right = rw (right_at, is) (wide.east_north (box_at l (k * 4)) bx c)

      ordered : get left k ≤ get right k
      ordered = order_from (get left k) (get right k) (to_right a (get left k) left_at) (under_right a (get left k) left_at)

      in_left_list : k < length left
      in_left_list = omega (arith, lk.long)

      in_right_list : k < length right
      in_right_list = omega (arith, rk.long)

      peak_under : Under first (get out) u last ul.peak
      peak_under = let w = ul.northmost.listed in subst (Under first (get out) u last) (sym w.2) (ul.left_under w.0 w.1 (omega (arith, w.2)))

      -- the northmost key is as far north as both
      peak_left : (point_of (get left k)).north ≤ℤ (point_of ul.peak).north
      peak_left = north_from (get left k) ul.peak (ul.northmost.most k in_left_list)

      both : (Under first (get out) u last (get left k)) × (Under first (get out) u last (get right k))
      both = go (dec_lt ul.peak (get left k)) (dec_lt (get right k) ul.peak)
        where
          go : Dec (ul.peak < get left k) → Dec (get right k < ul.peak) → (Under first (get out) u last (get left k)) × (Under first (get out) u last (get right k))
          go (no p) (no q) = (ul.left_under k in_left_list (omega arith), ul.right_under k in_right_list (omega arith))
          go (yes p) q =
              let r = ul.right_under k in_right_list (omega (arith, ordered)) in
              (under_wider peak_under r (east_from (omega arith)) peak_left (to_right a (get left k) left_at) (under_right a (get left k) left_at), r)
          go (no p) (yes q) =
              let r = ul.left_under k in_left_list (omega arith) in (
                r,
                under_wider r peak_under (from_left b (get right k) right_at) (under_left b (get right k) right_at) (east_from (omega arith))
                    (≤_trans (under_left b (get right k) right_at) peak_left),
              )

      at_place : (c : Corner) (x : ℕ) → point_of x ≡ g (corner_of c (box_at l (k * 4))) → Under first (get out) u last x
      at_place c x is = under_wider both.0 both.1 (from_left c x is) (under_left c x is) (to_right c x is) (under_right c x is)

    pub chain_keys : ChainKeys f (all_corners (boxes_of l)) (length l / 4) first last out u
    chain_keys =
        record {
          few = omega (arith, ul.few, lk.long, rk.long);
          sorted = ul.sorted;
          amid = ul.amid;
          from = chain_from;
          under = λ x i. let w = corner_at_lem l i.listed in at_place w.k w.in_list w.corner (f x) (sees x i.key ∙ ap g w.is);
        }

-- where f makes keys of keys, the first u are a list of keys
pub chain_listed : {f : ℕ → ℕ} {qs : List Point} {n first last u : ℕ} {out : List ℕ} → ((x : ℕ) → IsKey x → IsKey (f x)) → ChainKeys f qs n first last out u → All IsKey (take u out)
chain_listed {u = u} {out = out} keeps ck = front_listed out u (record { key = λ j o. let r = ck.from j o in subst IsKey (sym r.2) (keeps r.0 r.1.key) })

-- ---- the two lists, one behind the other in an array

module _ (l : List ℤ) (a b : Corner) (n : ℕ) (is : n ≡ length l / 4) (ks : List ℕ) (room : n + n ≤ length ks)
    (kk : KeysOf (corners_of a (boxes_of l) ++ corners_of b (boxes_of l)) ks) where
  abbrev qs : List Point
  qs = corners_of a (boxes_of l) ++ corners_of b (boxes_of l)

  abbrev z : Point
  z = point (pos 0) (pos 0)

  qs_length : length qs ≡ n + n
  qs_length = omega (arith, two_length a b l, is)

  key_at_lem : (i : ℕ) → i < n + n → KeyOf (get_or qs i z) (get (take (n + n) ks) i)
  key_at_lem i h =
      subst (λ m. KeyOf (get_or qs i z) (get (take m ks) i)) qs_length
      (record { key = index_of_all 0 kk.keys i taken; is = sym (map_at point_of 0 z (take (length qs) ks) i taken) ∙ ap (λ (q : List Point). get_or q i z) kk.points })
    where
      taken : i < length (take (length qs) ks)
      taken = omega (arith, length-take-le (length qs) ks (omega (arith, qs_length)), qs_length)

  pub both_keys : All IsKey (take (n + n) ks)
  both_keys = keys_listed qs_length kk

  pub both_taken : length (take (n + n) ks) ≡ n + n
  both_taken = length-take-le (n + n) ks room

  -- and what f gives to them
  module _ (f : ℕ → ℕ) (ms : List ℕ) (long : length ms ≡ n + n) (same : (i : ℕ) → i < n + n → get ms i ≡ f (get (take (n + n) ks) i)) where
    pub left_held : HoldsKeys f l a (take n ms)
    left_held =
        record {
          long = length-take-le n ms (omega (arith, long)) ∙ is;
          at = λ k h.
              let e = nth_corner_lem a l k h ∙ sym (get_or-append (corners_of a (boxes_of l)) (corners_of b (boxes_of l)) z k (omega (arith, corners_length a l))) in (
                get (take (n + n) ks) k,
                subst (λ q. KeyOf q (get (take (n + n) ks) k)) (sym e) (key_at_lem k (omega (arith, is))),
                get_or-take n ms k 0 (omega (arith, is)) ∙ same k (omega (arith, is)),
              );
        }

    pub right_held : HoldsKeys f l b (drop n ms)
    right_held =
        record {
          long = simp length-drop (omega (arith, long, is));
          at = λ k h.
              let e : corner_of b (box_at l (k * 4)) ≡ get_or qs (n + k) z = nth_corner_lem b l k h ∙ sym (behind k) in (
                get (take (n + n) ks) (n + k),
                subst (λ q. KeyOf q (get (take (n + n) ks) (n + k))) (sym e) (key_at_lem (n + k) (omega (arith, is))),
                get_or-drop n ms k 0 ∙ same (n + k) (omega (arith, is)),
              );
        }
      where
        behind : (k : ℕ) → get_or qs (n + k) z ≡ get_or (corners_of b (boxes_of l)) k z
        behind k = ap (λ m. get_or qs (m + k) z) (is ∙ sym (corners_length a l)) ∙ get_or-append-add (corners_of a (boxes_of l)) (corners_of b (boxes_of l)) k z
