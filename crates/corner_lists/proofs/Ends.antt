-- The keys of one corner of every box; and the least key of all corners and the greatest. Assumes nothing.
use mathlib.Core.Path.{◌≡◌, refl, sym, ◌∙◌, ap, subst}
use mathlib.Core.List.{List}
use Prim.Native.Nat.{ℕ, ◌*◌, ◌/◌, ◌≤◌, ◌<◌}
use native.Mathlib.Omega.{arith}
use lib.IntN.{ℤ, pos}
use lib.ListN.{length, get_or, take}
use lib.Seq.{length-take-le}
use Rattle.plane.specs.Points.{point}
use Rattle.plane.specs.declared.Point.{Point}
use Rattle.plane.specs.Members.{All}
use Rattle.plane.proofs.Lists.{index_of_all, map_at}
use Rattle.turns.specs.Keys.{IsKey, KeyOf, point_of}
use Rattle.turns.proofs.Listed.{listed}
use Rattle.orders.specs.Order.{get}
use Rattle.rounds.specs.Boxes.{BoxList, boxes_of, box_at, corner_of, corners_of, all_corners}
use Rattle.rounds.specs.declared.Corner.{Corner}
use Rattle.rounds.specs.declared.Corner.TheVariants.{SouthWest, NorthEast}
use Rattle.rounds.proofs.Rows.{all_boxes_at}
use Rattle.corners.proofs.Places.{nth_corner_lem, corners_length}
use Rattle.chains.proofs.Covering.{order_from}
use Rattle.extremes.specs.Inner.{EndsOf}
use Rattle.corner_lists.specs.KeyLists.{KeysOf}
use Rattle.corner_lists.specs.ChainKeys.{KeyIn, PointEnds}
use Rattle.corner_lists.proofs.Boxes.{corner_at_lem, at_corner, least_east, most_east, least_north, most_north}

-- a list holds what f gives to the keys of that corner of every box
pub record HoldsKeys (f : ℕ → ℕ) (l : List ℤ) (corner : Corner) (ks : List ℕ) : Type 0 where
  pub long : length ks ≡ length l / 4
  pub at : (k : ℕ) → k < length l / 4 → (x : ℕ) × KeyOf (corner_of corner (box_at l (k * 4))) x × (get ks k ≡ f x)

-- where f makes keys of keys, all are keys
pub held_keys : {f : ℕ → ℕ} {l : List ℤ} {corner : Corner} {ks : List ℕ} → ((x : ℕ) → IsKey x → IsKey (f x)) → HoldsKeys f l corner ks → All IsKey ks
held_keys keeps h = listed (record { key = λ k o. let r = h.at k (omega (arith, h.long)) in subst IsKey (sym r.2) (keeps r.0 r.1.key) })

-- the keys of one corner, at the front of an array
pub one_held : (l : List ℤ) (c : Corner) (n : ℕ) → n ≡ length l / 4 → (ks : List ℕ) → n ≤ length ks → KeysOf (corners_of c (boxes_of l)) ks → HoldsKeys (λ k. k) l c (take n ks)
one_held l c n is ks room kk =
    subst (λ m. HoldsKeys (λ k. k) l c (take m ks)) (corners_length c l ∙ sym is)
    (record {
      long = length-take-le (length (corners_of c (boxes_of l))) ks (omega (arith, corners_length c l, is)) ∙ corners_length c l;
      at = λ k h. (get (take (length (corners_of c (boxes_of l))) ks) k, key_at_lem k h, refl);
    })
  where
    key_at_lem : (k : ℕ) → k < length l / 4 → KeyOf (corner_of c (box_at l (k * 4))) (get (take (length (corners_of c (boxes_of l))) ks) k)
    key_at_lem k h =
        let o : k < length (take (length (corners_of c (boxes_of l))) ks) = omega (arith, length-take-le (length (corners_of c (boxes_of l))) ks (omega (arith, corners_length c l, is)), corners_length c l) in
        record {
          key = index_of_all 0 kk.keys k o;
          is =
              sym (map_at point_of 0 (point (pos 0) (pos 0)) (take (length (corners_of c (boxes_of l))) ks) k o)
              ∙ ap (λ (q : List Point). get_or q k (point (pos 0) (pos 0))) kk.points ∙ sym (nth_corner_lem c l k h);
        }

module _ (l : List ℤ) (bl : BoxList l) where
  -- a key that is held is one of the corners'
  held_in : (c : Corner) (ks : List ℕ) → HoldsKeys (λ k. k) l c ks → (k : ℕ) → k < length ks → KeyIn (all_corners (boxes_of l)) (get ks k)
  held_in c ks hk k h =
      let o : k < length l / 4 = omega (arith, hk.long) in
      let r = hk.at k o in
      subst (KeyIn (all_corners (boxes_of l))) (sym r.2) (record { key = r.1.key; listed = rw r.1.is (at_corner l c k o) })

  held_at : (c : Corner) (ks : List ℕ) → HoldsKeys (λ k. k) l c ks → (k : ℕ) → k < length l / 4 → point_of (get ks k) ≡ corner_of c (box_at l (k * 4))
  held_at c ks hk k h = let r = hk.at k h in ap point_of r.2 ∙ r.1.is

  pub corner_ends : (low high : List ℕ) (first f last g : ℕ) → HoldsKeys (λ k. k) l SouthWest low → HoldsKeys (λ k. k) l NorthEast high
      → EndsOf low first f → EndsOf high g last → PointEnds (all_corners (boxes_of l)) first last
  corner_ends low high first f last g lk hk le he =
      record {
        first_in = let r = le.first_in in subst (KeyIn (all_corners (boxes_of l))) (sym r.2) (held_in SouthWest low lk r.0 r.1);
        last_in = let r = he.last_in in subst (KeyIn (all_corners (boxes_of l))) (sym r.2) (held_in NorthEast high hk r.0 r.1);
        least = least;
        most = most;
      }
    where
      least_by : (x k : ℕ) → k < length l / 4 → (c : Corner) → point_of x ≡ corner_of c (box_at l (k * 4)) → first ≤ x
      least_by x k h c e =
          let o = all_boxes_at l bl.ordered k h in
          let p = held_at SouthWest low lk k h in
          omega (
            arith,
            le.least k (omega (arith, lk.long)),
            order_from (get low k) x (rw (p, e) (least_east (box_at l (k * 4)) o c)) (rw (p, e) (least_north (box_at l (k * 4)) o c)),
          )

      least : (x : ℕ) → KeyIn (all_corners (boxes_of l)) x → first ≤ x
      least x i = let w = corner_at_lem l i.listed in least_by x w.k w.in_list w.corner w.is

      most_by : (x k : ℕ) → k < length l / 4 → (c : Corner) → point_of x ≡ corner_of c (box_at l (k * 4)) → x ≤ last
      most_by x k h c e =
          let o = all_boxes_at l bl.ordered k h in
          let p = held_at NorthEast high hk k h in
          omega (
            arith,
            he.most k (omega (arith, hk.long)),
            order_from x (get high k) (rw (p, e) (most_east (box_at l (k * 4)) o c)) (rw (p, e) (most_north (box_at l (k * 4)) o c)),
          )

      most : (x : ℕ) → KeyIn (all_corners (boxes_of l)) x → x ≤ last
      most x i = let w = corner_at_lem l i.listed in most_by x w.k w.in_list w.corner w.is
