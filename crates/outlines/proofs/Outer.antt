-- The outer polygon from its two chains. Assumes nothing.
use mathlib.Core.Path.{◌≡◌, refl, sym, ◌∙◌, ap, ap₂, subst}
use mathlib.Core.List.{List, [], ◌∷◌, ◌++◌, map}
use Prim.Native.Nat.{ℕ, ◌+◌, ◌-◌, ◌*◌, ◌/◌, ◌≤◌, ◌<◌}
use native.Mathlib.Omega.{arith}
use lib.IntN.{ℤ, pos}
use lib.Signed.{◌≤ℤ◌}
use lib.ListN.{length, get_or, take, drop, length-map, length-append, length-drop, get_or-append}
use lib.Seq.{length-take-le, get_or-take}
use Rattle.plane.specs.Points.{point, InSpan}
use Rattle.plane.specs.declared.Point.{Point}
use Rattle.plane.specs.Members.{All, none, ◌&◌, ◌∈◌}
use Rattle.plane.specs.Polygons.{Polygon}
use Rattle.plane.proofs.Lists.{all_of, in_by_index, index_of_in, map_at}
use Rattle.turns.specs.Keys.{IsKey, AllKeys, key_at, point_of}
use Rattle.turns.specs.Reflection.{reflected}
use Rattle.turns.proofs.Order.{point_injective}
use Rattle.turns.proofs.Coordinates.{key_at_lem}
use Rattle.turns.proofs.Listed.{front_listed, each_key}
use Rattle.orders.specs.Order.{get, Sorted}
use Rattle.chains.specs.Chains.{turn, Chain, Amid, Under, framed}
use Rattle.extremes.specs.Inner.{Among, EndsOf}
use Rattle.hulls.specs.Hulls.{Hull}
use Rattle.hulls.proofs.Made.{TwoChains, chained, made_one}
use Rattle.rounds.specs.Boxes.{BoxList, boxes_of, box_at, all_corners}
use Rattle.rounds.proofs.Rows.{all_boxes_at}
use Rattle.corners.proofs.Places.{corner_in_span}
use Rattle.corner_lists.proofs.Boxes.{corner_at_lem}
use Rattle.corner_lists.specs.ChainKeys.{KeyIn, PointEnds, ChainKeys}
use Rattle.outlines.specs.Outlines.{PolygonKeys}
use Rattle.outlines.proofs.Polygons.{all_length}

-- ---- the keys of points of the span

pub record Keyed (qs : List Point) : Type 0 where
  pub keys : List ℕ
  pub all : All IsKey keys
  pub points : map point_of keys ≡ qs

pub keyed_all : (qs : List Point) → All InSpan qs → Keyed qs
keyed_all [] none = record { keys = []; all = none; points = refl }
keyed_all (q ∷ qs) (h & hs) =
    let k = key_at_lem q h in
    let r = keyed_all qs hs in
    record { keys = key_at q ∷ r.keys; all = k.key & r.all; points = ap₂ ◌∷◌ k.is r.points }

module _ {qs : List Point} (kd : Keyed qs) where
  abbrev pub keys_of : List ℕ
  keys_of = kd.keys

  pub keys_length : length keys_of ≡ length qs
  keys_length = sym (length-map keys_of point_of) ∙ ap (λ (l : List Point). length l) kd.points

  pub all_keys : AllKeys (get keys_of) (length keys_of)
  all_keys = each_key kd.all

  point_at : (i : ℕ) → i < length keys_of → point_of (get keys_of i) ≡ get_or qs i (point (pos 0) (pos 0))
  point_at i h = sym (map_at point_of 0 (point (pos 0) (pos 0)) keys_of i h) ∙ ap (λ (l : List Point). get_or l i (point (pos 0) (pos 0))) kd.points

  pub key_in : (i : ℕ) → i < length keys_of → KeyIn qs (get keys_of i)
  key_in i h =
      record {
        key = all_keys.key i h;
        listed = subst (λ q. q ∈ qs) (sym (point_at i h)) (in_by_index (point (pos 0) (pos 0)) qs i (omega (arith, keys_length)));
      }

  pub among_keys : {x : ℕ} → KeyIn qs x → Among (get keys_of) (length keys_of) x
  among_keys {x} m =
      let r = index_of_in (point (pos 0) (pos 0)) m.listed in
      let h : r.0 < length keys_of = omega (arith, r.1, keys_length) in
      (r.0, h, point_injective x (get keys_of r.0) (r.2 ∙ sym (point_at r.0 h)))

  pub key_ends : {first last : ℕ} → PointEnds qs first last → EndsOf keys_of first last
  key_ends e =
      record {
        first_in = among_keys e.first_in;
        last_in = among_keys e.last_in;
        least = λ i h. e.least (get keys_of i) (key_in i h);
        most = λ i h. e.most (get keys_of i) (key_in i h);
      }

  -- the polygon of the keys is that of the points
  pub points_polygon : (vs : List ℕ) (count : ℕ) → Hull keys_of vs count → PolygonKeys qs vs count
  points_polygon vs count g =
      record {
        some = g.some;
        few = omega (arith, g.few, keys_length);
        keys = front_listed vs count g.listed;
        polygon = subst (λ q. Polygon q (map point_of (take count vs))) kd.points g.polygon;
      }

-- ---- the keys of a chain, as the callee sees them that is lent the first of a list

module _ {f : ℕ → ℕ} {qs : List Point} {n first last : ℕ} (list : List ℕ) {u : ℕ} (room : u ≤ length list) (ck : ChainKeys f qs n first last list u) where
  front : length (take u list) ≡ u
  front = length-take-le u list room

  at : (j : ℕ) → j < length (take u list) → get (take u list) j ≡ get list j
  at j h = get_or-take u list j 0 (omega (arith, front))

  pub front_sorted : Sorted (get (take u list)) 0 (length (take u list))
  front_sorted = record { le = λ i j a b c. rw (at i (omega arith), at j c) (ck.sorted.le i j a b (omega (arith, front))) }

  pub front_amid : Amid (get (take u list)) (length (take u list)) first last
  front_amid = record { above = λ i h. rw (at i h) (ck.amid.above i (omega (arith, front))); below = λ i h. rw (at i h) (ck.amid.below i (omega (arith, front))) }

  pub front_from : (j : ℕ) → j < length (take u list) → (x : ℕ) × KeyIn qs x × (get (take u list) j ≡ f x)
  front_from j h = let r = ck.from j (omega (arith, front)) in (r.0, r.1, at j h ∙ r.2)

  pub front_under : {x : ℕ} → KeyIn qs x → Under first (get (take u list)) (length (take u list)) last (f x)
  front_under {x} m =
      record {
        right = λ a b h c g d. (ck.under x m).right a b h c (λ j o. subst (λ k. turn a b k ≤ℤ pos 0) (at j (omega (arith, front))) (g j (omega (arith, front)))) d;
      }

-- ---- the polygon

module _ {qs : List Point} (kd : Keyed qs) {n first last : ℕ} (h : first < last) (e : PointEnds qs first last) (up down : List ℕ) {u v : ℕ} (ur : u ≤ length up) (vr : v ≤ length down)
    (cu : ChainKeys (λ k. k) qs n first last up u) (cl : ChainKeys reflected qs n (reflected last) (reflected first) down v)
    (old l : List ℕ) (ku kl : ℕ) (hu : Chain (framed first (take u up) last) (length (take u up) + 2) (get old) ku)
    (hl : Chain (framed (reflected last) (take v down) (reflected first)) (length (take v down) + 2) (get l) kl) where
  pub outer_chains : TwoChains (keys_of kd) old l ku kl
  outer_chains =
      chained (keys_of kd) (take u up) (take v down) old l first last ku kl (all_keys kd) h (key_ends kd e)
      (record { find = λ j o. let r = front_from up ur cu j o in let w = among_keys kd r.1 in (w.0, w.1, r.2 ∙ w.2) })
      (λ i o. front_under up ur cu (key_in kd i o))
      (λ j o. let r = front_from down vr cl j o in let w = among_keys kd r.1 in (w.0, w.1, r.2 ∙ ap reflected w.2))
      (λ i o. front_under down vr cl (key_in kd i o))
      hu hl

-- all points are one
pub outer_one : {qs : List Point} (kd : Keyed qs) {first last : ℕ} (out : List ℕ) → 1 ≤ length out → PointEnds qs first last → last ≤ first → get out 0 ≡ first → PolygonKeys qs out 1
outer_one kd {first} {last} out room e same z =
    let w = among_keys kd e.first_in in
    points_polygon kd out 1 (made_one (keys_of kd) out first last (omega (arith, w.1)) room (all_keys kd) (key_ends kd e) same z)

-- ---- the corners of a box list

pub corners_keyed : (l : List ℤ) → BoxList l → Keyed (all_corners (boxes_of l))
corners_keyed l bl = keyed_all (all_corners (boxes_of l)) (all_of (all_corners (boxes_of l)) in_span)
  where
    in_span : (q : Point) → q ∈ all_corners (boxes_of l) → InSpan q
    in_span q m = let w = corner_at_lem l m in subst InSpan (sym w.is) (corner_in_span w.corner (box_at l (w.k * 4)) (all_boxes_at l bl.in_span w.k w.in_list))

-- four for each box
pub corners_many : (l : List ℤ) (bl : BoxList l) → length (keys_of (corners_keyed l bl)) ≡ length l / 4 + length l / 4 + length l / 4 + length l / 4
corners_many l bl = keys_length (corners_keyed l bl) ∙ all_length l bl.whole ∙ omega (arith, bl.whole)

-- ---- a part that was lent on, in the whole

module _ (n : ℕ) (xs ys : List ℕ) (h : n ≤ length xs) (long : length ys ≡ length (take (length xs - n) (drop n xs))) where
  abbrev whole : List ℕ
  whole = take n xs ++ (ys ++ drop (length xs - n) (drop n xs))

  pub whole_length : length whole ≡ length xs
  whole_length =
      let a = length-take-le n xs h in
      let b = length-take-le (length xs - n) (drop n xs) (simp length-drop (omega arith)) in
      simp (length-append, length-drop) (omega (arith, a, b, long))

  pub whole_front : (j : ℕ) → j < n → get whole j ≡ get xs j
  whole_front j o =
      get_or-append (take n xs) (ys ++ drop (length xs - n) (drop n xs)) 0 j (omega (arith, length-take-le n xs h)) ∙ get_or-take n xs j 0 o
