-- What a polygon tells: the definition by extreme points gives back the outline (Outline), so that a polygon's promise is all that a verdict needs.
-- In any direction the points farthest along it, and among those the one farthest to its left, is extreme, so that every point is behind some vertex; and three
-- vertices are never in line. Assumes nothing.
use mathlib.Core.Path.{◌≡◌, refl, sym, ◌∙◌, subst}
use mathlib.Core.Logic.{◌⊎◌, inl, inr, ⊎_elim}
use mathlib.Core.List.{List, [], ◌∷◌, map}
use native.Mathlib.Omega.{arith}
use lib.IntN.{ℤ, pos, negsuc, ◌+ℤ◌, ◌*ℤ◌, ◌-ℤ◌, neg_ℤ}
use lib.Signed.{◌≤ℤ◌, ◌<ℤ◌, ≤ℤ_refl}
use Rattle.integers.proofs.Expr.{◌⊕◌, ◌⊖◌, ◌⊗◌, ⊝◌, #◌, ◌≼◌, ◌≺◌, ◌≐◌, ◌⟹◌, bot}
use Rattle.integers.proofs.Lin.{lin}
use Rattle.integers.proofs.Cert.{cert, hyp, num, eqn, sq, ◌⊞◌, ◌∵◌, ◌∵◌÷◌}
use Rattle.integers.proofs.Order.{lt_or_ge, <→≤, ≡→≤, ≤-antisym, ≤_trans, not-≤, compareℤ, Cmp, is_less, is_same, is_more}
use Rattle.plane.specs.Points.{signed_area, outward_east, outward_north, dot_product}
use Rattle.plane.specs.declared.Point.{Point}
use Rattle.plane.specs.Members.{All, none, ◌&◌, ◌∈◌, here, there}
use Rattle.plane.specs.Vectors.{from, along, Separated}
use Rattle.plane.specs.Polygons.{AllRight, Extreme, Distinct, Steps, Clockwise, Polygon}
use Rattle.plane.proofs.Twins.{signed_areaᴱ, pt, fromᴱ, alongᴱ}
use Rattle.plane.proofs.Lists.{first, rest, all_at, all_of, all_imp, all_map}
use Rattle.plane.proofs.Combos.{separated_not_balanced}
use Rattle.plane.proofs.Sides.{side_nonzero, point_ext, dot_productᴱ}
use Rattle.plane.proofs.Winding.{length_pos}
use Rattle.plane.proofs.Alternative.{Rises, outgrow}
use Rattle.plane.proofs.PolygonFacts.{Between, between_balanced, Turns, TurnsRight}
use Rattle.plane.proofs.Outline.{Outline, one_point, in_line, area}

module _ (a b : ℤ) where
  -- q is not past m: less far along (a, b), or as far and not farther to the left
  abbrev Before : Point → Point → Type 0
  Before m q = (along a b q <ℤ along a b m) ⊎ ((along a b q ≡ along a b m) × (along (neg_ℤ b) a q ≤ℤ along (neg_ℤ b) a m))

  before_trans : (l m q : Point) → Before m q → Before l m → Before l q
  before_trans l m q (inl h) (inl k) = inl (lin 0 3 (λ x y z. x ≺ y ⟹ y ≺ z ⟹ x ≺ z) (omega arith) _ _ _ h k)
  before_trans l m q (inl h) (inr k) = inl (lin 0 3 (λ x y z. x ≺ y ⟹ y ≐ z ⟹ x ≺ z) (omega arith) _ _ _ h k.0)
  before_trans l m q (inr h) (inl k) = inl (lin 0 3 (λ x y z. x ≐ y ⟹ y ≺ z ⟹ x ≺ z) (omega arith) _ _ _ h.0 k)
  before_trans l m q (inr h) (inr k) = inr (h.0 ∙ k.0, ≤_trans h.1 k.1)

  before_total : (m q : Point) → Before m q ⊎ Before q m
  before_total m q = go (compareℤ (along a b q) (along a b m)) (lt_or_ge (along (neg_ℤ b) a q) (along (neg_ℤ b) a m))
    where
      go : Cmp (along a b q) (along a b m) → (along (neg_ℤ b) a q <ℤ along (neg_ℤ b) a m) ⊎ (along (neg_ℤ b) a m ≤ℤ along (neg_ℤ b) a q) → Before m q ⊎ Before q m
      go (is_less h) k = inl (inl h)
      go (is_more h) k = inr (inl h)
      go (is_same h) (inl k) = inl (inr (h, <→≤ k))
      go (is_same h) (inr k) = inr (inr (sym h, k))

  -- the one that no other is past
  topmost : (q : Point) (qs : List Point) → (m : Point) × (m ∈ (q ∷ qs)) × All (Before m) (q ∷ qs)
  topmost q [] = (q, here refl, inr (refl, ≤ℤ_refl _) & none)
  topmost q (r ∷ qs) = go (topmost r qs)
    where
      go : (m : Point) × (m ∈ (r ∷ qs)) × All (Before m) (r ∷ qs) → (m : Point) × (m ∈ (q ∷ r ∷ qs)) × All (Before m) (q ∷ r ∷ qs)
      go (m, k, h) = ⊎_elim (λ l. (m, there k, l & h)) (λ l. (q, here refl, inr (refl, ≤ℤ_refl _) & all_imp (λ s j. before_trans q m s j l) h)) (before_total m q)

  -- a point that is as far and as far left is the same
  same_both : (m q : Point) → pos 0 <ℤ (a *ℤ a +ℤ b *ℤ b) → along a b q ≡ along a b m → along (neg_ℤ b) a q ≡ along (neg_ℤ b) a m → q ≡ m
  same_both m q l e f =
      point_ext
      (cert 2 2 (λ m q a b. # 0 ≺ a ⊗ a ⊕ b ⊗ b ⟹ alongᴱ a b q ≐ alongᴱ a b m ⟹ alongᴱ (⊝ b) a q ≐ alongᴱ (⊝ b) a m ⟹ q.0 ≐ m.0 ∵ eqn 1 a ⊞ eqn 2 (⊝ b) ÷ hyp 0) tt (pt m) (pt q) a b l e f)
      (cert 2 2 (λ m q a b. # 0 ≺ a ⊗ a ⊕ b ⊗ b ⟹ alongᴱ a b q ≐ alongᴱ a b m ⟹ alongᴱ (⊝ b) a q ≐ alongᴱ (⊝ b) a m ⟹ q.1 ≐ m.1 ∵ eqn 1 b ⊞ eqn 2 a ÷ hyp 0) tt (pt m) (pt q) a b l e f)

  top_extreme : {qs : List Point} (m : Point) → pos 0 <ℤ (a *ℤ a +ℤ b *ℤ b) → m ∈ qs → All (Before m) qs → Extreme qs m
  top_extreme {qs} m l k h = record { listed = k; apart = λ others o. separated_not_balanced (split others (outgrow t x (all_imp (λ q j. rises q (all_at h j.0) j.1) o))) }
    where
      t : Point → ℤ
      t q = along a b m -ℤ along a b q

      x : Point → ℤ
      x q = along (neg_ℤ b) a m -ℤ along (neg_ℤ b) a q

      rises : (q : Point) → Before m q → (q ≡ m → ⊥) → Rises t x q
      rises q (inl j) ne = inl (lin 0 2 (λ x y. x ≺ y ⟹ # 0 ≺ y ⊖ x) (omega arith) _ _ j)
      rises q (inr j) ne =
          inr (
            lin 0 2 (λ x y. x ≐ y ⟹ y ⊖ x ≐ # 0) (omega arith) _ _ j.0,
            lin 0 2 (λ x y. x ≺ y ⟹ # 0 ≺ y ⊖ x) (omega arith) _ _ (not-≤ (λ z. ne (same_both m q l j.0 (≤-antisym j.1 z)))),
          )

      split : (others : List Point) → (k : ℤ) × (pos 0 ≤ℤ k) × All (λ v. pos 0 <ℤ (k *ℤ t v +ℤ x v)) others → Separated (map (from 1 m) others)
      split others r =
          record {
            a = r.0 *ℤ a -ℤ b;
            b = r.0 *ℤ b +ℤ a;
            behind = all_map (from 1 m) (all_imp (λ q j. cert 2 3 (λ m q a b k.
                # 0 ≺ k ⊗ (alongᴱ a b m ⊖ alongᴱ a b q) ⊕ (alongᴱ (⊝ b) a m ⊖ alongᴱ (⊝ b) a q) ⟹ alongᴱ (k ⊗ a ⊖ b) (k ⊗ b ⊕ a) (fromᴱ m q) ≺ # 0 ∵ hyp 0) tt (pt m) (pt q) a b r.0 j) r.2);
          }

-- in any direction, every point is behind some vertex
pub behind_vertex : {qs vs : List Point} → Polygon qs vs → (a b : ℤ) → ((a ≡ pos 0) × (b ≡ pos 0) → ⊥) → (q : Point) → q ∈ qs → (m : Point) × (m ∈ vs) × (along a b q ≤ℤ along a b m)
behind_vertex {qs = r ∷ qs} {vs} P a b ne q k = go (topmost a b r qs)
  where
    at_most : (m : Point) → Before a b m q → along a b q ≤ℤ along a b m
    at_most m (inl h) = <→≤ h
    at_most m (inr h) = ≡→≤ h.0

    go : (m : Point) × (m ∈ (r ∷ qs)) × All (Before a b m) (r ∷ qs) → (m : Point) × (m ∈ vs) × (along a b q ≤ℤ along a b m)
    go t = (t.0, P.every_extreme t.0 (top_extreme a b t.0 (length_pos a b ne) t.1 t.2), at_most t.0 (all_at t.2 k))
behind_vertex {qs = []} {vs = vs} P a b ne q k = elim k [ ]

-- ---- one vertex, and two

-- behind the only vertex
behind_one : {qs : List Point} {v : Point} → Polygon qs (v ∷ []) → (a b : ℤ) → ((a ≡ pos 0) × (b ≡ pos 0) → ⊥) → (q : Point) → q ∈ qs → along a b q ≤ℤ along a b v
behind_one {v = v} P a b ne q k = go (behind_vertex P a b ne q k)
  where
    go : (m : Point) × (m ∈ (v ∷ [])) × (along a b q ≤ℤ along a b m) → along a b q ≤ℤ along a b v
    go (m, here e, h) = subst (λ (r : Point). along a b q ≤ℤ along a b r) e h
    go (m, there x5, h) = elim x5 [ ]

one_vertex : {qs : List Point} {v : Point} → Polygon qs (v ∷ []) → All (λ q. q ≡ v) qs
one_vertex {qs} {v} P = all_of qs (λ q k. point_ext (east q k) (north q k))
  where
    not_zero : (n : ℤ) → (pos 0 <ℤ (n *ℤ n)) → n ≡ pos 0 → ⊥
    not_zero n h e = cert 0 1 (λ n. # 0 ≺ n ⊗ n ⟹ n ≐ # 0 ⟹ bot ∵ hyp 0 ⊞ eqn 1 n) tt n h e

    one : pos 0 <ℤ (pos 1 *ℤ pos 1)
    one = record { lt = tt }

    east : (q : Point) → q ∈ qs → q.east ≡ v.east
    east q k =
        ≤-antisym
        (lin 2 0 (λ q v. # 1 ⊗ q.0 ⊕ # 0 ⊗ q.1 ≼ # 1 ⊗ v.0 ⊕ # 0 ⊗ v.1 ⟹ q.0 ≼ v.0) (omega arith) (pt q) (pt v) (behind_one P (pos 1) (pos 0) (λ z. not_zero (pos 1) one z.0) q k))
        (lin 2 0 (λ q v. ⊝ # 1 ⊗ q.0 ⊕ # 0 ⊗ q.1 ≼ ⊝ # 1 ⊗ v.0 ⊕ # 0 ⊗ v.1 ⟹ v.0 ≼ q.0) (omega arith) (pt q) (pt v) (behind_one P (negsuc 0) (pos 0) (λ z. not_zero (negsuc 0) one z.0) q k))

    north : (q : Point) → q ∈ qs → q.north ≡ v.north
    north q k =
        ≤-antisym
        (lin 2 0 (λ q v. # 0 ⊗ q.0 ⊕ # 1 ⊗ q.1 ≼ # 0 ⊗ v.0 ⊕ # 1 ⊗ v.1 ⟹ q.1 ≼ v.1) (omega arith) (pt q) (pt v) (behind_one P (pos 0) (pos 1) (λ z. not_zero (pos 1) one z.1) q k))
        (lin 2 0 (λ q v. # 0 ⊗ q.0 ⊕ ⊝ # 1 ⊗ q.1 ≼ # 0 ⊗ v.0 ⊕ ⊝ # 1 ⊗ v.1 ⟹ v.1 ≼ q.1) (omega arith) (pt q) (pt v) (behind_one P (pos 0) (negsuc 0) (λ z. not_zero (negsuc 0) one z.1) q k))

-- behind one of two vertices, and so behind both ends where they are as far
behind_two : {qs : List Point} {v w : Point} → Polygon qs (v ∷ w ∷ []) → (a b : ℤ) → ((a ≡ pos 0) × (b ≡ pos 0) → ⊥) → along a b v ≤ℤ along a b w → (q : Point) → q ∈ qs → along a b q ≤ℤ along a b w
behind_two {v = v} {w = w} P a b ne l q k = go (behind_vertex P a b ne q k)
  where
    go : (m : Point) × (m ∈ (v ∷ w ∷ [])) × (along a b q ≤ℤ along a b m) → along a b q ≤ℤ along a b w
    go (m, here e, h) = ≤_trans (subst (λ (r : Point). along a b q ≤ℤ along a b r) e h) l
    go (m, there (here e), h) = subst (λ (r : Point). along a b q ≤ℤ along a b r) e h
    go (m, there (there x8), h) = elim x8 [ ]

behind_swapped : {qs : List Point} {v w : Point} → Polygon qs (v ∷ w ∷ []) → (a b : ℤ) → ((a ≡ pos 0) × (b ≡ pos 0) → ⊥) → along a b w ≤ℤ along a b v → (q : Point) → q ∈ qs → along a b q ≤ℤ along a b v
behind_swapped {v = v} {w = w} P a b ne l q k = go (behind_vertex P a b ne q k)
  where
    go : (m : Point) × (m ∈ (v ∷ w ∷ [])) × (along a b q ≤ℤ along a b m) → along a b q ≤ℤ along a b v
    go (m, here e, h) = subst (λ (r : Point). along a b q ≤ℤ along a b r) e h
    go (m, there (here e), h) = ≤_trans (subst (λ (r : Point). along a b q ≤ℤ along a b r) e h) l
    go (m, there (there x8), h) = elim x8 [ ]

two_vertices : {qs : List Point} {v w : Point} → Polygon qs (v ∷ w ∷ []) → (v ≡ w → ⊥) → All (Between v w) qs
two_vertices {qs} {v} {w} P ne = all_of qs (λ q k. record { in_line = ≤-antisym (right q k) (left q k); past_v = past q k; before_w = before q k })
  where
    ne' : w ≡ v → ⊥
    ne' e = ne (sym e)

    right : (q : Point) → q ∈ qs → signed_area v w q ≤ℤ pos 0
    right q k = cert 3 0 (λ v w q. alongᴱ (⊝ (w.1 ⊖ v.1)) (w.0 ⊖ v.0) q ≼ alongᴱ (⊝ (w.1 ⊖ v.1)) (w.0 ⊖ v.0) w ⟹ signed_areaᴱ v w q ≼ # 0 ∵ hyp 0) tt (pt v) (pt w) (pt q)
        (behind_two P (outward_east v w) (outward_north v w) (side_nonzero v w ne)
        (cert 2 0 (λ v w. alongᴱ (⊝ (w.1 ⊖ v.1)) (w.0 ⊖ v.0) v ≼ alongᴱ (⊝ (w.1 ⊖ v.1)) (w.0 ⊖ v.0) w ∵ num 0) tt (pt v) (pt w)) q k)

    left : (q : Point) → q ∈ qs → pos 0 ≤ℤ signed_area v w q
    left q k = cert 3 0 (λ v w q. alongᴱ (⊝ (v.1 ⊖ w.1)) (v.0 ⊖ w.0) q ≼ alongᴱ (⊝ (v.1 ⊖ w.1)) (v.0 ⊖ w.0) w ⟹ # 0 ≼ signed_areaᴱ v w q ∵ hyp 0) tt (pt v) (pt w) (pt q)
        (behind_two P (outward_east w v) (outward_north w v) (side_nonzero w v ne')
        (cert 2 0 (λ v w. alongᴱ (⊝ (v.1 ⊖ w.1)) (v.0 ⊖ w.0) v ≼ alongᴱ (⊝ (v.1 ⊖ w.1)) (v.0 ⊖ w.0) w ∵ num 0) tt (pt v) (pt w)) q k)

    -- along w − v, and back
    apart_zero : {v w : Point} → (v ≡ w → ⊥) → (w.east -ℤ v.east ≡ pos 0) × (w.north -ℤ v.north ≡ pos 0) → ⊥
    apart_zero n z = n (point_ext (lin 0 2 (λ a b. b ⊖ a ≐ # 0 ⟹ a ≐ b) (omega arith) _ _ z.0) (lin 0 2 (λ a b. b ⊖ a ≐ # 0 ⟹ a ≐ b) (omega arith) _ _ z.1))

    before : (q : Point) → q ∈ qs → pos 0 ≤ℤ dot_product w v q
    before q k = cert 3 0 (λ v w q. alongᴱ (w.0 ⊖ v.0) (w.1 ⊖ v.1) q ≼ alongᴱ (w.0 ⊖ v.0) (w.1 ⊖ v.1) w ⟹ # 0 ≼ dot_productᴱ w v q ∵ hyp 0) tt (pt v) (pt w) (pt q)
        (behind_two P (w.east -ℤ v.east) (w.north -ℤ v.north) (apart_zero ne)
        (cert 2 0 (λ v w. alongᴱ (w.0 ⊖ v.0) (w.1 ⊖ v.1) v ≼ alongᴱ (w.0 ⊖ v.0) (w.1 ⊖ v.1) w ∵ sq (w.0 ⊖ v.0) ⊞ sq (w.1 ⊖ v.1)) tt (pt v) (pt w)) q k)

    past : (q : Point) → q ∈ qs → pos 0 ≤ℤ dot_product v w q
    past q k = cert 3 0 (λ v w q. alongᴱ (v.0 ⊖ w.0) (v.1 ⊖ w.1) q ≼ alongᴱ (v.0 ⊖ w.0) (v.1 ⊖ w.1) v ⟹ # 0 ≼ dot_productᴱ v w q ∵ hyp 0) tt (pt v) (pt w) (pt q)
        (behind_swapped P (v.east -ℤ w.east) (v.north -ℤ w.north) (apart_zero ne')
        (cert 2 0 (λ v w. alongᴱ (v.0 ⊖ w.0) (v.1 ⊖ w.1) w ≼ alongᴱ (v.0 ⊖ w.0) (v.1 ⊖ w.1) v ∵ sq (w.0 ⊖ v.0) ⊞ sq (w.1 ⊖ v.1)) tt (pt v) (pt w)) q k)

-- ---- three vertices or more: no three are in line, so that each turn is strict

-- an extreme point is not between two others
not_between : {qs : List Point} {p v w : Point} → Extreme qs p → v ∈ qs → w ∈ qs → (v ≡ w → ⊥) → (v ≡ p → ⊥) → (w ≡ p → ⊥) → Between v w p → ⊥
not_between {p = p} {v = v} {w = w} x mv mw ne nv nw k = x.apart (v ∷ w ∷ []) ((mv, nv) & (mw, nw) & none) (between_balanced ne k)

pub not_in_line : {qs : List Point} (a b c : Point) → Extreme qs a → Extreme qs b → Extreme qs c → (a ≡ b → ⊥) → (b ≡ c → ⊥) → (a ≡ c → ⊥) → signed_area a b c ≡ pos 0 → ⊥
not_in_line a b c xa xb xc nab nbc nac e =
    go (lt_or_ge (dot_product a b c) (pos 0))
    (lt_or_ge (dot_product b a c) (pos 0))
  where
    go : (dot_product a b c <ℤ pos 0)
        ⊎ (pos 0 ≤ℤ dot_product a b c)
        → (dot_product b a c <ℤ pos 0)
        ⊎ (pos 0 ≤ℤ dot_product b a c) → ⊥
    -- a is between b and c
    go (inl h) k = not_between xa xb.listed xc.listed nbc (λ z. nab (sym z)) (λ z. nac (sym z)) (record {
      in_line = cert 3 0 (λ a b c. signed_areaᴱ a b c ≐ # 0 ⟹ signed_areaᴱ b c a ≐ # 0 ∵ eqn 0 (# 1)) tt (pt a) (pt b) (pt c) e;
      past_v = cert 3 0 (λ a b c. dot_productᴱ a b c ≺ # 0 ⟹ # 0 ≼ dot_productᴱ b c a ∵ hyp 0 ⊞ sq (b.0 ⊖ a.0) ⊞ sq (b.1 ⊖ a.1)) tt (pt a) (pt b) (pt c) h;
      before_w = cert 3 0 (λ a b c. dot_productᴱ a b c ≺ # 0 ⟹ # 0 ≼ dot_productᴱ c b a ∵ hyp 0 ⊞ sq (c.0 ⊖ a.0) ⊞ sq (c.1 ⊖ a.1)) tt (pt a) (pt b) (pt c) h;
    })
    -- b is between a and c
    go (inr h) (inl k) = not_between xb xa.listed xc.listed nac nab (λ z. nbc (sym z)) (record {
      in_line = cert 3 0 (λ a b c. signed_areaᴱ a b c ≐ # 0 ⟹ signed_areaᴱ a c b ≐ # 0 ∵ eqn 0 (⊝ # 1)) tt (pt a) (pt b) (pt c) e;
      past_v = cert 3 0 (λ a b c. # 0 ≼ dot_productᴱ a b c ⟹ # 0 ≼ dot_productᴱ a c b ∵ hyp 0) tt (pt a) (pt b) (pt c) h;
      before_w = cert 3 0 (λ a b c. dot_productᴱ b a c ≺ # 0 ⟹ # 0 ≼ dot_productᴱ c a b ∵ hyp 0 ⊞ sq (c.0 ⊖ b.0) ⊞ sq (c.1 ⊖ b.1)) tt (pt a) (pt b) (pt c) k;
    })
    -- c is between a and b
    go (inr h) (inr k) = not_between xc xa.listed xb.listed nab nac nbc (record { in_line = e; past_v = h; before_w = k })

strict_turn : {qs : List Point} (a b c : Point) → Extreme qs a → Extreme qs b → Extreme qs c → (a ≡ b → ⊥) → (b ≡ c → ⊥) → (a ≡ c → ⊥) → AllRight qs a b → signed_area a b c <ℤ pos 0
strict_turn a b c xa xb xc nab nbc nac h = not-≤ (λ z. not_in_line a b c xa xb xc nab nbc nac (≤-antisym (all_at h xc.listed) z))

-- the turns at b, and on to f and g
all_turns : {qs : List Point} (f g a b : Point) (vs : List Point) → Extreme qs f → Extreme qs g → (f ≡ g → ⊥) → AllRight qs f g → All (Extreme qs) (a ∷ b ∷ vs)
    → Distinct (a ∷ b ∷ vs) → All (λ v. v ≡ f → ⊥) (a ∷ b ∷ vs) → All (λ v. v ≡ g → ⊥) (b ∷ vs) → Steps (AllRight qs) f (a ∷ b ∷ vs) → Turns f g (a ∷ b ∷ vs)
all_turns f g a b [] xf xg fg h (xa & xb & none) d (af & bf & none) (bg & none) s = (
  strict_turn a b f xa xb xf (λ e. d.0 (here e)) bf af s.0,
  strict_turn b f g xb xf xg bf fg bg s.1,
)
all_turns f g a b (c ∷ vs) xf xg fg h (xa & xb & xc & xs) d (af & nf) (bg & ng) s = (
  strict_turn a b c xa xb xc (λ e. d.0 (here e)) (λ e. d.1.0 (here e)) (λ e. d.0 (there (here e))) s.0,
  all_turns f g b c vs xf xg fg h (xb & xc & xs) d.1 nf ng s.1,
)

-- ---- the outline

pub polygon_outline : {qs vs : List Point} (q : Point) → q ∈ qs → Polygon qs vs → Outline qs vs
polygon_outline {vs = []} q k P = absurd (empty (behind_vertex P (pos 1) (pos 0) (λ z. lin 0 0 (# 1 ≐ # 0 ⟹ bot) (omega arith) z.0) q k))
  where
    empty : (m : Point) × (m ∈ []) × (along (pos 1) (pos 0) q ≤ℤ along (pos 1) (pos 0) m) → ⊥
    empty t = elim t.1 [ ]
polygon_outline {vs = v ∷ []} q k P = one_point (first P.only_extreme).listed (one_vertex P)
polygon_outline {vs = v ∷ w ∷ []} q k P =
    let ne : v ≡ w → ⊥ = λ e. P.once_each.0 (here e) in
    in_line ne (first P.only_extreme).listed (first (rest P.only_extreme)).listed (two_vertices P ne)
polygon_outline {qs} {vs = f ∷ a ∷ b ∷ vs} q k P =
    area (all_imp (λ v x. x.listed) P.only_extreme) P.once_each sides (turns P.only_extreme)
  where
    sides : Clockwise qs (f ∷ a ∷ b ∷ vs)
    sides = P.clockwise (omega arith)

    d : Distinct (f ∷ a ∷ b ∷ vs)
    d = P.once_each

    turns : All (Extreme qs) (f ∷ a ∷ b ∷ vs) → TurnsRight (f ∷ a ∷ b ∷ vs)
    turns (xf & xa & xb & xs) = (
      strict_turn f a b xf xa xb (λ e. d.0 (here e)) (λ e. d.1.0 (here e)) (λ e. d.0 (there (here e))) sides.0,
      all_turns f a a b vs xf xa (λ e. d.0 (here e)) sides.0 (xa & xb & xs) d.1
          (all_of (a ∷ b ∷ vs) (λ v m e. d.0 (subst (λ x. x ∈ (a ∷ b ∷ vs)) e m)))
          (all_of (b ∷ vs) (λ v m e. d.1.0 (subst (λ x. x ∈ (b ∷ vs)) e m)))
          sides.1,
    )
