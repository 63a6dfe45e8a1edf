-- What makes a listing the polygon of some points. With three or more vertices: they are of the points, distinct, turn strictly right at each, and have every
-- point right of each side or on it. Then a vertex is extreme, since the direction across its two neighbours has every other point strictly behind it; and a point that is no
-- vertex is in the hull of the vertices by the fan. The cases of one vertex and two are below. Assumes nothing.
use mathlib.Core.Path.{◌≡◌, refl, sym, ap, subst}
use mathlib.Core.Logic.{◌⊎◌, inl, inr, ⊎_elim}
use mathlib.Core.List.{List, [], ◌∷◌, map}
use native.Mathlib.Omega.{arith}
use lib.IntN.{ℤ, pos, ◌-ℤ◌, ℤ_discrete}
use lib.Signed.{◌≤ℤ◌, ◌<ℤ◌}
use Rattle.integers.proofs.Expr.{◌⊕◌, ◌⊖◌, ◌⊗◌, ⊝◌, #◌, ◌≼◌, ◌≺◌, ◌≐◌, ◌⟹◌}
use Rattle.integers.proofs.Lin.{lin}
use Rattle.integers.proofs.Cert.{cert, hyp, eqn, ◌⊞◌, ◌∵◌, ◌∵◌÷◌}
use Rattle.integers.proofs.Order.{≤-antisym, not-≤}
use Rattle.plane.specs.Points.{signed_area, outward_east, outward_north, dot_product}
use Rattle.plane.specs.declared.Point.{Point}
use Rattle.plane.specs.Members.{All, none, ◌&◌, ◌∈◌, here, there}
use Rattle.plane.specs.Vectors.{from, along, Balanced}
use Rattle.plane.specs.Polygons.{AllRight, Other, Extreme, Distinct, Steps, Clockwise, Polygon}
use Rattle.plane.proofs.Twins.{signed_areaᴱ, pt, fromᴱ, alongᴱ}
use Rattle.plane.proofs.Lists.{first, rest, all_at, all_of, all_imp, all_map, all_or}
use Rattle.plane.proofs.Combos.{separated_not_balanced, balanced₂}
use Rattle.plane.proofs.Sides.{point_ext, dot_productᴱ}
use Rattle.plane.proofs.Winding.{length_pos}
use Rattle.plane.proofs.Fan.{fan_balanced}

-- ---- points are the same or not; a point is of a list or differs from all of it

pub same_point : (p q : Point) → Dec (p ≡ q)
same_point p q = go (ℤ_discrete p.east q.east) (ℤ_discrete p.north q.north)
  where
    go : Dec (p.east ≡ q.east) → Dec (p.north ≡ q.north) → Dec (p ≡ q)
    go (yes e) (yes f) = yes (point_ext e f)
    go (yes e) (no f) = no (λ z. f (ap (λ (r : Point). r.north) z))
    go (no e) f = no (λ z. e (ap (λ (r : Point). r.east) z))

pub listed_or_not : (p : Point) (vs : List Point) → (p ∈ vs) ⊎ All (λ v. v ≡ p → ⊥) vs
listed_or_not p vs =
    ⊎_elim inr (λ r. inl (subst (λ q. q ∈ vs) r.2 r.1)) (all_or {P = λ v. v ≡ p → ⊥} vs (λ v m. elim (same_point v p) [ yes e ↦ inr e | no n ↦ inl n ]))

-- ---- a vertex is extreme

-- a point on the lines of both sides at v is v
on_both : (u v w q : Point) → signed_area u v w <ℤ pos 0 → signed_area u v q ≡ pos 0 → signed_area v w q ≡ pos 0 → q ≡ v
on_both u v w q t h k =
    point_ext
    (cert 4 0 (λ u v w q. signed_areaᴱ u v w ≺ # 0 ⟹ signed_areaᴱ u v q ≐ # 0 ⟹ signed_areaᴱ v w q ≐ # 0 ⟹ q.0 ≐ v.0
    ∵ eqn 1 (⊝ (w.0 ⊖ v.0)) ⊞ eqn 2 (v.0 ⊖ u.0) ÷ hyp 0) tt (pt u) (pt v) (pt w) (pt q) t h k)
    (cert 4 0 (λ u v w q. signed_areaᴱ u v w ≺ # 0 ⟹ signed_areaᴱ u v q ≐ # 0 ⟹ signed_areaᴱ v w q ≐ # 0 ⟹ q.1 ≐ v.1
    ∵ eqn 1 (⊝ (w.1 ⊖ v.1)) ⊞ eqn 2 (v.1 ⊖ u.1) ÷ hyp 0) tt (pt u) (pt v) (pt w) (pt q) t h k)

-- the outward direction of u → w at v
pub behind_at : (u v w q : Point) → signed_area u v w <ℤ pos 0 → signed_area u v q ≤ℤ pos 0 → signed_area v w q ≤ℤ pos 0 → (q ≡ v → ⊥)
    → along (outward_east u w) (outward_north u w) (from 1 v q) <ℤ pos 0
behind_at u v w q t h k ne = not-≤ (λ z. ne (on_both u v w q t (≤-antisym h (from_h z)) (≤-antisym k (from_k z))))
  where
    from_h : pos 0 ≤ℤ along (outward_east u w) (outward_north u w) (from 1 v q) → pos 0 ≤ℤ signed_area u v q
    from_h z = cert 4 0 (λ u v w q. signed_areaᴱ v w q ≼ # 0 ⟹ # 0 ≼ alongᴱ (⊝ (w.1 ⊖ u.1)) (w.0 ⊖ u.0) (fromᴱ v q) ⟹ # 0 ≼ signed_areaᴱ u v q ∵ hyp 0 ⊞ hyp 1) tt (pt u) (pt v) (pt w) (pt q) k z

    from_k : pos 0 ≤ℤ along (outward_east u w) (outward_north u w) (from 1 v q) → pos 0 ≤ℤ signed_area v w q
    from_k z = cert 4 0 (λ u v w q. signed_areaᴱ u v q ≼ # 0 ⟹ # 0 ≼ alongᴱ (⊝ (w.1 ⊖ u.1)) (w.0 ⊖ u.0) (fromᴱ v q) ⟹ # 0 ≼ signed_areaᴱ v w q ∵ hyp 0 ⊞ hyp 1) tt (pt u) (pt v) (pt w) (pt q) h z

-- a direction that has every other point strictly behind it, as seen from v, shows that v is extreme
pub extreme_by : {qs : List Point} (v : Point) (a b : ℤ) → v ∈ qs → ((q : Point) → q ∈ qs → (q ≡ v → ⊥) → along a b (from 1 v q) <ℤ pos 0) → Extreme qs v
extreme_by v a b m f =
    record {
      listed = m;
      apart = λ others o. separated_not_balanced (record { a = a; b = b; behind = all_map (from 1 v) (all_imp (λ q h. f q h.0 h.1) o) });
    }

extreme_at : {qs : List Point} (u v w : Point) → signed_area u v w <ℤ pos 0 → AllRight qs u v → AllRight qs v w → v ∈ qs → Extreme qs v
extreme_at u v w t h k m = extreme_by v (outward_east u w) (outward_north u w) m (λ q mq ne. behind_at u v w q t (all_at h mq) (all_at k mq) ne)

-- ---- the turns

-- each vertex but the first, with the one before it and the one after it, and at last the first one, f with g after it: they turn strictly right
abbrev pub Turns : Point → Point → List Point → Type 0
Turns f g [] = Unit {0}
Turns f g (a ∷ []) = signed_area a f g <ℤ pos 0
Turns f g (a ∷ b ∷ []) = (signed_area a b f <ℤ pos 0) × Turns f g (b ∷ [])
Turns f g (a ∷ b ∷ c ∷ rest) = (signed_area a b c <ℤ pos 0) × Turns f g (b ∷ c ∷ rest)

-- around a listing
abbrev pub TurnsRight : List Point → Type 0
TurnsRight [] = Unit {0}
TurnsRight (a ∷ []) = Unit {0}
TurnsRight (a ∷ b ∷ rest) = Turns a b (a ∷ b ∷ rest)

-- the vertices after a, and then f
extremes : {qs : List Point} (f g a : Point) (vs : List Point) → Turns f g (a ∷ vs) → Steps (AllRight qs) f (a ∷ vs) → AllRight qs f g → f ∈ qs → All (λ v. v ∈ qs) vs
    → All (Extreme qs) vs × Extreme qs f
extremes f g a [] t s h mf m = (none, extreme_at a f g t s h mf)
extremes f g a (b ∷ []) t s h mf (mb & none) =
    let r = extremes f g b [] t.1 s.1 h mf none in (extreme_at a b f t.0 s.0 s.1 mb & none, r.1)
extremes f g a (b ∷ c ∷ vs) t s h mf (mb & m) =
    let r = extremes f g b (c ∷ vs) t.1 s.1 h mf m in (extreme_at a b c t.0 s.0 s.1.0 mb & r.0, r.1)

-- ---- three vertices or more

steps_imp : (R S : Point → Point → Type 0) (f : Point) (vs : List Point) → ((a b : Point) → R a b → S a b) → Steps R f vs → Steps S f vs
steps_imp R S f [] k s = tt
steps_imp R S f (a ∷ []) k s = k a f s
steps_imp R S f (a ∷ b ∷ vs) k s = (k a b s.0, steps_imp R S f (b ∷ vs) k s.1)

pub polygon : {qs : List Point} (f a b : Point) (vs : List Point) → All (λ v. v ∈ qs) (f ∷ a ∷ b ∷ vs) → Distinct (f ∷ a ∷ b ∷ vs)
    → Clockwise qs (f ∷ a ∷ b ∷ vs) → TurnsRight (f ∷ a ∷ b ∷ vs) → Polygon qs (f ∷ a ∷ b ∷ vs)
polygon {qs} f a b vs m d s t =
    record {
      only_extreme = let r = extremes f a f (a ∷ b ∷ vs) t s s.0 (first m) (rest m) in r.1 & r.0;
      every_extreme = λ p e. ⊎_elim (λ k. k) (λ k. absurd (e.apart (f ∷ a ∷ b ∷ vs) (others p k) (inside p e.listed))) (listed_or_not p (f ∷ a ∷ b ∷ vs));
      once_each = d;
      clockwise = λ _. s;
    }
  where
    others : (p : Point) → All (λ v. v ≡ p → ⊥) (f ∷ a ∷ b ∷ vs) → All (Other qs p) (f ∷ a ∷ b ∷ vs)
    others p k = all_of (f ∷ a ∷ b ∷ vs) (λ v mv. (all_at m mv, all_at k mv))

    inside : (p : Point) → p ∈ qs → Balanced (map (from 1 p) (f ∷ a ∷ b ∷ vs))
    inside p mp = fan_balanced p f a b vs t.0 (steps_imp (AllRight qs) (λ v w. signed_area v w p ≤ℤ pos 0) f (f ∷ a ∷ b ∷ vs) (λ v w h. all_at h mp) s)

-- ---- one vertex: all points are equal

pub polygon₁ : {qs : List Point} (v : Point) → v ∈ qs → All (λ q. q ≡ v) qs → Polygon qs (v ∷ [])
polygon₁ v m h =
    record {
      only_extreme = extreme_by v (pos 0) (pos 0) m (λ q mq ne. absurd (ne (all_at h mq))) & none;
      every_extreme = λ p e. here (all_at h e.listed);
      once_each = (λ k. elim k [ ], tt);
      clockwise = λ n. absurd (omega arith);
    }

-- ---- two vertices: all points are in line, from v to w

-- q is in line with v and w, and neither before v nor past w
pub record Between (v w q : Point) : Type 0 where
  pub in_line : signed_area v w q ≡ pos 0
  pub past_v : pos 0 ≤ℤ dot_product v w q
  pub before_w : pos 0 ≤ℤ dot_product w v q

pub between_swap : {v w q : Point} → Between v w q → Between w v q
between_swap {v} {w} {q} h =
    record {
      in_line = cert 3 0 (λ v w q. signed_areaᴱ v w q ≐ # 0 ⟹ signed_areaᴱ w v q ≐ # 0 ∵ eqn 0 (⊝ # 1)) tt (pt v) (pt w) (pt q) h.in_line;
      past_v = h.before_w;
      before_w = h.past_v;
    }

pub apart_length : (v w : Point) → (v ≡ w → ⊥) → pos 0 <ℤ dot_product v w w
apart_length v w ne =
    length_pos (w.east -ℤ v.east) (w.north -ℤ v.north)
    (λ z. ne (point_ext (lin 0 2 (λ a b. b ⊖ a ≐ # 0 ⟹ a ≐ b) (omega arith) _ _ z.0) (lin 0 2 (λ a b. b ⊖ a ≐ # 0 ⟹ a ≐ b) (omega arith) _ _ z.1)))

end_extreme : {qs : List Point} (v w : Point) → (v ≡ w → ⊥) → v ∈ qs → All (Between v w) qs → Extreme qs v
end_extreme v w ne m h = extreme_by v (v.east -ℤ w.east) (v.north -ℤ w.north) m (λ q mq nq. not-≤ (λ z. nq (is_v q (all_at h mq) z)))
  where
    is_v : (q : Point) → Between v w q → pos 0 ≤ℤ along (v.east -ℤ w.east) (v.north -ℤ w.north) (from 1 v q) → q ≡ v
    is_v q k z =
        let l = apart_length v w ne in
        let e : dot_product v w q ≡ pos 0
        = ≤-antisym (cert 3 0 (λ v w q. # 0 ≼ alongᴱ (v.0 ⊖ w.0) (v.1 ⊖ w.1) (fromᴱ v q) ⟹ dot_productᴱ v w q ≼ # 0 ∵ hyp 0) tt (pt v) (pt w) (pt q) z) k.past_v in
        point_ext
        (cert 3 0 (λ v w q. # 0 ≺ dot_productᴱ v w w ⟹ signed_areaᴱ v w q ≐ # 0 ⟹ dot_productᴱ v w q ≐ # 0 ⟹ q.0 ≐ v.0
        ∵ eqn 1 (⊝ (w.1 ⊖ v.1)) ⊞ eqn 2 (w.0 ⊖ v.0) ÷ hyp 0) tt (pt v) (pt w) (pt q) l k.in_line e)
        (cert 3 0 (λ v w q. # 0 ≺ dot_productᴱ v w w ⟹ signed_areaᴱ v w q ≐ # 0 ⟹ dot_productᴱ v w q ≐ # 0 ⟹ q.1 ≐ v.1
        ∵ eqn 1 (w.0 ⊖ v.0) ⊞ eqn 2 (w.1 ⊖ v.1) ÷ hyp 0) tt (pt v) (pt w) (pt q) l k.in_line e)

-- a point between two others is in their hull
pub between_balanced : {v w p : Point} → (v ≡ w → ⊥) → Between v w p → Balanced (map (from 1 p) (v ∷ w ∷ []))
between_balanced {v} {w} {p} ne k =
    balanced₂ {u = from 1 p v} {v = from 1 p w}
    (dot_product w v p)
    (dot_product v w p)
    k.before_w k.past_v
    (cert 3 0 (λ v w p. # 0 ≺ dot_productᴱ v w w ⟹ # 0 ≺ dot_productᴱ w v p ⊕ dot_productᴱ v w p ∵ hyp 0) tt (pt v) (pt w) (pt p) (apart_length v w ne))
    (here refl) (there (here refl))
    (cert 3 0 (λ v w p. signed_areaᴱ v w p ≐ # 0 ⟹ dot_productᴱ w v p ⊗ (fromᴱ p v).0 ⊕ dot_productᴱ v w p ⊗ (fromᴱ p w).0 ≐ # 0 ∵ eqn 0 (w.1 ⊖ v.1)) tt (pt v) (pt w) (pt p) k.in_line)
    (cert 3 0 (λ v w p. signed_areaᴱ v w p ≐ # 0 ⟹ dot_productᴱ w v p ⊗ (fromᴱ p v).1 ⊕ dot_productᴱ v w p ⊗ (fromᴱ p w).1 ≐ # 0 ∵ eqn 0 (⊝ (w.0 ⊖ v.0))) tt (pt v) (pt w) (pt p) k.in_line)

pub polygon₂ : {qs : List Point} (v w : Point) → (v ≡ w → ⊥) → v ∈ qs → w ∈ qs → All (Between v w) qs → Polygon qs (v ∷ w ∷ [])
polygon₂ {qs} v w ne mv mw h =
    record {
      only_extreme = end_extreme v w ne mv h & end_extreme w v (λ e. ne (sym e)) mw (all_imp (λ q k. between_swap k) h) & none;
      every_extreme = λ p e. ⊎_elim (λ k. k) (λ k. absurd (e.apart (v ∷ w ∷ []) ((mv, all_at k (here refl)) & (mw, all_at k (there (here refl))) & none) (between_balanced ne (all_at h e.listed)))) (listed_or_not p (v ∷ w ∷ []));
      once_each = (λ k. elim k [ here e ↦ ne e | there m ↦ elim m [ ] ], (λ k. elim k [ ], tt));
      clockwise = λ n. absurd (omega arith);
    }
