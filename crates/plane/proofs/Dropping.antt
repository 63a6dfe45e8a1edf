-- Points that may be dropped: a point that has some kept point strictly in each of the four open quadrants round it is no vertex, and lies right of every side.
-- For in every direction that is not zero some kept point is strictly farther: the one in the quadrant that the direction's signs name. Assumes nothing.
use mathlib.Core.Path.{◌≡◌, ap, sym}
use mathlib.Core.Logic.{◌⊎◌, inl, inr, ⊎_elim}
use mathlib.Core.List.{List, [], ◌∷◌}
use native.Mathlib.Omega.{arith}
use lib.IntN.{ℤ, pos}
use lib.Signed.{◌≤ℤ◌, ◌<ℤ◌}
use Rattle.integers.proofs.Expr.{◌⊖◌, ⊝◌, #◌, ◌≼◌, ◌≺◌, ◌≐◌, ◌⟹◌, bot}
use Rattle.integers.proofs.Lin.{lin}
use Rattle.integers.proofs.Cert.{cert, hyp, eqn, ◌⊞◌, ◌⊠◌, ◌∵◌}
use Rattle.integers.proofs.Order.{lt_or_ge, ≤-antisym}
use Rattle.plane.specs.Points.{signed_area, outward_east, outward_north}
use Rattle.plane.specs.declared.Point.{Point}
use Rattle.plane.specs.Members.{All, ◌∈◌}
use Rattle.plane.specs.Vectors.{along}
use Rattle.plane.specs.Polygons.{AllRight, Steps, Polygon}
use Rattle.plane.proofs.Lists.{all_at, all_of, all_imp}
use Rattle.plane.proofs.Twins.{pt, alongᴱ, signed_areaᴱ}
use Rattle.plane.proofs.Sides.{side_nonzero}
use Rattle.plane.proofs.PolygonFacts.{same_point, Between}
use Rattle.plane.proofs.Outline.{Outline, one_point, in_line, area, outline_polygon}
use Rattle.plane.proofs.Reading.{polygon_outline}

-- some kept point is strictly in each quadrant round q
pub record Inner (kept : List Point) (q : Point) : Type 0 where
  pub north_east : (p : Point) × (p ∈ kept) × (q.east <ℤ p.east) × (q.north <ℤ p.north)
  pub north_west : (p : Point) × (p ∈ kept) × (p.east <ℤ q.east) × (q.north <ℤ p.north)
  pub south_west : (p : Point) × (p ∈ kept) × (p.east <ℤ q.east) × (p.north <ℤ q.north)
  pub south_east : (p : Point) × (p ∈ kept) × (q.east <ℤ p.east) × (p.north <ℤ q.north)

-- in every direction some kept point is strictly farther
farther : {kept : List Point} {q : Point} → Inner kept q → (a b : ℤ) → ((a ≡ pos 0) × (b ≡ pos 0) → ⊥) → (p : Point) × (p ∈ kept) × (along a b q <ℤ along a b p)
farther {kept} {q} h a b ne = go (lt_or_ge a (pos 0)) (lt_or_ge b (pos 0)) (lt_or_ge (pos 0) a) (lt_or_ge (pos 0) b)
  where
    go : (a <ℤ pos 0) ⊎ (pos 0 ≤ℤ a) → (b <ℤ pos 0) ⊎ (pos 0 ≤ℤ b) → (pos 0 <ℤ a) ⊎ (a ≤ℤ pos 0) → (pos 0 <ℤ b) ⊎ (b ≤ℤ pos 0) → (p : Point) × (p ∈ kept) × (along a b q <ℤ along a b p)
    go (inl ha) (inl hb) k l =
        let r = h.south_west in
        (r.0, r.1, cert 2 2 (λ q p a b. a ≺ # 0 ⟹ b ≺ # 0 ⟹ p.0 ≺ q.0 ⟹ p.1 ≺ q.1 ⟹ alongᴱ a b q ≺ alongᴱ a b p ∵ hyp 0 ⊠ hyp 2 ⊞ hyp 1 ⊠ hyp 3) tt (pt q) (pt r.0) a b ha hb r.2 r.3)
    go (inl ha) (inr hb) k l =
        let r = h.north_west in
        (r.0, r.1, cert 2 2 (λ q p a b. a ≺ # 0 ⟹ # 0 ≼ b ⟹ p.0 ≺ q.0 ⟹ q.1 ≺ p.1 ⟹ alongᴱ a b q ≺ alongᴱ a b p ∵ hyp 0 ⊠ hyp 2 ⊞ hyp 1 ⊠ hyp 3) tt (pt q) (pt r.0) a b ha hb r.2 r.3)
    go (inr ha) (inl hb) k l =
        let r = h.south_east in
        (r.0, r.1, cert 2 2 (λ q p a b. # 0 ≼ a ⟹ b ≺ # 0 ⟹ q.0 ≺ p.0 ⟹ p.1 ≺ q.1 ⟹ alongᴱ a b q ≺ alongᴱ a b p ∵ hyp 0 ⊠ hyp 2 ⊞ hyp 1 ⊠ hyp 3) tt (pt q) (pt r.0) a b ha hb r.2 r.3)
    go (inr ha) (inr hb) (inl k) l =
        let r = h.north_east in
        (r.0, r.1, cert 2 2 (λ q p a b. # 0 ≺ a ⟹ # 0 ≼ b ⟹ q.0 ≺ p.0 ⟹ q.1 ≺ p.1 ⟹ alongᴱ a b q ≺ alongᴱ a b p ∵ hyp 0 ⊠ hyp 2 ⊞ hyp 1 ⊠ hyp 3) tt (pt q) (pt r.0) a b k hb r.2 r.3)
    go (inr ha) (inr hb) (inr k) (inl l) =
        let r = h.north_east in
        (r.0, r.1, cert 2 2 (λ q p a b. # 0 ≼ a ⟹ # 0 ≺ b ⟹ q.0 ≺ p.0 ⟹ q.1 ≺ p.1 ⟹ alongᴱ a b q ≺ alongᴱ a b p ∵ hyp 0 ⊠ hyp 2 ⊞ hyp 1 ⊠ hyp 3) tt (pt q) (pt r.0) a b ha l r.2 r.3)
    go (inr ha) (inr hb) (inr k) (inr l) = absurd (ne (≤-antisym k ha, ≤-antisym l hb))

-- so no kept points are all at one place, nor all in line
not_one : {kept : List Point} {q v : Point} → Inner kept q → All (λ p. p ≡ v) kept → ⊥
not_one {q = q} {v} h k =
    let r = h.north_east in
    let s = h.south_west in
    lin 0 4 (λ q p s v. q ≺ p ⟹ s ≺ q ⟹ p ≐ v ⟹ s ≐ v ⟹ bot) (omega arith) q.east r.0.east s.0.east v.east r.2 s.2
    (ap (λ (p : Point). p.east) (all_at k r.1)) (ap (λ (p : Point). p.east) (all_at k s.1))

not_line : {kept : List Point} {q v w : Point} → Inner kept q → (v ≡ w → ⊥) → All (Between v w) kept → ⊥
not_line {q = q} {v} {w} h ne k =
    let r = farther h (outward_east v w) (outward_north v w) (side_nonzero v w ne) in
    let s = farther h (outward_east w v) (outward_north w v) (side_nonzero w v (λ e. ne (sym e))) in
    cert 5 0 (λ q v w p s.
    alongᴱ (⊝ (w.1 ⊖ v.1)) (w.0 ⊖ v.0) q ≺ alongᴱ (⊝ (w.1 ⊖ v.1)) (w.0 ⊖ v.0) p
    ⟹ alongᴱ (⊝ (v.1 ⊖ w.1)) (v.0 ⊖ w.0) q ≺ alongᴱ (⊝ (v.1 ⊖ w.1)) (v.0 ⊖ w.0) s
    ⟹ signed_areaᴱ v w p ≐ # 0 ⟹ signed_areaᴱ v w s ≐ # 0 ⟹ bot
    ∵ hyp 0 ⊞ hyp 1 ⊞ eqn 2 (# 1) ⊞ eqn 3 (⊝ # 1)) tt (pt q) (pt v) (pt w) (pt r.0) (pt s.0) r.2 s.2 (all_at k r.1).in_line (all_at k s.1).in_line

-- and an inner point lies right of every side
inner_right : {kept : List Point} {q : Point} (v w : Point) → Inner kept q → AllRight kept v w → signed_area v w q ≤ℤ pos 0
inner_right {q = q} v w h k = go (same_point v w)
  where
    go : Dec (v ≡ w) → signed_area v w q ≤ℤ pos 0
    go (yes e) =
        cert 3 0 (λ v w q. v.0 ≐ w.0 ⟹ v.1 ≐ w.1 ⟹ signed_areaᴱ v w q ≼ # 0 ∵ eqn 0 (⊝ (q.1 ⊖ v.1)) ⊞ eqn 1 (q.0 ⊖ v.0)) tt (pt v) (pt w) (pt q)
        (ap (λ (p : Point). p.east) e) (ap (λ (p : Point). p.north) e)
    go (no e) =
        let r = farther h (outward_east v w) (outward_north v w) (side_nonzero v w e) in
        cert 4 0 (λ q v w p.
        alongᴱ (⊝ (w.1 ⊖ v.1)) (w.0 ⊖ v.0) q ≺ alongᴱ (⊝ (w.1 ⊖ v.1)) (w.0 ⊖ v.0) p ⟹ signed_areaᴱ v w p ≼ # 0 ⟹ signed_areaᴱ v w q ≼ # 0
        ∵ hyp 0 ⊞ hyp 1) tt (pt q) (pt v) (pt w) (pt r.0) r.2 (all_at k r.1)

-- ---- the polygon of the kept points is that of all, where each is kept or inner

module _ {kept all : List Point} (f : (p : Point) → p ∈ kept → p ∈ all) (g : (p : Point) → p ∈ all → (p ∈ kept) ⊎ Inner kept p) where
  carried : {P : Point → Type 0} → ((p : Point) → Inner kept p → P p) → All P kept → All P all
  carried {P} i k = all_of all (λ p m. ⊎_elim (λ n. all_at k n) (i p) (g p m))

  carried_steps : (v : Point) (vs : List Point) → Steps (AllRight kept) v vs → Steps (AllRight all) v vs
  carried_steps v [] s = tt
  carried_steps v (a ∷ []) s = carried (λ q i. inner_right a v i s) s
  carried_steps v (a ∷ b ∷ vs) s = (carried (λ q i. inner_right a b i s.0) s.0, carried_steps v (b ∷ vs) s.1)

  pub same_outline : {vs : List Point} → Outline kept vs → Outline all vs
  same_outline (one_point {v = v} m h) = one_point (f v m) (carried (λ q i. absurd (not_one i h)) h)
  same_outline (in_line {v = v} {w = w} ne mv mw h) = in_line ne (f v mv) (f w mw) (carried (λ q i. absurd (not_line i ne h)) h)
  same_outline (area {f = x} {a = a} {b = b} {vs = vs} m d s t) = area (all_imp f m) d (carried_steps x (x ∷ a ∷ b ∷ vs) s) t

  pub same_polygon : {vs : List Point} (q : Point) → q ∈ kept → Polygon kept vs → Polygon all vs
  same_polygon q m p = outline_polygon (same_outline (polygon_outline q m p))
