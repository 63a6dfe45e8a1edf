-- Three vertices or more: the plug is strictly left of a side, and off; or in a triangle of the fan from the first vertex, and then on a side, or strictly within.
-- Assumes nothing.
use Prim.Native.Nat.{ℕ, ◌+◌, ◌-◌, ◌<◌}
use mathlib.Core.Path.{◌≡◌, sym, subst}
use mathlib.Core.Logic.{◌⊎◌, inl, inr}
use mathlib.Core.List.{List, [], ◌∷◌, map}
use native.Mathlib.Omega.{arith}
use native.Mathlib.Decide.{dec_lt}
use lib.IntN.{pos}
use lib.Signed.{◌≤ℤ◌, ◌<ℤ◌}
use lib.ListN.{length}
use Rattle.integers.proofs.Expr.{◌⊕◌, ⊝◌, #◌, ◌≼◌, ◌≺◌, ◌≐◌, ◌⟹◌, bot}
use Rattle.integers.proofs.Lin.{lin}
use Rattle.integers.proofs.Cert.{cert, hyp, eqn, ◌⊞◌, ◌⊠◌, ◌∵◌, ◌∵◌÷◌}
use Rattle.integers.proofs.Order.{lt_or_ge, ≤-antisym, ≡→≤}
use Rattle.plane.specs.Points.{signed_area}
use Rattle.plane.specs.declared.Point.{Point}
use Rattle.plane.specs.Members.{All, none, ◌&◌, ◌∈◌}
use Rattle.plane.specs.Vectors.{from, Supported, Balanced}
use Rattle.plane.specs.Polygons.{Polygon}
use Rattle.plane.proofs.Twins.{signed_areaᴱ, pt}
use Rattle.plane.proofs.Sides.{side_supported, side_separated}
use Rattle.plane.proofs.Winding.{winding_within}
use Rattle.plane.proofs.Fan.{covers_balanced}
use Rattle.turns.specs.Keys.{point_of}
use Rattle.locations.specs.Places.{PlaceOf}
use Rattle.locations.specs.Search.{vertex_at, FanWedge}
use Rattle.locations.specs.declared.Place.TheVariants.{Within, OnLine, Off}
use Rattle.locations.proofs.Vertices.{listed, first_strict, strict_of_first, strict_of_last, Side}

-- ---- strictly within: some of the vertices wind around the plug

-- As seen from the first vertex f the plug lies between b and the next vertex c. It is strictly right of the side from b to c, and of f's sides, to a and from l.
-- Where it is on the way from f to b, or to c, f's neighbour on that side is taken into the listing too.
module _ (p f a b c l : Point) (right-a : signed_area f a p <ℤ pos 0) (right-bc : signed_area b c p <ℤ pos 0) (right-l : signed_area l f p <ℤ pos 0)
    (strict : signed_area b c f <ℤ pos 0) where
  -- on the way to b
  before_b : signed_area f a b <ℤ pos 0 → signed_area f b p ≡ pos 0 → signed_area a b p <ℤ pos 0
  before_b s e = cert 5 0 (λ p f a b c.
      signed_areaᴱ f a b ≺ # 0 ⟹ signed_areaᴱ b c p ≺ # 0 ⟹ signed_areaᴱ b c f ≺ # 0 ⟹ signed_areaᴱ f b p ≐ # 0 ⟹ signed_areaᴱ a b p ≺ # 0
      ∵ hyp 0 ⊠ hyp 1 ⊞ eqn 3 (signed_areaᴱ b a c) ÷ hyp 2) tt (pt p) (pt f) (pt a) (pt b) (pt c) s right-bc strict e

  beyond_b : signed_area f a b <ℤ pos 0 → signed_area f b p ≡ pos 0 → signed_area c f p <ℤ pos 0
  beyond_b s e = cert 5 0 (λ p f a b c.
      signed_areaᴱ f a p ≺ # 0 ⟹ signed_areaᴱ b c f ≺ # 0 ⟹ signed_areaᴱ f a b ≺ # 0 ⟹ signed_areaᴱ f b p ≐ # 0 ⟹ signed_areaᴱ c f p ≺ # 0
      ∵ hyp 0 ⊠ hyp 1 ⊞ eqn 3 (signed_areaᴱ f a c) ÷ hyp 2) tt (pt p) (pt f) (pt a) (pt b) (pt c) right-a strict s e

  -- on the way to c
  beyond_c : signed_area l f c <ℤ pos 0 → signed_area f c p ≡ pos 0 → signed_area c l p <ℤ pos 0
  beyond_c s e = cert 5 0 (λ p f b c l.
      signed_areaᴱ l f c ≺ # 0 ⟹ signed_areaᴱ b c p ≺ # 0 ⟹ signed_areaᴱ b c f ≺ # 0 ⟹ signed_areaᴱ f c p ≐ # 0 ⟹ signed_areaᴱ c l p ≺ # 0
      ∵ hyp 0 ⊠ hyp 1 ⊞ eqn 3 (signed_areaᴱ c l b) ÷ hyp 2) tt (pt p) (pt f) (pt b) (pt c) (pt l) s right-bc strict e

  pub surrounded : {qs : List Point} → All (λ v. v ∈ qs) (f ∷ a ∷ b ∷ c ∷ l ∷ []) → signed_area f b p ≤ℤ pos 0 → pos 0 ≤ℤ signed_area f c p
      → (a ≡ b) ⊎ (signed_area f a b <ℤ pos 0) → (c ≡ l) ⊎ (signed_area l f c <ℤ pos 0) → Supported (map (from 1 p) qs) → ⊥
  surrounded {qs} (mf & ma & mb & mc & ml & none) hb hc ab cl = go (lt_or_ge (signed_area f b p) (pos 0)) (lt_or_ge (pos 0) (signed_area f c p)) ab cl
    where
      turned : (v w : Point) → pos 0 <ℤ signed_area v w p → signed_area w v p <ℤ pos 0
      turned v w = cert 3 0 (λ p v w. # 0 ≺ signed_areaᴱ v w p ⟹ signed_areaᴱ w v p ≺ # 0 ∵ hyp 0) tt (pt p) (pt v) (pt w)

      same_a : a ≡ b → pos 0 ≤ℤ signed_area f b p → ⊥
      same_a e h = lin 0 1 (λ x. x ≺ # 0 ⟹ # 0 ≼ x ⟹ bot) (omega arith) _ (subst (λ v. signed_area f v p <ℤ pos 0) e right-a) h

      same_l : c ≡ l → signed_area f c p ≤ℤ pos 0 → ⊥
      same_l e h =
          cert 3 0 (λ p f c. signed_areaᴱ c f p ≺ # 0 ⟹ signed_areaᴱ f c p ≼ # 0 ⟹ bot ∵ hyp 0 ⊞ hyp 1) tt (pt p) (pt f) (pt c)
          (subst (λ v. signed_area v f p <ℤ pos 0) (sym e) right-l) h

      go : (signed_area f b p <ℤ pos 0) ⊎ (pos 0 ≤ℤ signed_area f b p) → (pos 0 <ℤ signed_area f c p) ⊎ (signed_area f c p ≤ℤ pos 0)
          → (a ≡ b) ⊎ (signed_area f a b <ℤ pos 0) → (c ≡ l) ⊎ (signed_area l f c <ℤ pos 0) → Supported (map (from 1 p) qs) → ⊥
      go (inl x) (inl y) s t = winding_within p f (b ∷ c ∷ []) qs (x, (right-bc, turned f c y)) (mf & mb & mc & none)
      go (inl x) (inr y) s (inl e) = absurd (same_l e y)
      go (inl x) (inr y) s (inr t) = winding_within p f (b ∷ c ∷ l ∷ []) qs (x, (right-bc, (beyond_c t (≤-antisym y hc), right-l))) (mf & mb & mc & ml & none)
      go (inr x) y (inl e) t = absurd (same_a e x)
      go (inr x) y (inr s) t =
          let e = ≤-antisym hb x in
          winding_within p f (a ∷ b ∷ c ∷ []) qs (right-a, (before_b s e, (right-bc, beyond_b s e))) (mf & ma & mb & mc & none)

-- ---- in the hull: in the triangle of f, b and c

pub in_hull : {qs : List Point} (p f b c : Point) → f ∈ qs → b ∈ qs → c ∈ qs → signed_area b c f <ℤ pos 0
    → signed_area f b p ≤ℤ pos 0 → pos 0 ≤ℤ signed_area f c p → signed_area b c p ≤ℤ pos 0 → Balanced (map (from 1 p) qs)
in_hull p f b c mf mb mc strict hb hc h =
    covers_balanced p f b c
    (record {
      at_a = h;
      at_b = hc;
      at_c = hb;
      some = cert 4 0 (λ p f b c. signed_areaᴱ b c f ≺ # 0 ⟹ # 0 ≺ ⊝ signed_areaᴱ b c p ⊕ signed_areaᴱ f c p ⊕ ⊝ signed_areaᴱ f b p ∵ hyp 0) tt (pt p) (pt f) (pt b) (pt c) strict;
    })
    mf mb mc

-- ---- of a slice of keys

module _ (ks : List ℕ) (k : ℕ) where
  -- strictly left of a side
  pub place_off : (v w : Point) → Side ks v w → pos 0 <ℤ signed_area v w (point_of k) → PlaceOf ks k Off
  place_off v w s h = record { says = λ qs P. side_separated v w (point_of k) (s.right qs P) h }

  -- in a triangle of the fan, and on a side
  pub place_on : (i : ℕ) → FanWedge ks k i → signed_area (vertex_at ks i) (vertex_at ks (i + 1)) (point_of k) ≤ℤ pos 0
      → (v w : Point) → Side ks v w → signed_area v w (point_of k) ≡ pos 0 → PlaceOf ks k OnLine
  place_on i h o v w s e =
      let l = h.in_range in
      record {
        says = λ qs P. (
          side_supported v w (point_of k) (s.ends qs P) (s.right qs P) (≡→≤ (sym e)),
          in_hull (point_of k) (vertex_at ks 0) (vertex_at ks i) (vertex_at ks (i + 1)) (listed ks P 0 (omega arith)) (listed ks P i (omega arith)) (listed ks P (i + 1) l)
              (first_strict ks P i h.later l) h.right h.left o,
        );
      }

  -- strictly right of the first vertex's sides and of the triangle's outer one
  pub place_within : (i : ℕ) → FanWedge ks k i → signed_area (vertex_at ks 0) (vertex_at ks 1) (point_of k) <ℤ pos 0
      → signed_area (vertex_at ks (length ks - 1)) (vertex_at ks 0) (point_of k) <ℤ pos 0
      → signed_area (vertex_at ks i) (vertex_at ks (i + 1)) (point_of k) <ℤ pos 0 → PlaceOf ks k Within
  place_within i h right-a right-l right-bc =
      let l = h.in_range in
      record {
        says = λ qs P. surrounded (point_of k) (vertex_at ks 0) (vertex_at ks 1) (vertex_at ks i) (vertex_at ks (i + 1)) (vertex_at ks (length ks - 1))
            right-a right-bc right-l (first_strict ks P i h.later l)
            (listed ks P 0 (omega arith) & listed ks P 1 (omega arith) & listed ks P i (omega arith) & listed ks P (i + 1) l & listed ks P (length ks - 1) (omega arith) & none)
            h.right h.left (at_second P (dec_lt 1 i)) (at_last P (dec_lt (i + 2) (length ks)));
      }
    where
      at_second : {qs : List Point} → Polygon qs (map point_of ks) → Dec (1 < i) → (vertex_at ks 1 ≡ vertex_at ks i) ⊎ (signed_area (vertex_at ks 0) (vertex_at ks 1) (vertex_at ks i) <ℤ pos 0)
      at_second P (yes j) = inr (strict_of_first ks P i j (omega (arith, h.in_range)))
      at_second P (no j) = let e : i ≡ 1 = omega (arith, h.later) in inl (rw e)

      at_last : {qs : List Point} → Polygon qs (map point_of ks) → Dec (i + 2 < length ks)
          → (vertex_at ks (i + 1) ≡ vertex_at ks (length ks - 1)) ⊎ (signed_area (vertex_at ks (length ks - 1)) (vertex_at ks 0) (vertex_at ks (i + 1)) <ℤ pos 0)
      at_last P (yes j) = inr (strict_of_last ks P (i + 1) (omega arith) (omega arith))
      at_last P (no j) = let e : length ks - 1 ≡ i + 1 = omega (arith, h.in_range) in inl (rw e)
