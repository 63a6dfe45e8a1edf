-- Winding. A cyclic listing with the plug strictly right of every side winds around the plug: its vertices have the plug strictly inside their hull.
-- Were they all behind a direction u, then each would lie clockwise of the first, and so the first of itself. Assumes nothing.
use mathlib.Core.Path.{◌≡◌, refl}
use mathlib.Core.Logic.{◌⊎◌, inl, inr}
use mathlib.Core.List.{List, [], ◌∷◌, map}
use lib.IntN.{ℤ, pos, ◌+ℤ◌, ◌*ℤ◌}
use lib.Signed.{◌≤ℤ◌, ◌<ℤ◌}
use Rattle.integers.proofs.Expr.{◌⊕◌, ◌⊖◌, ◌⊗◌, #◌, ◌≼◌, ◌≺◌, ◌≐◌, ◌⟹◌, bot}
use Rattle.integers.proofs.Cert.{cert, hyp, eqn, ◌⊞◌, ◌⊠◌, ◌∵◌}
use Rattle.integers.proofs.Order.{sq_nn, lt_or_ge, not-≤, ≤-antisym, add_pos_nn, add_nn_pos, mul_pos, mul_neg_neg, compareℤ, Cmp, is_less, is_same, is_more}
use Rattle.plane.specs.Points.{signed_area}
use Rattle.plane.specs.declared.Point.{Point}
use Rattle.plane.specs.Members.{All, none, ◌&◌, ◌∈◌, here, there}
use Rattle.plane.specs.Vectors.{from, along, Supported}
use Rattle.plane.specs.Polygons.{Steps, Around}
use Rattle.plane.proofs.Twins.{signed_areaᴱ, pt, fromᴱ, alongᴱ}
use Rattle.plane.proofs.Lists.{all_at, all_imp, all_map, all_unmap}

-- a direction that is not zero has a length
pub length_pos : (a b : ℤ) → ((a ≡ pos 0) × (b ≡ pos 0) → ⊥) → pos 0 <ℤ (a *ℤ a +ℤ b *ℤ b)
length_pos a b ne = go (compareℤ a (pos 0)) (compareℤ b (pos 0))
  where
    go : Cmp a (pos 0) → Cmp b (pos 0) → pos 0 <ℤ (a *ℤ a +ℤ b *ℤ b)
    go (is_less h) k = add_pos_nn (mul_neg_neg h h) (sq_nn b)
    go (is_more h) k = add_pos_nn (mul_pos h h) (sq_nn b)
    go (is_same h) (is_less k) = add_nn_pos (sq_nn a) (mul_neg_neg k k)
    go (is_same h) (is_more k) = add_nn_pos (sq_nn a) (mul_pos k k)
    go (is_same h) (is_same k) = absurd (ne (h, k))

module _ (p : Point) (a b : ℤ) where
  -- the vertex is behind the direction, or on its line
  abbrev Behind : Point → Type 0
  Behind v = along a b (from 1 p v) ≤ℤ pos 0

  abbrev Strictly : Point → Type 0
  Strictly v = along a b (from 1 p v) <ℤ pos 0

  -- a vertex between two turns is not on the line
  off_line : (u v w : Point) → pos 0 <ℤ (a *ℤ a +ℤ b *ℤ b) → Behind u → Behind v → Behind w → signed_area u v p <ℤ pos 0 → signed_area v w p <ℤ pos 0 → Strictly v
  off_line u v w hu ku kv kw h k = not-≤ (λ z. go (≤-antisym kv z) (lt_or_ge (along a b (from 1 p u)) (pos 0)))
    where
      go : along a b (from 1 p v) ≡ pos 0 → Strictly u ⊎ (pos 0 ≤ℤ along a b (from 1 p u)) → ⊥
      go z (inl y) = cert 4 2 (λ p u v w a b.
          alongᴱ a b (fromᴱ p v) ≐ # 0 ⟹ alongᴱ a b (fromᴱ p u) ≺ # 0 ⟹ alongᴱ a b (fromᴱ p w) ≼ # 0 ⟹ signed_areaᴱ u v p ≺ # 0 ⟹ signed_areaᴱ v w p ≺ # 0 ⟹ bot
          ∵ hyp 1 ⊠ hyp 4 ⊞ hyp 2 ⊠ hyp 3 ⊞ eqn 0 (signed_areaᴱ p u w)) tt (pt p) (pt u) (pt v) (pt w) a b z y kw h k
      go z (inr y) = cert 3 2 (λ p u v a b.
          alongᴱ a b (fromᴱ p v) ≐ # 0 ⟹ alongᴱ a b (fromᴱ p u) ≐ # 0 ⟹ # 0 ≺ a ⊗ a ⊕ b ⊗ b ⟹ signed_areaᴱ u v p ≺ # 0 ⟹ bot
          ∵ hyp 2 ⊠ hyp 3 ⊞ eqn 0 (a ⊗ (u.1 ⊖ p.1) ⊖ b ⊗ (u.0 ⊖ p.0)) ⊞ eqn 1 (b ⊗ (v.0 ⊖ p.0) ⊖ a ⊗ (v.1 ⊖ p.1))) tt (pt p) (pt u) (pt v) a b z (≤-antisym ku y) hu h

  -- clockwise from f to v and from v to w is clockwise from f to w
  onward : (f v w : Point) → Strictly f → Behind v → Behind w → signed_area f v p <ℤ pos 0 → signed_area v w p <ℤ pos 0 → signed_area f w p <ℤ pos 0
  onward f v w kf kv kw h k = not-≤ (λ z. cert 4 2 (λ p f v w a b.
      alongᴱ a b (fromᴱ p f) ≺ # 0 ⟹ alongᴱ a b (fromᴱ p v) ≼ # 0 ⟹ alongᴱ a b (fromᴱ p w) ≼ # 0 ⟹ signed_areaᴱ f v p ≺ # 0 ⟹ signed_areaᴱ v w p ≺ # 0 ⟹ # 0 ≼ signed_areaᴱ f w p ⟹ bot
      ∵ hyp 0 ⊠ hyp 4 ⊞ hyp 2 ⊠ hyp 3 ⊞ hyp 1 ⊠ hyp 5) tt (pt p) (pt f) (pt v) (pt w) a b kf kv kw h k z)

  -- around the listing: from f to each vertex, and so to f itself
  walk : (f v : Point) (vs : List Point) → Strictly f → All Behind (v ∷ vs) → signed_area f v p <ℤ pos 0 → Steps (λ u w. signed_area u w p <ℤ pos 0) f (v ∷ vs) → ⊥
  walk f v [] kf (kv & none) h s = cert 3 0 (λ p f v. signed_areaᴱ f v p ≺ # 0 ⟹ signed_areaᴱ v f p ≺ # 0 ⟹ bot ∵ hyp 0 ⊞ hyp 1) tt (pt p) (pt f) (pt v) h s
  walk f v (w ∷ vs) kf (kv & kw & ks) h s = walk f w vs kf (kw & ks) (onward f v w kf kv kw h s.0) s.1

-- the vertex before the first
before_first : (R : Point → Point → Type 0) (f v : Point) (vs : List Point) → Steps R f (v ∷ vs) → (l : Point) × (l ∈ (v ∷ vs)) × R l f
before_first R f v [] s = (v, here refl, s)
before_first R f v (w ∷ vs) s = let r = before_first R f w vs s.1 in (r.0, there r.1, r.2)

pub winding : (p v : Point) (vs : List Point) → Around (λ v w. signed_area v w p <ℤ pos 0) (v ∷ vs) → Supported (map (from 1 p) (v ∷ vs)) → ⊥
winding p v [] s h = cert 2 0 (λ p v. signed_areaᴱ v v p ≺ # 0 ⟹ bot ∵ hyp 0) tt (pt p) (pt v) s
winding p v (w ∷ vs) s h = go (all_unmap (from 1 p) (v ∷ w ∷ vs) h.behind) (before_first (λ v w. signed_area v w p <ℤ pos 0) v w vs s.1)
  where
    go : All (Behind p h.a h.b) (v ∷ w ∷ vs) → (l : Point) × (l ∈ (w ∷ vs)) × (signed_area l v p <ℤ pos 0) → ⊥
    go (kv & ks) l =
        walk p h.a h.b v w vs
        (off_line p h.a h.b l.0 v w (length_pos h.a h.b h.nonzero) (all_at ks l.1) kv (all_at ks (here refl)) l.2 s.0)
        ks s.0 s.1

-- a list that contains all the vertices has the plug strictly inside its hull too
pub winding_within : (p v : Point) (vs qs : List Point) → Around (λ v w. signed_area v w p <ℤ pos 0) (v ∷ vs) → All (λ v. v ∈ qs) (v ∷ vs) → Supported (map (from 1 p) qs) → ⊥
winding_within p v vs qs s m h =
    winding p v vs s (record {
      a = h.a;
      b = h.b;
      nonzero = h.nonzero;
      behind = all_map (from 1 p) (all_imp (λ v k. all_at (all_unmap (from 1 p) qs h.behind) k) m);
    })
