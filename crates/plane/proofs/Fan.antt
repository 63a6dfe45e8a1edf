-- The fan. Where the plug lies right of every side of a cyclic listing, or on it, and the first three vertices turn right, it lies in one of the triangles
-- of the fan from the first vertex: in the first whose far edge has the plug on its left or on it. Assumes nothing.
use Prim.Native.Nat.{ℕ, suc, ◌<◌}
use mathlib.Core.Bool.{cond, Bool, true, false}
use mathlib.Core.Path.{◌≡◌, refl}
use mathlib.Core.List.{List, [], ◌∷◌, map}
use native.Mathlib.Omega.{arith}
use Rattle.std.proofs.lemmas.Int.{ints}
use lib.IntN.{pos, ◌+ℤ◌, neg_ℤ}
use lib.Signed.{◌≤ℤ◌, ◌<ℤ◌, lt_z}
use lib.ListN.{length, get_or}
use Rattle.integers.proofs.Expr.{◌⊕◌, ◌⊗◌, ⊝◌, #◌, ◌≼◌, ◌≺◌, ◌≐◌, ◌⟹◌, bot}
use Rattle.integers.proofs.Lin.{lin}
use Rattle.integers.proofs.Ring.{ring}
use Rattle.integers.proofs.Cert.{cert, hyp, ◌⊞◌, ◌∵◌}
use Rattle.integers.proofs.Order.{<→≤}
use Rattle.plane.specs.Points.{signed_area}
use Rattle.plane.specs.declared.Point.{Point}
use Rattle.plane.specs.Members.{◌∈◌, here, there}
use Rattle.plane.specs.Vectors.{from, Balanced}
use Rattle.plane.specs.Polygons.{Steps, Around}
use Rattle.plane.proofs.Twins.{signed_areaᴱ, pt, fromᴱ}
use Rattle.plane.proofs.Lists.{in_map, in_by_index}
use Rattle.plane.proofs.Combos.{balanced₃}

-- the plug p lies in the triangle a b c, which turns right, or is on an edge of it: the weights are the areas over against each vertex
pub record Covers (p a b c : Point) : Type 0 where
  pub at_a : signed_area b c p ≤ℤ pos 0
  pub at_b : pos 0 ≤ℤ signed_area a c p
  pub at_c : signed_area a b p ≤ℤ pos 0
  pub some : pos 0 <ℤ (neg_ℤ (signed_area b c p) +ℤ signed_area a c p +ℤ neg_ℤ (signed_area a b p))

pub covers_balanced : {vs : List Point} (p a b c : Point) → Covers p a b c → a ∈ vs → b ∈ vs → c ∈ vs → Balanced (map (from 1 p) vs)
covers_balanced p a b c t ma mb mc =
    balanced₃ {u = from 1 p a} {v = from 1 p b} {w = from 1 p c} (neg_ℤ (signed_area b c p)) (signed_area a c p) (neg_ℤ (signed_area a b p))
    (let h = t.at_a in omega (arith, ints)) t.at_b (let h = t.at_c in omega (arith, ints)) t.some
    (in_map (from 1 p) ma) (in_map (from 1 p) mb) (in_map (from 1 p) mc)
    (ring 4 0 (λ p a b c. ⊝ signed_areaᴱ b c p ⊗ (fromᴱ p a).0 ⊕ signed_areaᴱ a c p ⊗ (fromᴱ p b).0 ⊕ ⊝ signed_areaᴱ a b p ⊗ (fromᴱ p c).0 ≐ # 0) tt (pt p) (pt a) (pt b) (pt c))
    (ring 4 0 (λ p a b c. ⊝ signed_areaᴱ b c p ⊗ (fromᴱ p a).1 ⊕ signed_areaᴱ a c p ⊗ (fromᴱ p b).1 ⊕ ⊝ signed_areaᴱ a b p ⊗ (fromᴱ p c).1 ≐ # 0) tt (pt p) (pt a) (pt b) (pt c))

-- where the triangle is: of the vertices vs after f, the first a for which the next one, b, has the plug left of f → b, or on it
abbrev pub fan_at : Point → Point → List Point → ℕ
fan_at p f [] = 0
fan_at p f (a ∷ []) = 0
fan_at p f (a ∷ b ∷ vs) = cond (lt_z (signed_area f b p) (pos 0)) (suc (fan_at p f (b ∷ vs))) 0

-- the triangle of f, the vertex at i and the next one covers the plug
pub record FanAt (p f d : Point) (vs : List Point) (i : ℕ) : Type 0 where
  pub within : suc i < length vs
  pub covers : Covers p f (get_or vs i d) (get_or vs (suc i) d)

-- the first triangle, or one after it, by the test of b
fan_step : (p f d a b : Point) (vs : List Point) → (pos 0 ≤ℤ signed_area f b p → Covers p f a b) → (signed_area f b p <ℤ pos 0 → FanAt p f d (b ∷ vs) (fan_at p f (b ∷ vs)))
    → FanAt p f d (a ∷ b ∷ vs) (fan_at p f (a ∷ b ∷ vs))
fan_step p f d a b vs now on = go (lt_z (signed_area f b p) (pos 0)) refl
  where
    go : (c : Bool) → lt_z (signed_area f b p) (pos 0) ≡ c → FanAt p f d (a ∷ b ∷ vs) (cond c (suc (fan_at p f (b ∷ vs))) 0)
    go true e = let r = on (omega (arith, ints)) in record { within = omega (arith, r.within); covers = r.covers }
    go false e = record { within = omega arith; covers = now (omega (arith, ints)) }

-- on from a vertex a that has the plug strictly right of f → a
seek : (p f d a : Point) (vs : List Point) → signed_area f a p <ℤ pos 0 → Steps (λ v w. signed_area v w p ≤ℤ pos 0) f (a ∷ vs) → FanAt p f d (a ∷ vs) (fan_at p f (a ∷ vs))
seek p f d a [] h s = absurd (cert 3 0 (λ p f a. signed_areaᴱ f a p ≺ # 0 ⟹ signed_areaᴱ a f p ≼ # 0 ⟹ bot ∵ hyp 0 ⊞ hyp 1) tt (pt p) (pt f) (pt a) h s)
seek p f d a (b ∷ vs) h s =
    fan_step p f d a b vs
    (λ k. record {
      at_a = s.0;
      at_b = k;
      at_c = <→≤ h;
      some = lin 0 3 (λ x y z. x ≼ # 0 ⟹ # 0 ≼ y ⟹ z ≺ # 0 ⟹ # 0 ≺ ⊝ x ⊕ y ⊕ ⊝ z) (omega arith) _ _ _ s.0 k h;
    })
    (λ k. seek p f d b vs k s.1)

pub fan : (p f a b d : Point) (vs : List Point) → signed_area f a b <ℤ pos 0 → Around (λ v w. signed_area v w p ≤ℤ pos 0) (f ∷ a ∷ b ∷ vs)
    → FanAt p f d (a ∷ b ∷ vs) (fan_at p f (a ∷ b ∷ vs))
fan p f a b d vs t s =
    fan_step p f d a b vs
    (λ k. record {
      at_a = s.1.0;
      at_b = k;
      at_c = s.0;
      some = cert 4 0 (λ p f a b. signed_areaᴱ f a b ≺ # 0 ⟹ # 0 ≺ ⊝ signed_areaᴱ a b p ⊕ signed_areaᴱ f b p ⊕ ⊝ signed_areaᴱ f a p ∵ hyp 0) tt (pt p) (pt f) (pt a) (pt b) t;
    })
    (λ k. seek p f d b vs k s.1.1)

-- the same, with the two vertices named
pub record Found (p f : Point) (vs : List Point) : Type 0 where
  pub b : Point
  pub c : Point
  pub b_in : b ∈ vs
  pub c_in : c ∈ vs
  pub covers : Covers p f b c

pub found : {p f : Point} (d : Point) (vs : List Point) (i : ℕ) → FanAt p f d vs i → Found p f vs
found d vs i r = record { b = get_or vs i d; c = get_or vs (suc i) d; b_in = in_by_index d vs i (omega (arith, r.within)); c_in = in_by_index d vs (suc i) r.within; covers = r.covers }

pub fan_balanced : (p f a b : Point) (vs : List Point) → signed_area f a b <ℤ pos 0 → Around (λ v w. signed_area v w p ≤ℤ pos 0) (f ∷ a ∷ b ∷ vs) → Balanced (map (from 1 p) (f ∷ a ∷ b ∷ vs))
fan_balanced p f a b vs t s = let r = found f (a ∷ b ∷ vs) (fan_at p f (a ∷ b ∷ vs)) (fan p f a b f vs t s) in covers_balanced p f r.b r.c r.covers (here refl) (there r.b_in) (there r.c_in)
