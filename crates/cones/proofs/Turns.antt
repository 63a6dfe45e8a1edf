-- Signed areas and dot products of vectors from the plug p to points a, b, v and q: what the cones turn on. Assumes nothing.
use Prim.Native.Nat.{ℕ, zero, suc}
use mathlib.Core.Path.{◌≡◌, refl, sym, subst}
use native.Mathlib.Omega.{arith}
use lib.Dec.{lt→ltb}
use lib.IntN.{ℤ, pos, negsuc}
use lib.Signed.{◌≤ℤ◌, ◌<ℤ◌}
use Rattle.integers.proofs.Expr.{⊝◌, #◌, ◌≼◌, ◌≺◌, ◌≐◌, ◌⟹◌, bot}
use Rattle.integers.proofs.Ring.{ring}
use Rattle.integers.proofs.Cert.{cert, hyp, eqn, ◌⊞◌, ◌⊠◌, ◌∵◌, ◌∵◌÷◌}
use Rattle.plane.specs.Points.{signed_area, dot_product}
use Rattle.plane.specs.declared.Point.{Point}
use Rattle.plane.proofs.Twins.{signed_areaᴱ, pt}
use Rattle.plane.proofs.Sides.{dot_productᴱ}
use Rattle.plane.proofs.PolygonFacts.{apart_length}
use Rattle.turns.specs.Turns.{turn_of}
use Rattle.turns.specs.declared.Turn.TheVariants.{Right, Straight, Left}

-- ---- turned round

pub back_pos : (p a b : Point) → signed_area p a b <ℤ pos 0 → pos 0 <ℤ signed_area p b a
back_pos p a b = cert 3 0 (λ p a b. signed_areaᴱ p a b ≺ # 0 ⟹ # 0 ≺ signed_areaᴱ p b a ∵ hyp 0) tt (pt p) (pt a) (pt b)

pub back_zero : (p a b : Point) → signed_area p a b ≡ pos 0 → signed_area p b a ≡ pos 0
back_zero p a b = cert 3 0 (λ p a b. signed_areaᴱ p a b ≐ # 0 ⟹ signed_areaᴱ p b a ≐ # 0 ∵ eqn 0 (⊝ # 1)) tt (pt p) (pt a) (pt b)

pub back_ahead : (p a b : Point) → dot_product p a b <ℤ pos 0 → dot_product p b a <ℤ pos 0
back_ahead p a b = cert 3 0 (λ p a b. dot_productᴱ p a b ≺ # 0 ⟹ dot_productᴱ p b a ≺ # 0 ∵ hyp 0) tt (pt p) (pt a) (pt b)

-- from the corner a on
pub cycle_neg : (p a b : Point) → signed_area p a b <ℤ pos 0 → signed_area a b p <ℤ pos 0
cycle_neg p a b = cert 3 0 (λ p a b. signed_areaᴱ p a b ≺ # 0 ⟹ signed_areaᴱ a b p ≺ # 0 ∵ hyp 0) tt (pt p) (pt a) (pt b)

pub cycle_neg_back : (p a b : Point) → pos 0 <ℤ signed_area p b a → signed_area a b p <ℤ pos 0
cycle_neg_back p a b = cert 3 0 (λ p a b. # 0 ≺ signed_areaᴱ p b a ⟹ signed_areaᴱ a b p ≺ # 0 ∵ hyp 0) tt (pt p) (pt a) (pt b)

-- ---- with the plug itself, and with itself

pub area_at : (p a : Point) → signed_area p a p ≡ pos 0
area_at p a = ring 2 0 (λ p a. signed_areaᴱ p a p ≐ # 0) tt (pt p) (pt a)

-- ---- lengths

pub apart_a : (p a b : Point) → pos 0 <ℤ signed_area p a b → pos 0 <ℤ dot_product p a a
apart_a p a b h =
    apart_length p a (λ e. cert 2 0 (λ p b. # 0 ≺ signed_areaᴱ p p b ⟹ bot ∵ hyp 0) tt (pt p) (pt b) (subst (λ x. pos 0 <ℤ signed_area p x b) (sym e) h))

pub apart_b : (p a b : Point) → pos 0 <ℤ signed_area p a b → pos 0 <ℤ dot_product p b b
apart_b p a b h =
    apart_length p b (λ e. cert 2 0 (λ p a. # 0 ≺ signed_areaᴱ p a p ⟹ bot ∵ hyp 0) tt (pt p) (pt a) (subst (λ x. pos 0 <ℤ signed_area p a x) (sym e) h))

pub apart_opposite : (p a b : Point) → dot_product p a b <ℤ pos 0 → pos 0 <ℤ dot_product p a a
apart_opposite p a b h =
    apart_length p a (λ e. cert 2 0 (λ p b. dot_productᴱ p p b ≺ # 0 ⟹ bot ∵ hyp 0) tt (pt p) (pt b) (subst (λ x. dot_product p x b <ℤ pos 0) (sym e) h))

-- ---- a ray through a, and q on it

pub ray_left : (p a v q : Point) → signed_area p a q ≡ pos 0 → pos 0 ≤ℤ dot_product p a q → pos 0 <ℤ signed_area p a v → pos 0 <ℤ dot_product p a a → pos 0 ≤ℤ signed_area p q v
ray_left p a v q =
    cert 4 0 (λ p a v q. signed_areaᴱ p a q ≐ # 0 ⟹ # 0 ≼ dot_productᴱ p a q ⟹ # 0 ≺ signed_areaᴱ p a v ⟹ # 0 ≺ dot_productᴱ p a a ⟹ # 0 ≼ signed_areaᴱ p q v
    ∵ hyp 1 ⊠ hyp 2 ⊞ eqn 0 (dot_productᴱ p a v) ÷ hyp 3) tt (pt p) (pt a) (pt v) (pt q)

pub ray_right : (p a v q : Point) → signed_area p a q ≡ pos 0 → pos 0 ≤ℤ dot_product p a q → signed_area p a v <ℤ pos 0 → pos 0 <ℤ dot_product p a a → pos 0 ≤ℤ signed_area p v q
ray_right p a v q =
    cert 4 0 (λ p a v q. signed_areaᴱ p a q ≐ # 0 ⟹ # 0 ≼ dot_productᴱ p a q ⟹ signed_areaᴱ p a v ≺ # 0 ⟹ # 0 ≺ dot_productᴱ p a a ⟹ # 0 ≼ signed_areaᴱ p v q
    ∵ hyp 1 ⊠ hyp 2 ⊞ eqn 0 (⊝ dot_productᴱ p a v) ÷ hyp 3) tt (pt p) (pt a) (pt v) (pt q)

-- a point on it that is not the plug is strictly ahead
pub ray_strict : (p a q : Point) → signed_area p a q ≡ pos 0 → dot_product p a q ≡ pos 0 → pos 0 <ℤ dot_product p a a → pos 0 <ℤ dot_product p q q → ⊥
ray_strict p a q =
    cert 3 0 (λ p a q. signed_areaᴱ p a q ≐ # 0 ⟹ dot_productᴱ p a q ≐ # 0 ⟹ # 0 ≺ dot_productᴱ p a a ⟹ # 0 ≺ dot_productᴱ p q q ⟹ bot
    ∵ hyp 2 ⊠ hyp 3 ⊞ eqn 0 (signed_areaᴱ p a q) ⊞ eqn 1 (dot_productᴱ p a q)) tt (pt p) (pt a) (pt q)

-- ---- a and b on opposite sides of the plug: what is right of the one is left of the other

pub flip_nn : (p a b q : Point) → signed_area p a b ≡ pos 0 → dot_product p a b <ℤ pos 0 → pos 0 <ℤ dot_product p a a → signed_area p a q ≤ℤ pos 0 → pos 0 ≤ℤ signed_area p b q
flip_nn p a b q =
    cert 4 0 (λ p a b q. signed_areaᴱ p a b ≐ # 0 ⟹ dot_productᴱ p a b ≺ # 0 ⟹ # 0 ≺ dot_productᴱ p a a ⟹ signed_areaᴱ p a q ≼ # 0 ⟹ # 0 ≼ signed_areaᴱ p b q
    ∵ hyp 1 ⊠ hyp 3 ⊞ eqn 0 (dot_productᴱ p a q) ÷ hyp 2) tt (pt p) (pt a) (pt b) (pt q)

pub flip_pos : (p a b q : Point) → signed_area p a b ≡ pos 0 → dot_product p a b <ℤ pos 0 → pos 0 <ℤ dot_product p a a → signed_area p a q <ℤ pos 0 → pos 0 <ℤ signed_area p b q
flip_pos p a b q =
    cert 4 0 (λ p a b q. signed_areaᴱ p a b ≐ # 0 ⟹ dot_productᴱ p a b ≺ # 0 ⟹ # 0 ≺ dot_productᴱ p a a ⟹ signed_areaᴱ p a q ≺ # 0 ⟹ # 0 ≺ signed_areaᴱ p b q
    ∵ hyp 1 ⊠ hyp 3 ⊞ eqn 0 (dot_productᴱ p a q) ÷ hyp 2) tt (pt p) (pt a) (pt b) (pt q)

pub flip_neg : (p a b q : Point) → signed_area p a b ≡ pos 0 → dot_product p a b <ℤ pos 0 → pos 0 <ℤ dot_product p a a → pos 0 <ℤ signed_area p a q → signed_area p b q <ℤ pos 0
flip_neg p a b q =
    cert 4 0 (λ p a b q. signed_areaᴱ p a b ≐ # 0 ⟹ dot_productᴱ p a b ≺ # 0 ⟹ # 0 ≺ dot_productᴱ p a a ⟹ # 0 ≺ signed_areaᴱ p a q ⟹ signed_areaᴱ p b q ≺ # 0
    ∵ hyp 1 ⊠ hyp 3 ⊞ eqn 0 (⊝ dot_productᴱ p a q) ÷ hyp 2) tt (pt p) (pt a) (pt b) (pt q)

-- ---- a wedge from a to b, and q in it

-- v takes the place of a
pub new_right : (p a b v q : Point) → pos 0 <ℤ signed_area p a b → pos 0 ≤ℤ signed_area p a q → pos 0 ≤ℤ signed_area p q b → signed_area p a v <ℤ pos 0 → pos 0 ≤ℤ signed_area p v b
    → pos 0 ≤ℤ signed_area p v q
new_right p a b v q =
    cert 5 0 (λ p a b v q.
    # 0 ≺ signed_areaᴱ p a b ⟹ # 0 ≼ signed_areaᴱ p a q ⟹ # 0 ≼ signed_areaᴱ p q b ⟹ signed_areaᴱ p a v ≺ # 0 ⟹ # 0 ≼ signed_areaᴱ p v b ⟹ # 0 ≼ signed_areaᴱ p v q
    ∵ hyp 3 ⊠ hyp 2 ⊞ hyp 1 ⊠ hyp 4 ÷ hyp 0) tt (pt p) (pt a) (pt b) (pt v) (pt q)

-- v takes the place of b
pub new_left : (p a b v q : Point) → pos 0 <ℤ signed_area p a b → pos 0 ≤ℤ signed_area p a q → pos 0 ≤ℤ signed_area p q b → pos 0 ≤ℤ signed_area p a v → signed_area p v b <ℤ pos 0
    → pos 0 ≤ℤ signed_area p q v
new_left p a b v q =
    cert 5 0 (λ p a b v q.
    # 0 ≺ signed_areaᴱ p a b ⟹ # 0 ≼ signed_areaᴱ p a q ⟹ # 0 ≼ signed_areaᴱ p q b ⟹ # 0 ≼ signed_areaᴱ p a v ⟹ signed_areaᴱ p v b ≺ # 0 ⟹ # 0 ≼ signed_areaᴱ p q v
    ∵ hyp 1 ⊠ hyp 4 ⊞ hyp 3 ⊠ hyp 2 ÷ hyp 0) tt (pt p) (pt a) (pt b) (pt v) (pt q)

-- v, right of a and in line with b, is opposite to b
pub opposite_b : (p a b v : Point) → pos 0 <ℤ signed_area p a b → pos 0 <ℤ dot_product p b b → signed_area p a v <ℤ pos 0 → signed_area p v b ≡ pos 0 → dot_product p v b <ℤ pos 0
opposite_b p a b v =
    cert 4 0 (λ p a b v. # 0 ≺ signed_areaᴱ p a b ⟹ # 0 ≺ dot_productᴱ p b b ⟹ signed_areaᴱ p a v ≺ # 0 ⟹ signed_areaᴱ p v b ≐ # 0 ⟹ dot_productᴱ p v b ≺ # 0
    ∵ hyp 1 ⊠ hyp 2 ⊞ eqn 3 (dot_productᴱ p a b) ÷ hyp 0) tt (pt p) (pt a) (pt b) (pt v)

-- v, left of b and in line with a, is opposite to a
pub opposite_a : (p a b v : Point) → pos 0 <ℤ signed_area p a b → pos 0 <ℤ dot_product p a a → signed_area p a v ≡ pos 0 → signed_area p v b <ℤ pos 0 → dot_product p a v <ℤ pos 0
opposite_a p a b v =
    cert 4 0 (λ p a b v. # 0 ≺ signed_areaᴱ p a b ⟹ # 0 ≺ dot_productᴱ p a a ⟹ signed_areaᴱ p a v ≐ # 0 ⟹ signed_areaᴱ p v b ≺ # 0 ⟹ dot_productᴱ p a v ≺ # 0
    ∵ hyp 1 ⊠ hyp 3 ⊞ eqn 2 (dot_productᴱ p a b) ÷ hyp 0) tt (pt p) (pt a) (pt b) (pt v)

-- a point that is not the plug is strictly in front of the two rays together
pub wedge_strict : (p a b q : Point) → pos 0 <ℤ signed_area p a b → signed_area p a q ≡ pos 0 → signed_area p q b ≡ pos 0 → pos 0 <ℤ dot_product p q q → ⊥
wedge_strict p a b q =
    cert 4 0 (λ p a b q. # 0 ≺ signed_areaᴱ p a b ⟹ signed_areaᴱ p a q ≐ # 0 ⟹ signed_areaᴱ p q b ≐ # 0 ⟹ # 0 ≺ dot_productᴱ p q q ⟹ bot
    ∵ hyp 0 ⊠ hyp 3 ⊞ eqn 1 (dot_productᴱ p b q) ⊞ eqn 2 (dot_productᴱ p a q)) tt (pt p) (pt a) (pt b) (pt q)

-- ---- what a turn says of the signed area

pub is_right : (z : ℤ) → turn_of z ≡ Right → z <ℤ pos 0
is_right (negsuc n) e = record { lt = tt }
is_right (pos zero) e = absurd (let z : ◌≡◌ {A = ℕ} 0 1 = cc in omega arith)
is_right (pos (suc n)) e = absurd (let z : ◌≡◌ {A = ℕ} 0 1 = cc in omega arith)

pub is_straight : (z : ℤ) → turn_of z ≡ Straight → z ≡ pos 0
is_straight (negsuc n) e = absurd (let z : ◌≡◌ {A = ℕ} 0 1 = cc in omega arith)
is_straight (pos zero) e = refl
is_straight (pos (suc n)) e = absurd (let z : ◌≡◌ {A = ℕ} 0 1 = cc in omega arith)

pub is_left : (z : ℤ) → turn_of z ≡ Left → pos 0 <ℤ z
is_left (negsuc n) e = absurd (let z : ◌≡◌ {A = ℕ} 0 1 = cc in omega arith)
is_left (pos zero) e = absurd (let z : ◌≡◌ {A = ℕ} 0 1 = cc in omega arith)
is_left (pos (suc n)) e = record { lt = lt→ltb 0 (suc n) (omega arith) }

pub left_is : (z : ℤ) → pos 0 <ℤ z → turn_of z ≡ Left
left_is (negsuc n) h = absurd h.lt
left_is (pos zero) h = absurd h.lt
left_is (pos (suc n)) h = refl
