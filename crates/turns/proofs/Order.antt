-- The order of keys is that of their points by east, then by north, and a point has one key. Assumes nothing.
use mathlib.Core.Path.{◌≡◌, refl, sym, ap, ◌∙◌}
use mathlib.Core.Bool.{Bool, true, false, cond}
use Prim.Native.Nat.{ℕ, ◌<◌}
use native.Mathlib.Decide.{dec_lt}
use native.Mathlib.Omega.{arith}
use borrow.Author.Tests.{lt-ltb, le-ltb, ltb-true}
use lib.Dec.{T, ltb}
use lib.IntN.{pos, ◌-ℤ◌}
use lib.Signed.{lt_z, ◌<ℤ◌}
use Rattle.integers.proofs.Expr.{◌⊖◌, #◌, ◌≐◌, ◌≺◌, ◌⟹◌}
use Rattle.integers.proofs.Lin.{lin}
use Rattle.plane.specs.Points.{point}
use Rattle.plane.specs.declared.Point.{Point}
use Rattle.plane.proofs.Angular.{Up, ahead, above}
use Rattle.turns.specs.Keys.{east_part, north_part, point_of, precedes}
use Rattle.turns.proofs.Parts.{part_less}

-- ---- a test of two parts of keys, less 16,000, is that of the parts

same_test : (m n : ℕ) → lt_z (pos m -ℤ pos 16000) (pos n -ℤ pos 16000) ≡ ltb m n
same_test m n = go (dec_lt m n)
  where
    yes_is : (b : Bool) → T b → b ≡ true
    yes_is true t = refl
    yes_is false t = absurd t

    no_is : (b : Bool) → (T b → ⊥) → b ≡ false
    no_is true t = absurd (t tt)
    no_is false t = refl

    back : (pos m -ℤ pos 16000) <ℤ (pos n -ℤ pos 16000) → pos m <ℤ pos n
    back = lin 0 2 (λ x y. x ⊖ # 16000 ≺ y ⊖ # 16000 ⟹ x ≺ y) (omega arith) (pos m) (pos n)

    go : Dec (m < n) → lt_z (pos m -ℤ pos 16000) (pos n -ℤ pos 16000) ≡ ltb m n
    go (yes h) = yes_is _ (part_less m n h).lt ∙ sym (lt-ltb m n h)
    go (no h) = no_is _ (λ t. absurd (h (ltb-true m n (yes_is (ltb m n) (back (record { lt = t })).lt)))) ∙ sym (le-ltb m n (omega arith))

-- ---- the order of keys is that of their points

pub order_is : (a b : ℕ) → ltb a b ≡ precedes (point_of a) (point_of b)
unfolding point_of east_part north_part
order_is a b =
    rw (same_test (east_part a) (east_part b), same_test (east_part b) (east_part a), same_test (north_part a) (north_part b))
    (go (dec_lt (east_part a) (east_part b)) (dec_lt (east_part b) (east_part a)) (dec_lt (north_part a) (north_part b)))
  where
    go : Dec (east_part a < east_part b) → Dec (east_part b < east_part a) → Dec (north_part a < north_part b)
        → ltb a b ≡ cond (ltb (east_part a) (east_part b)) true (cond (ltb (east_part b) (east_part a)) false (ltb (north_part a) (north_part b)))
    go (yes h) k l = rw (lt-ltb _ _ h) (lt-ltb a b (omega arith))
    go (no h) (yes k) l = rw (le-ltb (east_part a) (east_part b) (omega arith), lt-ltb _ _ k) (le-ltb a b (omega arith))
    go (no h) (no k) (yes l) = rw (le-ltb (east_part a) (east_part b) (omega arith), le-ltb (east_part b) (east_part a) (omega arith), lt-ltb _ _ l) (lt-ltb a b (omega arith))
    go (no h) (no k) (no l) = rw (le-ltb (east_part a) (east_part b) (omega arith), le-ltb (east_part b) (east_part a) (omega arith), le-ltb (north_part a) (north_part b) (omega arith)) (le-ltb a b (omega arith))

pub less_precedes : {a b : ℕ} → a < b → precedes (point_of a) (point_of b) ≡ true
less_precedes {a} {b} h = sym (order_is a b) ∙ lt-ltb a b h

pub precedes_less : (a b : ℕ) → precedes (point_of a) (point_of b) ≡ true → a < b
precedes_less a b e = ltb-true a b (order_is a b ∙ e)

-- a point has one key
pub point_injective : (a b : ℕ) → point_of a ≡ point_of b → a ≡ b
unfolding point_of east_part north_part
point_injective a b e =
    let f : east_part a ≡ east_part b = part _ _ (ap (λ (p : Point). p.east) e) in
    let g : north_part a ≡ north_part b = part _ _ (ap (λ (p : Point). p.north) e) in
    omega arith
  where
    part : (m n : ℕ) → pos m -ℤ pos 16000 ≡ pos n -ℤ pos 16000 → m ≡ n
    part m n e =
        let h : pos m ≡ pos n = lin 0 2 (λ x y. x ⊖ # 16000 ≐ y ⊖ # 16000 ⟹ x ≐ y) (omega arith) (pos m) (pos n) e in
        cc

-- ---- the vector from a point to one of a later key points up

pub up : {a b : ℕ} → a < b → Up (point ((point_of b).east -ℤ (point_of a).east) ((point_of b).north -ℤ (point_of a).north))
unfolding point_of east_part north_part
up {a} {b} h = go (dec_lt (east_part a) (east_part b))
  where
    differ : (m n : ℕ) → m < n → pos 0 <ℤ ((pos n -ℤ pos 16000) -ℤ (pos m -ℤ pos 16000))
    differ m n l = lin 0 2 (λ x y. x ⊖ # 16000 ≺ y ⊖ # 16000 ⟹ # 0 ≺ (y ⊖ # 16000) ⊖ (x ⊖ # 16000)) (omega arith) (pos m) (pos n) (part_less m n l)

    same : (m n : ℕ) → n ≡ m → (pos n -ℤ pos 16000) -ℤ (pos m -ℤ pos 16000) ≡ pos 0
    same m n e = lin 0 2 (λ x y. y ≐ x ⟹ (y ⊖ # 16000) ⊖ (x ⊖ # 16000) ≐ # 0) (omega arith) (pos m) (pos n) (ap pos e)

    go : Dec (east_part a < east_part b) → Up (point ((point_of b).east -ℤ (point_of a).east) ((point_of b).north -ℤ (point_of a).north))
    go (yes l) = ahead (differ _ _ l)
    go (no f) =
        let e : east_part b ≡ east_part a = omega arith in
        above (same (east_part a) (east_part b) e) (differ (north_part a) (north_part b) (omega arith))
