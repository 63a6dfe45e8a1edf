-- The parts of a key: what callers know of them, and of how great a key is. Assumes nothing.
use mathlib.Core.Path.{◌≡◌}
use Prim.Native.Nat.{ℕ, ◌+◌, ◌*◌, ◌^◌, ◌≤◌, ◌<◌}
use native.Mathlib.Omega.{arith}
use lib.Dec.{lt→ltb}
use lib.IntN.{pos, ◌-ℤ◌}
use lib.Signed.{◌<ℤ◌}
use Rattle.integers.proofs.Expr.{◌⊖◌, #◌, ◌≺◌, ◌⟹◌}
use Rattle.integers.proofs.Lin.{lin}
use Rattle.plane.specs.Points.{span}
use Rattle.turns.specs.Keys.{stride, east_part, north_part, IsKey, point_of, greatest_key}

-- ---- a number and its parts

-- the parts of a number made of two, and a number by its parts
module _ (e n : ℕ) (h : n < stride) where
  pub east_made : east_part (e * stride + n) ≡ e
  unfolding east_part
  east_made = omega arith

  pub north_made : north_part (e * stride + n) ≡ n
  unfolding north_part
  north_made = omega arith

pub made_of : (k e n : ℕ) → e ≡ east_part k → n ≡ north_part k → e * stride + n ≡ k
unfolding east_part north_part
made_of k e n p q = omega arith

-- the parts of a 32-bit number
pub east_small : (k : ℕ) → k < 2 ^ 32 → east_part k < 2 ^ 17
unfolding east_part
east_small k h = omega arith

pub north_small : (k : ℕ) → north_part k < 2 ^ 15
unfolding north_part
north_small k = omega arith

-- ---- order

-- the order of parts is that of the coordinates that they stand for
pub part_less : (m n : ℕ) → m < n → (pos m -ℤ pos span) <ℤ (pos n -ℤ pos span)
part_less m n h = lin 0 2 (λ x y. x ≺ y ⟹ x ⊖ # 16000 ≺ y ⊖ # 16000) (omega arith) (pos m) (pos n) (record { lt = lt→ltb m n h })

module _ (a b : ℕ) where
  -- the order of keys is first that of their east parts
  pub east_first : east_part a < east_part b → a < b
  unfolding east_part
  east_first h = omega arith

  pub east_less : east_part a < east_part b → (point_of a).east <ℤ (point_of b).east
  unfolding point_of
  east_less h = part_less (east_part a) (east_part b) h

  pub north_less : north_part a < north_part b → (point_of a).north <ℤ (point_of b).north
  unfolding point_of
  north_less h = part_less (north_part a) (north_part b) h

-- ---- how great a key is

pub key_most : {k : ℕ} → IsKey k → k ≤ greatest_key
unfolding east_part north_part
key_most {k} h = omega (arith, h.east_in, h.north_in)

-- the least number is a key
pub least_key : IsKey 0
unfolding east_part north_part
least_key = record { east_in = omega arith; north_in = omega arith }
