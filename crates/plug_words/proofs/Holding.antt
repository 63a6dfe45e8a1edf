-- A box that holds a point, by the tests of its four edges. Assumes nothing.
use mathlib.Core.Path.{◌≡◌, refl, sym, ◌∙◌, ap₂}
use mathlib.Core.Bool.{Bool, true, false, ◌&&◌}
use Prim.Native.Nat.{ℕ}
use native.Mathlib.Omega.{arith}
use lib.IntN.{ℤ, pos, ◌*ℤ◌}
use lib.Signed.{◌≤ℤ◌, le_z}
use mir.Syntax.{w32}
use mir.Val.{SFits, to_z, of_z}
use mir.ValLaws.{to_z-of_z}
use Rattle.integers.proofs.Expr.{◌⊗◌, #◌, ◌≼◌, ◌⟹◌}
use Rattle.integers.proofs.Lin.{lin}
use Rattle.integers.proofs.Machine.{le_z_true}
use Rattle.integers.proofs.Order.{◌≤ᶻ◌}
use Rattle.plane.specs.Points.{point}
use Rattle.rounds.specs.Picks.{InBox}
use Rattle.rounds.specs.declared.Box.{Box}

both : (a b : Bool) → a && b ≡ true → (a ≡ true) × (b ≡ true)
both true b e = (refl, e)
both false b e = absurd (let z : ◌≡◌ {A = ℕ} 0 1 = cc in omega arith)

-- a test of two signed numbers, as the machine reads them
is_le : {y z : ℤ} → SFits w32 y → SFits w32 z → le_z (to_z w32 (of_z w32 y)) (to_z w32 (of_z w32 z)) ≡ true → le_z y z ≡ true
is_le {y} {z} fy fz e = sym (ap₂ le_z (to_z-of_z w32 y fy) (to_z-of_z w32 z fz)) ∙ e

-- the same over the denominator 1
past_low : (a : ℤ) {z : ℤ} → a ≤ℤ z → pos 1 *ℤ a ≤ᶻ z
past_low a {z} = lin 0 2 (λ a z. a ≼ z ⟹ # 1 ⊗ a ≼ z) (omega arith) a z

short_of_high : (a : ℤ) {z : ℤ} → z ≤ℤ a → z ≤ᶻ pos 1 *ℤ a
short_of_high a {z} = lin 0 2 (λ a z. z ≼ a ⟹ z ≼ # 1 ⊗ a) (omega arith) a z

module _ {b : Box} {x y : ℤ} (w : SFits w32 b.west) (s : SFits w32 b.south) (e : SFits w32 b.east) (n : SFits w32 b.north) (fx : SFits w32 x) (fy : SFits w32 y) where
  abbrev rd : ℤ → ℤ
  rd z = to_z w32 (of_z w32 z)

  pub held : (le_z (rd b.west) (rd x) && le_z (rd x) (rd b.east)) && (le_z (rd b.south) (rd y) && le_z (rd y) (rd b.north)) ≡ true → InBox 1 b (point x y)
  held t =
      let p = both _ _ t in
      let across = both _ _ p.0 in
      let upward = both _ _ p.1 in
      record {
        from_west = past_low b.west (le_z_true (is_le w fx across.0));
        to_east = short_of_high b.east (le_z_true (is_le fx e across.1));
        from_south = past_low b.south (le_z_true (is_le s fy upward.0));
        to_north = short_of_high b.north (le_z_true (is_le fy n upward.1));
      }
