-- `corners::rightmost_corner` meets its contract: two tests tell where the left of the way is. Assumes nothing.
use Prim.Native.Nat.{◌<◌, ◌^◌}
use mathlib.Core.Path.{◌≡◌, refl, subst}
use mathlib.Core.Bool.{true, false}
use lib.IntN.{ℤ, pos, ◌-ℤ◌}
use lib.Signed.{◌≤ℤ◌, ◌<ℤ◌, mag, le_z}
use mir.Syntax.{w32}
use mir.Val.{hbits, to_z, of_z}
use Rattle.integers.proofs.Machine.{le_z_true, le_z_false, lt_plain, le_plain}
use Rattle.turns.specs.Keys.{point_of}
use Rattle.turns.proofs.Bounds.{returned}
use Rattle.rounds.specs.declared.Corner.{Corner}
use Rattle.rounds.proofs.Corners.{lowest}
use Rattle.corners.specs.Corners.{Rightmost}
use Rattle.corners.proofs.Rightmost.{lowest_south_west, lowest_north_west, lowest_south_east, lowest_north_east, lowest_rightmost}
use Rattle.corners.proofs.rightmost_corner.Goals as goal
use Rattle.corners.proofs.rightmost_corner.Goals.{Start}

-- tests of a difference z, which a call returned as r
module _ {r z : ℤ} (m : mag r < 2 ^ hbits w32) (e : r ≡ z) where
  onward : le_z (to_z w32 (of_z w32 (pos 0))) (to_z w32 (of_z w32 r)) ≡ true → pos 0 ≤ℤ z
  onward t = le_plain refl (returned w32 m e) (le_z_true t)

  back : le_z (to_z w32 (of_z w32 (pos 0))) (to_z w32 (of_z w32 r)) ≡ false → z <ℤ pos 0
  back t = lt_plain (returned w32 m e) refl (le_z_false t)

-- the answer, where it is the lowest corner along the direction to the left
answer : (s : Start) {c : Corner}
    → lowest ((point_of s.args.from).north -ℤ (point_of s.args.to).north) ((point_of s.args.to).east -ℤ (point_of s.args.from).east) ≡ c
    → Rightmost (point_of s.args.from) (point_of s.args.to) c
answer s e = subst (Rightmost (point_of s.args.from) (point_of s.args.to)) e (lowest_rightmost _ _)

pub returns-then-north-ge0 : goal.returns-then-north-ge0
returns-then-north-ge0 c =
    answer c.before.before.before.before
    (lowest_south_west _ _ (onward c.north_between-east.type_inv c.north_between-east.ensures.value c.if-east-ge0.true) (onward c.east_between-north.type_inv c.east_between-north.ensures.value c.if-north-ge0.true))

pub returns-then-east-ge0 : goal.returns-then-east-ge0
returns-then-east-ge0 c =
    answer c.before.before.before.before
    (lowest_north_west _ _ (onward c.north_between-east.type_inv c.north_between-east.ensures.value c.if-east-ge0.true) (back c.east_between-north.type_inv c.east_between-north.ensures.value c.if-north-ge0.false))

pub returns-then-north-ge0-2 : goal.returns-then-north-ge0-2
returns-then-north-ge0-2 c =
    answer c.before.before.before.before
    (lowest_south_east _ _ (back c.north_between-east.type_inv c.north_between-east.ensures.value c.if-east-ge0.false) (onward c.east_between-north.type_inv c.east_between-north.ensures.value c.if-north-ge0-2.true))

pub returns : goal.returns
returns c =
    answer c.before.before.before.before
    (lowest_north_east _ _ (back c.north_between-east.type_inv c.north_between-east.ensures.value c.if-east-ge0.false) (back c.east_between-north.type_inv c.east_between-north.ensures.value c.if-north-ge0-2.false))
