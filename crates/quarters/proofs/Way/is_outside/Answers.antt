-- `quarters::Way::is_outside` meets its contract. Assumes nothing.
use mathlib.Core.Path.{◌≡◌, refl, sym, ◌∙◌}
use mathlib.Core.Bool.{true}
use Prim.Native.Nat.{ℕ, ◌<◌}
use lib.IntN.{pos}
use lib.Signed.{◌≤ℤ◌, ◌<ℤ◌}
use Rattle.std.specs.Ordering.{is_lt, nat_cmp}
use Rattle.std.proofs.Common.{arith}
use mir.Syntax.{w64}
use Rattle.integers.proofs.Machine.{le_z_true, le_z_false, lt_plain, le_plain}
use Rattle.std.proofs.lemmas.Int.{ints}
use Rattle.plane.specs.Points.{signed_area}
use Rattle.turns.specs.Keys.{point_of}
use Rattle.turns.proofs.Bounds.{returned}
use Rattle.chains.specs.Chains.{turn}
use Rattle.quarters.specs.Quarters.{Outside}
use Rattle.quarters.proofs.Way.is_outside.Goals as goal

-- not left of the line
not_left : {from to k : ℕ} → signed_area (point_of from) (point_of to) (point_of k) ≤ℤ pos 0 → Outside from to k → ⊥
unfolding turn
not_left h o = let l = o.left in omega (arith, ints)

-- left of it
is_left : (from to k : ℕ) → pos 0 <ℤ signed_area (point_of from) (point_of to) (point_of k) → pos 0 <ℤ turn from to k
unfolding turn
is_left from to k h = h

-- what the order of two keys says of them
less : (a b : ℕ) → is_lt (nat_cmp a b) ≡ true → a < b
less a b h = grind arith

pub returns-then-side_of-le0-clause-not_outside : goal.returns-then-side_of-le0-clause-not_outside
returns-then-side_of-le0-clause-not_outside c =
    let w = c.args.self.now in
    let area = returned w64 c.side_of.type_inv (c.side_of.ensures.value.area w.from w.to w.between_keys.2) in
    λ e o. not_left (le_plain area refl (le_z_true c.if-side_of-le0.true)) o

pub returns-then-lt-clause-outside : goal.returns-then-lt-clause-outside
returns-then-lt-clause-outside c =
    let w = c.args.self.now in
    let area = returned w64 c.side_of.type_inv (c.side_of.ensures.value.area w.from w.to w.between_keys.2) in
    λ e.
    record {
      after = less w.from c.args.key (sym c.lt.ensures ∙ c.if-lt.true);
      before = less c.args.key w.to (sym c.lt-then-lt.ensures ∙ e);
      left = is_left _ _ _ (lt_plain refl area (le_z_false c.if-side_of-le0.false));
    }
