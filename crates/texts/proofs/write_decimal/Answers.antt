-- `texts::write_decimal` meets its contract: the number of the hundreds, then the two last digits. Assumes nothing.
use mathlib.Core.Path.{◌≡◌}
use Prim.Native.Nat.{ℕ, ◌+◌, ◌/◌, ◌≤◌}
use native.Mathlib.Omega.{arith}
use lib.ListN.{length, length-set}
use Rattle.texts.specs.Decimals.{decimal}
use Rattle.texts.proofs.Decimals.{length_hundreds}
use Rattle.texts.proofs.Writing.{then_two}
use Rattle.texts.proofs.write_decimal.Goals as goal

pub write_two-count-requires : goal.write_two-count-requires
write_two-count-requires c =
    (omega (arith, c.if-number-ge-FIVE_DIGITS.false), omega (arith, c.requires, length_hundreds c.args.number c.if-number-lt-THREE_DIGITS.false))

-- there is room for the two last digits
room : (number : ℕ) {n m w : ℕ} → 100 ≤ number → length (decimal number) ≤ n → w ≡ length (decimal (number / 10 / 10)) → m ≡ n → w + 2 ≤ m
room number h r e l = omega (arith, length_hundreds number h)

pub bounds-out-count : goal.bounds-out-count
bounds-out-count c = let w = c.write_two-count in
    let r = room c.args.number c.if-number-lt-THREE_DIGITS.false c.requires w.ensures.counted w.auto.out in
    omega (arith, r)

pub bounds-out-count-2 : goal.bounds-out-count-2
bounds-out-count-2 c = let w = c.write_two-count in
    let r = room c.args.number c.if-number-lt-THREE_DIGITS.false c.requires w.ensures.counted w.auto.out in
    simp length-set (omega (arith, r))

pub returns : goal.returns
returns c =
    then_two c.args.number c.if-number-lt-THREE_DIGITS.false c.write_two-count.ensures c.requires
