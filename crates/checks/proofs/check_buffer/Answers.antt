-- `checks::check_buffer` meets its contract: the test decides `buffer_fault`, and a `usize` is at most the largest 64-bit number. Assumes nothing.
use mathlib.Core.Path.{sym, ap}
use Prim.Native.Nat.{◌≤◌}
use native.Mathlib.Omega.{arith}
use native.Mathlib.Nat.{min-eq_left}
use borrow.Author.Tests.{lt-ltb, le-ltb}
use Rattle.rounds.specs.Refusals.{fault, buffer_fault}
use Rattle.rounds.specs.declared.Cause.TheVariants as Cause
use Rattle.checks.proofs.check_buffer.Goals as goal

pub returns-then-given-needed : goal.returns-then-given-needed
unfolding buffer_fault
returns-then-given-needed c =
    let h : c.args.needed ≤ 18446744073709551615 = omega arith in
    simp (lt-ltb _ _ c.if-given-needed.true) (ap (fault Cause.BufferShort) (sym (min-eq_left h)))

pub returns : goal.returns
unfolding buffer_fault
returns c = simp (le-ltb _ _ c.if-given-needed.false)
