-- `texts::write_two` meets its contract: one digit, or two. Assumes nothing.
use Prim.Native.Nat.{◌/◌}
use native.Mathlib.Omega.{arith}
use lib.ListN.{length-set}
use Rattle.texts.proofs.Decimals.{length_small, length_large}
use Rattle.texts.proofs.Writing.{wrote_digit, wrote_two}
use Rattle.texts.proofs.write_two.Goals as goal

pub bounds-out-0 : goal.bounds-out-0
bounds-out-0 c = omega (arith, c.requires.1, length_small c.args.number (omega (arith, c.if-number-lt10.true)))

pub returns-then-number-lt10 : goal.returns-then-number-lt10
returns-then-number-lt10 c = wrote_digit c.args.number c.args.out.now (omega (arith, c.if-number-lt10.true)) c.requires.1

pub bounds-out-0-2 : goal.bounds-out-0-2
bounds-out-0-2 c = omega (arith, c.requires.1, length_large c.args.number c.if-number-lt10.false)

pub bounds-out-1 : goal.bounds-out-1
bounds-out-1 c =
    let n = c.args.number in
    simp length-set (omega (arith, c.requires.0, c.requires.1, length_large n c.if-number-lt10.false, length_small (n / 10) (omega (arith, c.requires.0))))

pub returns : goal.returns
returns c = wrote_two c.args.number c.args.out.now c.if-number-lt10.false c.requires.0 c.requires.1
