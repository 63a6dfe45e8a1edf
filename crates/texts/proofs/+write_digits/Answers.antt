-- `texts::write_digits` meets its contract: the number of the tens by a call of itself, then the last digit. Assumes nothing.
use native.Mathlib.Omega.{arith}
use Rattle.texts.proofs.Decimals.{length_small, length_large}
use Rattle.texts.proofs.Writing.{wrote_digit, then_digit}
use Rattle.texts.proofs.+write_digits.Goals as goal

pub bounds-out-0 : goal.bounds-out-0
bounds-out-0 t c = omega (arith, c.requires, length_small c.args.number c.if-number-lt10.true)

pub returns-then-number-lt10 : goal.returns-then-number-lt10
returns-then-number-lt10 t c = wrote_digit c.args.number c.args.out.now c.if-number-lt10.true c.requires

pub write_digits-count-requires : goal.write_digits-count-requires
write_digits-count-requires t c = (omega (arith, c.decreases), omega (arith, c.requires, length_large c.args.number c.if-number-lt10.false))

pub bounds-out-count : goal.bounds-out-count
bounds-out-count t c =
    let w = c.write_digits-count in
    omega (arith, c.requires, w.ensures.counted, w.auto.out, length_large c.args.number c.if-number-lt10.false)

pub returns : goal.returns
returns t c = then_digit c.args.number c.if-number-lt10.false c.write_digits-count.ensures c.requires
