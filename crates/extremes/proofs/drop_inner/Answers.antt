-- `extremes::drop_inner` meets its contract. Assumes nothing.
use Rattle.std.proofs.Common.{arith}
use Rattle.turns.proofs.Listed.{listed, front_listed}
use Rattle.extremes.proofs.Dropping.{outer, undropped}
use Rattle.extremes.proofs.drop_inner.Goals as goal

pub returns-then-keys-lt-DROP_FROM : goal.returns-then-keys-lt-DROP_FROM
returns-then-keys-lt-DROP_FROM c = undropped c.args.keys.now

-- the sample
pub invariant_of-is_filled : goal.invariant_of-is_filled
invariant_of-is_filled c =
    let k = c.args.keys.now in
    record { all_keys = front_listed k 24 (record { key = λ i h. c.requires.1.key i (omega (arith, c.if-keys-lt-DROP_FROM.false)) }) }

pub invariant_of-find_far : goal.invariant_of-find_far
invariant_of-find_far c = record { all_keys = listed c.requires.1 }

pub returns-then-not-is_filled : goal.returns-then-not-is_filled
returns-then-not-is_filled c = undropped c.args.keys.now

pub returns : goal.returns
returns c =
    outer c.find_far-far.ensures c.between_far-r.ensures c.keep_outside.ensures
