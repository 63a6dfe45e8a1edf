-- `extremes::keep_outside` meets its contract. The invariant: `Keeping` of proofs/Dropping, after i keys are passed and n kept. Assumes nothing.
use Rattle.std.proofs.Common.{arith}
use Rattle.extremes.proofs.Dropping.{counted, more}
use Rattle.extremes.proofs.keep_outside.Goals as goal

pub loop-i-preserved : goal.loop-i-preserved
loop-i-preserved c =
    let l = c.loop-i in
    more c.args.keys.now l.keys l.i l.n c.from-n.result _ (omega arith) l.invariant (counted c.is_outside.result c.from-n.ensures c.is_outside.ensures)
