-- `quarters::keep_outside` meets its contract. The invariant: `Keeping` of proofs/Keeping, after i keys are passed. Assumes nothing.
use Rattle.quarters.proofs.Keeping.{Keeping}
use Rattle.quarters.proofs.keep_outside.Given as goal

abbrev pub invariant-loop-i : goal.invariant-loop-i
invariant-loop-i l = Keeping l.keys.codes.now l.fn.way.from l.fn.way.to l.out l.i l.count
