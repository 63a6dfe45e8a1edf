-- `quarters::northmost` meets its contract. The invariant: `NorthmostUpto` of proofs/Keeping, after i keys. Assumes nothing.
use Rattle.quarters.proofs.Keeping.{NorthmostUpto}
use Rattle.quarters.proofs.northmost.Given as goal

abbrev pub invariant-loop-i : goal.invariant-loop-i
invariant-loop-i l = NorthmostUpto l.keys.codes.now l.i l.peak
