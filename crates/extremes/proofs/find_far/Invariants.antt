-- `extremes::find_far` meets its contract. The invariant: the four are the sums and differences of keys of the list. Assumes nothing.
use Rattle.extremes.proofs.Dropping.{Codes}
use Rattle.extremes.proofs.find_far.Given as goal

abbrev pub invariant-loop-i : goal.invariant-loop-i
invariant-loop-i l = Codes l.keys.codes.now l.ne l.nw l.sw l.se
