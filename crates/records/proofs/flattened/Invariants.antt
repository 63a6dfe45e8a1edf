-- `records::flattened` meets its contract. The invariant: the first i records are copied, and the others follow in the flat list. Assumes nothing.
use Rattle.records.proofs.Copying.{Copied}
use Rattle.records.proofs.flattened.Given as goal

abbrev pub invariant-loop-i : goal.invariant-loop-i
invariant-loop-i l = Copied l.boxes l.i l.flat
