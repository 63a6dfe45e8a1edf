-- `printing::write_all_lines` meets its contract. The invariant: some lines are written, and the others are left (proofs/Pieces.antt). Assumes nothing.
use Rattle.text_parts.specs.Steps.{count_left}
use Rattle.printing.proofs.Pieces.{Sofar}
use Rattle.printing.proofs.write_all_lines.Given as goal

abbrev pub invariant-loop-left : goal.invariant-loop-left
invariant-loop-left l = Sofar l.first l.initial.out l.left l.bytes l.out

abbrev pub decreases-loop-left : goal.decreases-loop-left
decreases-loop-left l = count_left l.left
