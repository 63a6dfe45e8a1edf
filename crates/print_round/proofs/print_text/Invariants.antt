-- `print_round::print_text` meets its contract. The invariant: some lines are printed, and the others are left (proofs/Printed.antt). Assumes nothing.
use Rattle.text_parts.specs.Steps.{count_left}
use Rattle.print_round.proofs.Printed.{Sofar}
use Rattle.print_round.proofs.print_text.Given as goal

abbrev pub invariant-loop-left : goal.invariant-loop-left
invariant-loop-left g l = Sofar l.input l.left (g.W.Write.contents l.fn.output) (g.W.Write.contents l.output)

abbrev pub decreases-loop-left : goal.decreases-loop-left
decreases-loop-left g l = count_left l.left
