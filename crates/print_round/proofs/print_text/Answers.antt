-- `print_round::print_text` meets its contract. The invariant: some lines are printed, and the others are left (proofs/Printed.antt). Assumes nothing.
use Rattle.print_round.proofs.Printed.{sofar_lines}
use Rattle.print_round.proofs.print_text.Goals as goal

pub loop-left-preserved : goal.loop-left-preserved
loop-left-preserved g c =
    sofar_lines _ _ _ c.loop-left.invariant c.in-Some.is c.write_next-piece.ensures c.in_ok-write_all-2.ensures.bytes
