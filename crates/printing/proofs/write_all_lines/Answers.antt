-- `printing::write_all_lines` meets its contract. The invariant: some lines are written, and the others are left (proofs/Pieces.antt). Assumes nothing.
use Rattle.printing.proofs.Pieces.{sofar_more}
use Rattle.printing.proofs.write_all_lines.Goals as goal

pub loop-left-preserved : goal.loop-left-preserved
loop-left-preserved c = sofar_more c.requires c.loop-left.invariant c.in-Some.is c.write_next-piece.ensures
