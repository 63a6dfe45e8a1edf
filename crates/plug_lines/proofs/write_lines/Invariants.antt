-- `plug_lines::write_lines` meets its contract. The invariant: the first k lines are written (proofs/Lines.antt). Assumes nothing.
use Rattle.plug_lines.proofs.Lines.{Sofar}
use Rattle.plug_lines.proofs.write_lines.Given as goal

abbrev pub invariant-loop-k : goal.invariant-loop-k
invariant-loop-k l = Sofar l.shapes.polygons.vertices.now l.shapes.polygons.counts l.before l.plugs l.initial.out l.k l.done l.out
