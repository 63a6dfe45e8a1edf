-- `hulls::append_reflected` meets its contract. The invariant: i keys are appended, reflected, and the vertices before them are as they were. Assumes nothing.
use Rattle.orders.specs.Order.{get}
use Rattle.turns.specs.Reflection.{reflected}
use Rattle.halves.specs.Halves.{Appended}
use Rattle.hulls.proofs.append_reflected.Given as goal

abbrev pub invariant-loop-i : goal.invariant-loop-i
invariant-loop-i l = Appended reflected (get l.initial.vertices) (get l.vertices) (get l.lower.codes.now) l.at l.i
