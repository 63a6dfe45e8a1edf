-- `passes::pass_line` meets its contract. The invariant: the corners from place k to place i leave the line as it is. Assumes nothing.
use Rattle.cones.specs.declared.CornerKey.{CornerKey}
use Rattle.rounds.specs.Boxes.{boxes_of}
use Rattle.cones.specs.declared.Cone.TheVariants.{Line}
use Rattle.passes.specs.declared.CornerSet.TheVariants.{One}
use Rattle.passes.proofs.Keeping.{Stay}
use Rattle.passes.proofs.pass_line.Given as goal

abbrev pub invariant-loop-i : goal.invariant-loop-i
invariant-loop-i l = (b : CornerKey) → Stay l.plug (Line l.fn.a b) (One l.corner) (boxes_of l.boxes.numbers.now) l.k l.i
