-- `passes::pass_boxes` meets its contract. The invariant: the corners of the boxes from place k to place i leave the wedge as it is. Assumes nothing.
use Rattle.rounds.specs.Boxes.{boxes_of}
use Rattle.cones.specs.declared.Cone.TheVariants.{Wedge}
use Rattle.passes.specs.declared.CornerSet.TheVariants.{Four}
use Rattle.passes.proofs.Keeping.{Stay}
use Rattle.passes.proofs.pass_boxes.Given as goal

abbrev pub invariant-loop-i : goal.invariant-loop-i
invariant-loop-i l = Stay l.plug (Wedge l.a l.b) Four (boxes_of l.boxes.numbers.now) l.k l.i
