-- `passes::pass_corners` meets its contract. The invariant: the corners from place k to place i leave the wedge as it is. Assumes nothing.
use Rattle.rounds.specs.Boxes.{boxes_of}
use Rattle.cones.specs.declared.Cone.TheVariants.{Wedge}
use Rattle.passes.specs.declared.CornerSet.TheVariants.{One}
use Rattle.passes.proofs.Keeping.{Stay}
use Rattle.passes.proofs.pass_corners.Given as goal

abbrev pub invariant-loop-i : goal.invariant-loop-i
invariant-loop-i l = Stay l.plug (Wedge l.fn.a l.fn.b) (One l.corner) (boxes_of l.boxes.numbers.now) l.k l.i
