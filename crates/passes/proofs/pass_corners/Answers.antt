-- `passes::pass_corners` meets its contract. The invariant: the corners from place k to place i leave the wedge as it is. Assumes nothing.
use mathlib.Core.Path.{sym, ◌∙◌, subst}
use Prim.Native.Nat.{◌<◌}
use native.Mathlib.Omega.{arith}
use lib.ListN.{length}
use Rattle.integers.proofs.Machine.{lt_z_true}
use Rattle.plane.specs.Members.{none, ◌&◌}
use Rattle.turns.specs.Keys.{point_of}
use Rattle.rounds.specs.Boxes.{boxes_of}
use Rattle.rounds.proofs.Rows.{boxes_length}
use Rattle.cones.proofs.Turns.{back_pos}
use Rattle.passes.specs.declared.CornerSet.TheVariants.{One}
use Rattle.passes.proofs.Passing.{corner_of_nth, InsideWedge}
use Rattle.passes.proofs.Keeping.{stay_none, stay_inside}
use Rattle.passes.proofs.pass_corners.Goals as goal

pub loop-i-init : goal.loop-i-init
loop-i-init c = stay_none _ _ _ _ c.args.k (omega (arith, boxes_length c.args.boxes.numbers.now))

pub loop-i-preserved : goal.loop-i-preserved
loop-i-preserved c =
    let i = c.loop-i.i in
    let bs = boxes_of c.args.boxes.numbers.now in
    let n : i < length bs = omega (arith, boxes_length c.args.boxes.numbers.now) in
    let e = c.corner_key-v.ensures.is ∙ corner_of_nth c.args.corner bs i n in
    let A = point_of c.args.a.key in
    let B = point_of c.args.b.key in
    let p = point_of c.args.plug in
    let v = point_of c.corner_key-v.result in
    stay_inside c.args.plug (One c.args.corner) bs _ _ _ i n c.args.boxes.accepted.in_span
    (subst (InsideWedge p c.args.a c.args.b) e (
      back_pos p v A (lt_z_true (sym c.turns_right.ensures ∙ c.if-not-turns_right.false)),
      back_pos p B v (lt_z_true (sym c.turns_right-in-loop-i.ensures ∙ c.if-not-turns_right-2.false)),
    )
    & none)
    c.loop-i.invariant
