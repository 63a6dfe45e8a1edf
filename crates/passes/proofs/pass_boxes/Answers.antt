-- `passes::pass_boxes` meets its contract. The invariant: the corners of the boxes from place k to place i leave the wedge as it is. Assumes nothing.
use mathlib.Core.Path.{sym, ◌∙◌, subst}
use Prim.Native.Nat.{◌<◌}
use native.Mathlib.Omega.{arith}
use lib.IntN.{pos}
use lib.Signed.{◌<ℤ◌}
use lib.ListN.{length}
use Rattle.integers.proofs.Machine.{lt_z_true}
use Rattle.plane.specs.Points.{signed_area}
use Rattle.plane.proofs.Lists.{index_of_all}
use Rattle.turns.specs.Keys.{point_of}
use Rattle.rounds.specs.Boxes.{boxes_of}
use Rattle.rounds.proofs.Rows.{boxes_length}
use Rattle.passes.specs.Passes.{nth_box}
use Rattle.passes.specs.declared.CornerSet.TheVariants.{Four}
use Rattle.passes.proofs.Passing.{corner_of_nth, four_inside}
use Rattle.passes.proofs.Keeping.{stay_none, stay_inside}
use Rattle.passes.proofs.pass_boxes.Goals as goal

pub loop-i-init : goal.loop-i-init
loop-i-init c = stay_none _ _ _ _ c.args.k (omega (arith, boxes_length c.args.boxes.numbers.now))

pub loop-i-preserved : goal.loop-i-preserved
loop-i-preserved c =
    let i = c.loop-i.i in
    let bs = boxes_of c.args.boxes.numbers.now in
    let p = point_of c.args.plug in
    let n : i < length bs = omega (arith, boxes_length c.args.boxes.numbers.now) in
    let ok = c.args.boxes.accepted in
    stay_inside c.args.plug Four bs _ _ _ i n ok.in_span
    (four_inside p c.args.a c.args.b (nth_box bs i) (index_of_all _ ok.ordered i n) c.rightmost_corner-at_a.ensures c.rightmost_corner-at_b.ensures
    (subst (λ q. pos 0 <ℤ signed_area p (point_of c.args.a.key) q) (c.corner_key-v.ensures.is ∙ corner_of_nth c.rightmost_corner-at_a.result bs i n)
    (lt_z_true (sym c.turns_left.ensures ∙ c.if-not-turns_left.false)))
    (subst (λ q. pos 0 <ℤ signed_area (point_of c.args.b.key) p q) (c.corner_key-w.ensures.is ∙ corner_of_nth c.rightmost_corner-at_b.result bs i n)
    (lt_z_true (sym c.turns_left-in-loop-i.ensures ∙ c.if-not-turns_left-2.false))))
    c.loop-i.invariant
