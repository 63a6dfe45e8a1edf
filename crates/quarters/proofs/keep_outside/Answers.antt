-- `quarters::keep_outside` meets its contract. Assumes nothing.
use mathlib.Core.Logic.{inl, inr}
use native.Mathlib.Omega.{arith}
use Rattle.quarters.specs.Quarters.{KeptIf}
use Rattle.quarters.proofs.Keeping.{keeping_none, keeping_more, keeping_end}
use Rattle.quarters.proofs.keep_outside.Goals as goal
use Rattle.quarters.proofs.keep_outside.Goals.{then-is_outside, else-is_outside}

pub loop-i-init : goal.loop-i-init
loop-i-init c = keeping_none c.args.keys.codes.now c.args.way.from c.args.way.to c.args.out.now

pub loop-i-preserved : goal.loop-i-preserved
loop-i-preserved c =
    let l = c.loop-i in
    let x = c.is_outside in
    let m = c.if-is_outside in
    let kept : KeptIf c.args.way.from c.args.way.to c.at-key.result l.out l.count m.out m.count =
    record {
      kept =
          elim m.branch [
            | then-is_outside w ↦ inl (w.count-is, x.ensures.outside w.if-is_outside.true, rw w.code.ensures.value at w.out-is)
            | else-is_outside w ↦ inr (w.count-is, x.ensures.not_outside w.if-is_outside.false, w.out-is)
          ];
    } in
    (keeping_more c.args.keys.codes.now c.args.way.from c.args.way.to l.out l.i l.count m.out m.count (omega arith) (omega (arith, l.invariant.few, c.requires)) l.invariant _ c.at-key.ensures kept).1

pub returns : goal.returns
returns c =
    let l = c.loop-i in
    keeping_end c.args.keys.codes.now c.args.way.from c.args.way.to l.out l.i l.count (omega arith) l.invariant
