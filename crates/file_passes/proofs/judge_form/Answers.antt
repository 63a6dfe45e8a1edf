-- `file_passes::judge_form` meets its contract. The invariant: the fault and the counts of the file are those of what stands from `at` on, after the
-- boxes and plugs counted. The measure: what is left of the file. Assumes nothing.
use mathlib.Core.Path.{◌∙◌}
use native.Mathlib.Omega.{arith}
use Rattle.rounds.proofs.Exits.{passed_on}
use Rattle.file_records.proofs.Records.{found, not_found, next_is}
use Rattle.file_passes.proofs.Judging.{judged_start, judged_box, judged_plug, judged_note, judged_end, judged_fault, few_boxes, few_plugs}
use Rattle.file_passes.proofs.judge_form.Goals as goal

pub loop-next-init : goal.loop-next-init
loop-next-init c = (omega arith, judged_start _)

pub returns-in_err-next : goal.returns-in_err-next
returns-in_err-next c = passed_on c.from_residual.result c.from_residual.ensures.1 ∙ judged_fault c.loop-next.invariant.1 (not_found c.in_err-next.ensures)

pub overflow_add-counts : goal.overflow_add-counts
overflow_add-counts c = omega (arith, few_boxes c.loop-next.invariant.1 (found c.in_ok-next.ensures c.in-Box.is))

pub loop-next-smaller-in-Box : goal.loop-next-smaller-in-Box
loop-next-smaller-in-Box c = omega (arith, next_is (found c.in_ok-next.ensures c.in-Box.is))

pub loop-next-preserved-in-Box : goal.loop-next-preserved-in-Box
loop-next-preserved-in-Box c =
    let box = found c.in_ok-next.ensures c.in-Box.is in
    ((next_is box).1, judged_box c.loop-next.invariant.1 box)

pub overflow_add-counts-in-Plug : goal.overflow_add-counts-in-Plug
overflow_add-counts-in-Plug c = omega (arith, few_plugs c.loop-next.invariant.1 (found c.in_ok-next.ensures c.in-Plug.is))

pub loop-next-smaller-in-Plug : goal.loop-next-smaller-in-Plug
loop-next-smaller-in-Plug c = omega (arith, next_is (found c.in_ok-next.ensures c.in-Plug.is))

pub loop-next-preserved-in-Plug : goal.loop-next-preserved-in-Plug
loop-next-preserved-in-Plug c =
    let plug = found c.in_ok-next.ensures c.in-Plug.is in
    ((next_is plug).1, judged_plug c.loop-next.invariant.1 plug)

pub loop-next-smaller : goal.loop-next-smaller
loop-next-smaller c = omega (arith, next_is (found c.in_ok-next.ensures c.in-Note.is))

pub loop-next-preserved : goal.loop-next-preserved
loop-next-preserved c =
    let note = found c.in_ok-next.ensures c.in-Note.is in
    ((next_is note).1, judged_note c.loop-next.invariant.1 note)

pub returns-in-End : goal.returns-in-End
returns-in-End c = judged_end c.loop-next.invariant.1 (found c.in_ok-next.ensures c.in-End.is)
