-- `text_parts::open_round` meets its contract: each return is a case of the text, by what turns the input back (proofs/Texts.antt). Assumes nothing.
use mathlib.Core.Path.{refl, sym}
use native.Mathlib.Omega.{arith}
use Prim.Native.Nat.{◌≤◌}
use lib.ListN.{length}
use Rattle.rounds.specs.Refusals.{most_input}
use Rattle.file_passes.proofs.Judging.{well_formed, faulty}
use Rattle.text_parts.proofs.Texts.{text_long, text_refused, refused_by, crowded, boxes_room, boxes_refused, few_plugs, waiting_first, opened}
use Rattle.text_parts.proofs.open_round.Goals as goal

pub returns-then-file-gt-MOST_INPUT : goal.returns-then-file-gt-MOST_INPUT
returns-then-file-gt-MOST_INPUT c = (text_long _ c.if-file-gt-MOST_INPUT.true, refl)

pub returns-in_err-counts : goal.returns-in_err-counts
returns-in_err-counts c =
    refused_by _ _ c.from_residual.result _ c.from_residual.ensures.1 (text_refused _ (omega arith) _ (faulty _ c.in_err-counts.ensures))

pub returns-then-counts-gt-MOST_BOXES : goal.returns-then-counts-gt-MOST_BOXES
returns-then-counts-gt-MOST_BOXES c =
    (crowded _ (omega arith) (well_formed _ c.in_ok-counts.ensures) c.if-counts-gt-MOST_BOXES.true, refl)

pub read_boxes-at-requires : goal.read_boxes-at-requires
read_boxes-at-requires c =
    boxes_room _ (omega arith) (well_formed _ c.in_ok-counts.ensures) (omega arith)

pub returns-in_err-boxes : goal.returns-in_err-boxes
returns-in_err-boxes c =
    let short : length c.args.file.now ≤ most_input = omega arith in
    refused_by _ _ c.from_residual-in_err-boxes.result _ c.from_residual-in_err-boxes.ensures.1
    (boxes_refused _ short (well_formed _ c.in_ok-counts.ensures) c.read_boxes-at.ensures _ (sym c.in_err-boxes.ensures.fault))

pub write_counts-requires : goal.write_counts-requires
write_counts-requires c =
    let short : length c.args.file.now ≤ most_input = omega arith in
    let few = few_plugs _ short (well_formed _ c.in_ok-counts.ensures) c.read_boxes-at.ensures (sym c.in_ok-boxes.ensures.fault) in
    (omega arith, omega (arith, few), omega (arith, c.requires.for_line))

pub of_plugs-requires : goal.of_plugs-requires
of_plugs-requires c =
    let short : length c.args.file.now ≤ most_input = omega arith in
    waiting_first _ short (well_formed _ c.in_ok-counts.ensures) c.read_boxes-at.ensures (sym c.in_ok-boxes.ensures.fault) c.make_shapes-shapes.ensures c.in_ok-boxes.ensures.same

pub returns : goal.returns
returns c =
    let short : length c.args.file.now ≤ most_input = omega arith in
    opened _ short (well_formed _ c.in_ok-counts.ensures) c.read_boxes-at.ensures (sym c.in_ok-boxes.ensures.fault) (omega arith) c.write_counts.ensures c.of_plugs.ensures
