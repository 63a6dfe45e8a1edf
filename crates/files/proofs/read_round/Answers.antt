-- `files::read_round` meets its contract: each return is a case of the promise, by what the judging pass and the checks said. Assumes nothing.
use mathlib.Core.Path.{ap}
use Prim.Native.Nat.{◌*◌, ◌^◌, ◌<◌}
use native.Mathlib.Omega.{arith}
use lib.ListN.{length}
use Rattle.rounds.specs.Refusals.{◌or_else◌, buffer_fault}
use Rattle.rounds.proofs.Exits.{passed_on, in_turn}
use Rattle.file_passes.proofs.Judging.{well_formed, faulty}
use Rattle.files.proofs.Reader.{refused_by_form, refused_by_length, box_room, plug_room, was_read}
use Rattle.files.proofs.read_round.Goals as goal

pub returns-in_err-counts : goal.returns-in_err-counts
returns-in_err-counts c = refused_by_form _ _ _ (passed_on c.from_residual.result c.from_residual.ensures.1) (faulty _ c.in_err-counts.ensures)

pub overflow_mul-counts : goal.overflow_mul-counts
overflow_mul-counts c =
    let l : length c.args.file.now < 2 ^ 64 = omega (arith, c.well_formed) in
    omega (arith, (well_formed c.args.file.now c.in_ok-counts.ensures).few, l)

pub returns-in_err-check_buffer : goal.returns-in_err-check_buffer
returns-in_err-check_buffer c =
    refused_by_length _ _ _ (well_formed _ c.in_ok-counts.ensures) (passed_on c.from_residual-in_err-check_buffer.result c.from_residual-in_err-check_buffer.ensures.1)
    (ap (λ f. f or_else buffer_fault (2 * c.in_ok-counts.counts.plugs) (length c.args.plugs.now)) c.in_err-check_buffer.ensures)

pub overflow_mul-counts-2 : goal.overflow_mul-counts-2
overflow_mul-counts-2 c =
    let l : length c.args.file.now < 2 ^ 64 = omega (arith, c.well_formed) in
    omega (arith, (well_formed c.args.file.now c.in_ok-counts.ensures).few, l)

pub returns-in_err-check_buffer-2 : goal.returns-in_err-check_buffer-2
returns-in_err-check_buffer-2 c =
    refused_by_length _ _ _ (well_formed _ c.in_ok-counts.ensures) (passed_on c.from_residual-in_err-check_buffer-2.result c.from_residual-in_err-check_buffer-2.ensures.1)
    (in_turn c.in_ok-check_buffer.ensures c.in_err-check_buffer-2.ensures)

pub read_boxes-at-requires : goal.read_boxes-at-requires
read_boxes-at-requires c = box_room _ c.args.boxes.now c.args.plugs.now (well_formed _ c.in_ok-counts.ensures) c.in_ok-check_buffer.ensures

pub read_plugs-requires : goal.read_plugs-requires
read_plugs-requires c =
    plug_room _ c.args.boxes.now c.args.plugs.now (well_formed _ c.in_ok-counts.ensures) c.in_ok-check_buffer.ensures c.in_ok-check_buffer-2.ensures c.read_boxes-at.ensures

pub returns : goal.returns
returns c =
    was_read _ _ _ (well_formed _ c.in_ok-counts.ensures) c.in_ok-check_buffer.ensures c.in_ok-check_buffer-2.ensures c.read_boxes-at.ensures c.read_plugs.ensures
