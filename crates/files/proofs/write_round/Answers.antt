-- `files::write_round` meets its contract: each return is a case of the promise, by what the checks said. Assumes nothing.
use mathlib.Core.Path.{◌≡◌, sym, ◌∙◌, ap}
use mathlib.Core.List.{List, flat_map}
use Prim.Native.Nat.{ℕ, ◌+◌, ◌*◌, ◌/◌}
use native.Mathlib.Omega.{arith}
use lib.IntN.{ℤ}
use lib.ListN.{length}
use Rattle.rounds.specs.Boxes.{boxes_of}
use Rattle.rounds.specs.Refusals.{◌or_else◌, plug_list_fault, buffer_fault}
use Rattle.rounds.proofs.Exits.{passed_on, in_turn}
use Rattle.formats.specs.Format.{mark_length, box_length, plug_length, box_record}
use Rattle.formats.specs.Promises.{byte_count}
use Rattle.file_records.specs.Records.{over}
use Rattle.files.proofs.Buffers.{fits_buffer}
use Rattle.files.proofs.Written.{refused_by_lists, refused_by_length, was_written}
use Rattle.files.proofs.write_round.Goals as goal

-- the number of boxes, and the byte count by it; the accepted list is the one that was lent
box_count : (boxes : List ℤ) {accepted : List ℤ} {n : ℕ} → accepted ≡ boxes → n ≡ length accepted / 4 → n ≡ length boxes / 4
box_count boxes s e = e ∙ ap (λ l. length l / 4) s

needed_is : (boxes plugs : List ℤ) {n : ℕ} → n ≡ length boxes / 4 → box_length * n + plug_length * (length plugs / 2) + mark_length ≡ byte_count boxes plugs
unfolding byte_count
needed_is boxes plugs e = omega (arith, e)

pub returns-in_err-accepted : goal.returns-in_err-accepted
returns-in_err-accepted c =
    refused_by_lists _ _ _ (passed_on c.from_residual.result c.from_residual.ensures.1)
    (ap (λ f. f or_else plug_list_fault c.args.plugs.now) c.in_err-accepted.ensures.fault)

pub returns-in_err-check_plugs : goal.returns-in_err-check_plugs
returns-in_err-check_plugs c =
    refused_by_lists _ _ _ (passed_on c.from_residual-in_err-check_plugs.result c.from_residual-in_err-check_plugs.ensures.1)
    (in_turn c.in_ok-accepted.ensures.fault c.in_err-check_plugs.ensures)

pub returns-in_err-check_buffer : goal.returns-in_err-check_buffer
returns-in_err-check_buffer c =
    let n = needed_is c.args.boxes.now c.args.plugs.now (box_count _ c.in_ok-accepted.ensures.same c.len-after_boxes.ensures) in
    refused_by_length _ _ _ (in_turn c.in_ok-accepted.ensures.fault c.in_ok-check_plugs.ensures)
    (passed_on c.from_residual-in_err-check_buffer.result c.from_residual-in_err-check_buffer.ensures.1)
    (c.in_err-check_buffer.ensures ∙ ap (λ m. buffer_fault m (length c.args.file.now)) n)

pub write_boxes-requires : goal.write_boxes-requires
write_boxes-requires c = omega (arith, c.len-after_boxes.ensures, fits_buffer _ _ (sym c.in_ok-check_buffer.ensures))

pub write_plugs-requires : goal.write_plugs-requires
write_plugs-requires c = omega (arith, fits_buffer _ _ (sym c.in_ok-check_buffer.ensures))

pub write_mark-requires : goal.write_mark-requires
write_mark-requires c = omega (arith, fits_buffer _ _ (sym c.in_ok-check_buffer.ensures))

pub returns : goal.returns
returns c =
    let boxes = c.args.boxes.now in
    let plugs = c.args.plugs.now in
    let file = c.args.file.now in
    let same = c.in_ok-accepted.ensures.same in
    let n = box_count boxes same c.len-after_boxes.ensures in
    let all = needed_is boxes plugs n in
    let g = c.in_ok-check_buffer.ensures ∙ ap (λ m. buffer_fault m (length file)) all in
    let e = c.write_boxes.ensures ∙ ap (λ l. over file 0 (flat_map box_record (boxes_of l))) same in
    was_written boxes plugs file (fits_buffer _ _ (sym g)) e (omega (arith, n)) c.write_plugs.ensures (omega (arith, n)) c.write_mark.ensures all
    (in_turn c.in_ok-accepted.ensures.fault c.in_ok-check_plugs.ensures) g
