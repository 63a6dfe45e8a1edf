-- `file_passes::read_boxes` meets its contract. The invariant: of the boxes of the file so many numbers are in the buffer, and the rest are those of
-- what stands from `at` on, which has no fault. The measure: what is left of the file. Assumes nothing.
use Prim.Native.Nat.{◌+◌, ◌-◌, ◌≤◌}
use native.Mathlib.Omega.{arith}
use lib.ListN.{length, drop, length-take}
use Rattle.file_records.proofs.Writer.{part_put, edges_are}
use Rattle.file_records.proofs.Records.{found, not_found, next_is}
use Rattle.file_passes.proofs.Boxes.{boxes_start, room_for_box, boxes_box, boxes_note, boxes_stop, no_fault}
use Rattle.file_passes.proofs.read_boxes.Goals as goal

pub loop-next-init : goal.loop-next-init
loop-next-init c = (omega arith, boxes_start _ _ c.requires)

pub slice_bounds-put_numbers-end : goal.slice_bounds-put_numbers-end
slice_bounds-put_numbers-end c = omega (arith, room_for_box c.requires c.loop-next.invariant.1 (found c.in-Ok-Box.ensures c.in-Ok-Box.field-0-is))

pub put_numbers-requires : goal.put_numbers-requires
put_numbers-requires c =
    let l = length-take (c.loop-next.edge + 4 - c.loop-next.edge) (drop c.loop-next.edge c.loop-next.boxes) in
    omega (arith, l, next_is (found c.in-Ok-Box.ensures c.in-Ok-Box.field-0-is))

pub loop-next-smaller-in-Ok-Box : goal.loop-next-smaller-in-Ok-Box
loop-next-smaller-in-Ok-Box c = omega (arith, next_is (found c.in-Ok-Box.ensures c.in-Ok-Box.field-0-is))

pub loop-next-preserved-in-Ok-Box : goal.loop-next-preserved-in-Ok-Box
loop-next-preserved-in-Ok-Box c =
    let l = c.loop-next in
    let box = found c.in-Ok-Box.ensures c.in-Ok-Box.field-0-is in
    let room : l.edge + 4 ≤ length l.boxes = omega (arith, room_for_box c.requires l.invariant.1 box) in
    let put = part_put _ _ l.boxes l.edge 4 room (edges_are _ _) c.put_numbers.ensures in
    ((next_is box).1, boxes_box c.requires l.invariant.1 box put)

pub loop-next-smaller : goal.loop-next-smaller
loop-next-smaller c = omega (arith, next_is (found c.in-Ok-Note.ensures c.in-Ok-Note.field-0-is))

pub loop-next-preserved : goal.loop-next-preserved
loop-next-preserved c =
    let note = found c.in-Ok-Note.ensures c.in-Ok-Note.field-0-is in
    ((next_is note).1, boxes_note c.requires c.loop-next.invariant.1 note)

pub returns-in-Ok-Plug : goal.returns-in-Ok-Plug
returns-in-Ok-Plug c =
    boxes_stop c.requires c.loop-next.invariant.1 _ tt c.loop-next.invariant.0 (found c.in-Ok-Plug.ensures c.in-Ok-Plug.field-0-is)

pub returns-in-Ok-End : goal.returns-in-Ok-End
returns-in-Ok-End c =
    boxes_stop c.requires c.loop-next.invariant.1 _ tt c.loop-next.invariant.0 (found c.in-Ok-End.ensures c.in-Ok-End.field-0-is)

pub returns-in-Err : goal.returns-in-Err
returns-in-Err c =
    no_fault c.requires c.loop-next.invariant.1 (not_found c.in-Err.ensures)
