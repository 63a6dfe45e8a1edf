-- `file_passes::read_plugs` meets its contract. The invariant: the first k of the plugs are in the buffer, and the rest are those of what stands from
-- `at` on, which has no fault. The measure: what is left of the file. Assumes nothing.
use Prim.Native.Nat.{◌+◌, ◌-◌, ◌*◌, ◌≤◌}
use native.Mathlib.Omega.{arith}
use lib.ListN.{length, drop, length-take}
use Rattle.file_records.proofs.Over.{wrote_length}
use Rattle.file_records.proofs.Writer.{part_put, coordinates_are}
use Rattle.file_records.proofs.Records.{found, not_found, next_is}
use Rattle.file_passes.proofs.Plugs.{plugs_start, plugs_plug, plugs_note, plugs_box, no_end, no_fault, plugs_all}
use Rattle.file_passes.proofs.read_plugs.Goals as goal

pub loop-k-init : goal.loop-k-init
loop-k-init c = (c.requires.within, omega arith, plugs_start c.requires)

pub put_numbers-requires : goal.put_numbers-requires
put_numbers-requires c =
    let l = length-take (c.loop-k.k * 2 + 2 - c.loop-k.k * 2) (drop (c.loop-k.k * 2) c.loop-k.plugs) in
    omega (arith, l, next_is (found c.in-Ok-Plug.ensures c.in-Ok-Plug.field-0-is))

pub loop-k-smaller-in-Ok-Plug : goal.loop-k-smaller-in-Ok-Plug
loop-k-smaller-in-Ok-Plug c = omega (arith, next_is (found c.in-Ok-Plug.ensures c.in-Ok-Plug.field-0-is))

pub loop-k-preserved-in-Ok-Plug : goal.loop-k-preserved-in-Ok-Plug
loop-k-preserved-in-Ok-Plug c =
    let l = c.loop-k in
    let plug = found c.in-Ok-Plug.ensures c.in-Ok-Plug.field-0-is in
    let room : l.k * 2 + 2 ≤ length l.plugs = omega (arith, c.requires.for_plugs, c.loop-k-test.true, wrote_length l.invariant.2.wrote) in
    let put = part_put _ _ l.plugs (l.k * 2) 2 room (coordinates_are _ _) c.put_numbers.ensures in
    ((next_is plug).1, omega (arith, c.loop-k-test.true), plugs_plug c.requires l.invariant.2 c.loop-k-test.true plug put)

pub loop-k-smaller-in-Ok-Note : goal.loop-k-smaller-in-Ok-Note
loop-k-smaller-in-Ok-Note c = omega (arith, next_is (found c.in-Ok-Note.ensures c.in-Ok-Note.field-0-is))

pub loop-k-preserved-in-Ok-Note : goal.loop-k-preserved-in-Ok-Note
loop-k-preserved-in-Ok-Note c =
    let note = found c.in-Ok-Note.ensures c.in-Ok-Note.field-0-is in
    ((next_is note).1, c.loop-k.invariant.1, plugs_note c.requires c.loop-k.invariant.2 note)

pub loop-k-smaller : goal.loop-k-smaller
loop-k-smaller c = omega (arith, next_is (found c.in-Ok-Box.ensures c.in-Ok-Box.field-0-is))

pub loop-k-preserved : goal.loop-k-preserved
loop-k-preserved c =
    let box = found c.in-Ok-Box.ensures c.in-Ok-Box.field-0-is in
    ((next_is box).1, c.loop-k.invariant.1, plugs_box c.requires c.loop-k.invariant.2 box)

pub returns-in-Ok-End : goal.returns-in-Ok-End
returns-in-Ok-End c =
    no_end c.requires c.loop-k.invariant.2 c.loop-k-test.true (found c.in-Ok-End.ensures c.in-Ok-End.field-0-is)

pub returns-in-Err : goal.returns-in-Err
returns-in-Err c =
    no_fault c.requires c.loop-k.invariant.2 (not_found c.in-Err.ensures)

pub returns : goal.returns
returns c =
    let l = c.loop-k in
    plugs_all c.requires l.invariant.2 l.invariant.0 (omega (arith, l.invariant.1, c.loop-k-test.false))
