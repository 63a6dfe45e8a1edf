-- `files::write_boxes` meets its contract. The invariant: the boxes before k are written, and the rest are those from k on. Assumes nothing.
use mathlib.Core.List.{flat_map}
use Prim.Native.Nat.{◌*◌}
use Rattle.rounds.specs.Boxes.{boxes_of}
use Rattle.formats.specs.Format.{box_length, box_record}
use Rattle.file_records.proofs.Over.{Sofar}
use Rattle.file_records.proofs.Writer.{box_records}
use Rattle.files.proofs.write_boxes.Given as goal

abbrev pub invariant-loop-k : goal.invariant-loop-k
invariant-loop-k l =
    Sofar l.initial.file 0 (flat_map box_record (boxes_of l.boxes.numbers.now)) (box_records l.boxes.numbers.now (l.k * 4)) (l.k * box_length) l.file
