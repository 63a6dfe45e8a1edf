-- `files::write_boxes` meets its contract. The invariant: the boxes before k are written, and the rest are those from k on. Assumes nothing.
use mathlib.Core.Path.{◌∙◌, ap}
use Prim.Native.Nat.{◌*◌}
use native.Mathlib.Omega.{arith}
use Rattle.formats.specs.Format.{box_length, box_record}
use Rattle.file_records.specs.Records.{over}
use Rattle.file_records.proofs.Over.{sofar_all}
use Rattle.file_records.proofs.Writer.{no_box_lem, box_encoding, row_turn}
use Rattle.files.proofs.write_boxes.Goals as goal

pub loop-k-preserved : goal.loop-k-preserved
loop-k-preserved c =
    let written = c.write_box.ensures ∙ ap (λ b. over c.loop-k.file (c.loop-k.k * box_length) (box_record b)) c.at.ensures in
    row_turn box_encoding c.args.boxes.numbers.now c.loop-k.k c.loop-k.invariant (omega arith) (omega arith) (omega arith) written

pub returns : goal.returns
returns c = sofar_all c.loop-k.invariant (no_box_lem c.args.boxes.numbers.now (c.loop-k.k * 4) (omega arith))
