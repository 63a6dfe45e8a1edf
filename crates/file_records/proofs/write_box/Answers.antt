-- `file_records::write_box` meets its contract: its numbers in their order are those of the record. Assumes nothing.
use mathlib.Core.Path.{◌∙◌, ap}
use mathlib.Core.List.{◌++◌, flat_map}
use Rattle.integers.proofs.Tests.{ok}
use Rattle.formats.specs.Format.{box_mark, mark_bytes, four_bytes, number_bytes, box_record}
use Rattle.file_records.specs.Records.{over}
use Rattle.file_records.proofs.Writer.{four_passed}
use Rattle.file_records.proofs.write_box.Goals as goal

pub returns : goal.returns
unfolding flat_map mark_bytes number_bytes four_bytes box_record
returns c =
    let b = c.args.b in
    c.write_record.ensures
    ∙ ap (λ numbers. over c.args.file.now c.args.at (mark_bytes box_mark ++ flat_map number_bytes numbers))
    (four_passed (ok b.west c.struct_told-1.given.0.1) (ok b.south c.struct_told-1.given.1.0.1) (ok b.east c.struct_told-1.given.1.1.0.1) (ok b.north c.struct_told-1.given.1.1.1.0.1))
