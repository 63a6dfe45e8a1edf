-- `file_records::write_plug` meets its contract: its numbers in their order are those of the record. Assumes nothing.
use mathlib.Core.Path.{◌∙◌, ap}
use mathlib.Core.List.{◌++◌, flat_map}
use Rattle.integers.proofs.Tests.{ok}
use Rattle.formats.specs.Format.{plug_mark, mark_bytes, four_bytes, number_bytes, plug_record}
use Rattle.file_records.specs.Records.{over}
use Rattle.file_records.proofs.Writer.{two_passed}
use Rattle.file_records.proofs.write_plug.Goals as goal

pub returns : goal.returns
unfolding flat_map mark_bytes number_bytes four_bytes plug_record
returns c =
    let plug = c.args.plug in
    c.write_record.ensures
    ∙ ap (λ numbers. over c.args.file.now c.args.at (mark_bytes plug_mark ++ flat_map number_bytes numbers))
    (two_passed (ok plug.east c.struct_told-1.given.0.1) (ok plug.north c.struct_told-1.given.1.0.1))
