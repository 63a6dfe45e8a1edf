-- `file_records::write_number` meets its contract. Assumes nothing.
use mathlib.Core.Path.{refl, ◌∙◌}
use Rattle.formats.specs.Format.{four_bytes, number_bytes}
use Rattle.file_records.proofs.Numbers.{number_same, part_over}
use Rattle.file_records.proofs.write_number.Goals as goal

pub returns : goal.returns
unfolding four_bytes number_bytes
returns c = let a = c.args in part_over a.file.now a.at 4 (c.copy_from_slice.ensures.after ∙ c.to_be_bytes.ensures ∙ number_same a.number c.ranges.number) refl
