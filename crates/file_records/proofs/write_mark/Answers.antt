-- `file_records::write_mark` meets its contract. Assumes nothing.
use mathlib.Core.Path.{refl, ◌∙◌}
use native.Mathlib.Omega.{arith}
use Rattle.formats.specs.Format.{mark_bytes}
use Rattle.file_records.proofs.Numbers.{mark_same, part_over}
use Rattle.file_records.proofs.write_mark.Goals as goal

pub returns : goal.returns
unfolding mark_bytes
returns c =
    let a = c.args in
    part_over a.file.now a.at 2 (c.copy_from_slice.ensures.after ∙ c.to_be_bytes.ensures ∙ mark_same a.mark (omega arith)) refl
