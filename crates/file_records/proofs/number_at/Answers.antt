-- `file_records::number_at` meets its contract. Assumes nothing.
use mathlib.Core.Path.{◌∙◌}
use mir.Syntax.{w32}
use mir.ValLaws.{to_z-of_z}
use Rattle.integers.proofs.Tests.{ok}
use Rattle.formats.specs.Format.{number_at}
use Rattle.file_records.proofs.number_at.Goals as goal

pub returns : goal.returns
unfolding number_at
returns c = to_z-of_z w32 c.from_be_bytes.result (ok _ c.from_be_bytes.type_inv) ∙ c.from_be_bytes.ensures
