-- `file_records::mark_at` meets its contract. Assumes nothing.
use native.Mathlib.Omega.{arith}
use Rattle.formats.specs.Format.{mark_at}
use Rattle.file_records.proofs.mark_at.Goals as goal

pub returns : goal.returns
unfolding mark_at
returns c = omega (arith, c.from_be_bytes.ensures)
