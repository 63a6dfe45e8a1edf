-- `file_records::put_numbers` meets its contract. The invariant: the first k numbers stand over the front of the buffer. Assumes nothing.
use mathlib.Core.Path.{◌∙◌}
use native.Mathlib.Omega.{arith}
use mir.Syntax.{w32}
use mir.ValLaws.{to_z-of_z}
use Rattle.integers.proofs.Tests.{ok}
use Rattle.file_records.proofs.Writer.{number_put, numbers_put}
use Rattle.file_records.proofs.put_numbers.Goals as goal

pub loop-k-preserved : goal.loop-k-preserved
loop-k-preserved c =
    number_put c.args.file.now c.args.from c.loop-k.k c.loop-k.invariant (to_z-of_z w32 c.number_at.result (ok _ c.number_at.type_inv) ∙ c.number_at.ensures) (omega arith)

pub returns : goal.returns
returns c = numbers_put c.args.file.now c.args.from c.loop-k.k c.loop-k.invariant (omega arith)
