-- `outlines::append_outline` meets its contract: what is written into the part that is lent on stands behind the first keys. Assumes nothing.
use native.Mathlib.Omega.{arith}
use Rattle.outlines.proofs.Rounds.{behind}
use Rattle.outlines.proofs.append_outline.Goals as goal

pub returns : goal.returns
returns c =
    behind _ c.args.from c.args.vertices.now c.corner_outline.new.vertices c.corner_outline.result (omega arith) c.corner_outline.ensures
