-- `plug_words::holds` meets its contract: each test says that the point is not past one edge (proofs/Holding.antt). Assumes nothing.
use native.Mathlib.Omega.{arith}
use Rattle.integers.proofs.Tests.{ok}
use Rattle.plug_words.proofs.Holding.{held}
use Rattle.plug_words.proofs.holds.Goals as goal

pub returns : goal.returns
returns c =
    let b = c.args.b in
    let plug = c.args.plug in
    held (ok b.west (omega arith)) (ok b.south (omega arith)) (ok b.east (omega arith)) (ok b.north (omega arith)) (ok plug.east (omega arith)) (ok plug.north (omega arith))
