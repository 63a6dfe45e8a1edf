-- `bounds::is_reversed` meets its contract: both tests, joined. Assumes nothing.
use mir.Syntax.{w32}
use mathlib.Core.Path.{ap₂}
use mathlib.Core.Bool.{◌||◌}
use Rattle.integers.proofs.Tests.{ltz, ok}
use Rattle.rounds.specs.Refusals.{edges_reversed}
use Rattle.bounds.proofs.is_reversed.Goals as goal

pub returns : goal.returns
unfolding edges_reversed
returns c =
    let g = c.struct_told-2-1.given in
    let b = c.args.b in
    ap₂ ◌||◌ (ltz {w = w32} (ok b.east g.1.1.0.1) (ok b.west g.0.1)) (ltz {w = w32} (ok b.north g.1.1.1.0.1) (ok b.south g.1.0.1))
