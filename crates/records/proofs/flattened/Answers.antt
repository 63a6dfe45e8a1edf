-- `records::flattened` meets its contract: each turn copies one record more (proofs/Copying.antt). Assumes nothing.
use mathlib.Core.Path.{sym, subst}
use Prim.Native.Nat.{◌+◌}
use native.Mathlib.Omega.{arith}
use Rattle.records.proofs.Copying.{Copied, goes_on}
use Rattle.records.proofs.flattened.Goals as goal

pub loop-i-preserved : goal.loop-i-preserved
loop-i-preserved c =
    subst (Copied c.args.boxes.now (c.loop-i.i + 1)) (sym c.copy_box.ensures)
    (goes_on c.args.boxes.now c.loop-i.i c.loop-i.flat c.loop-i.invariant (omega arith) (omega arith))
