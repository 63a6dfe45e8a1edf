-- `turns::all_keys` meets its contract. Assumes nothing.
use native.Mathlib.Omega.{arith}
use Rattle.plane.proofs.Lists.{all_by_index}
use Rattle.turns.proofs.all_keys.Goals as goal

pub returns : goal.returns
returns c = all_by_index 0 _ (λ i h. c.loop-key.invariant i (omega (arith, h, c.loop-key-test.false)))
