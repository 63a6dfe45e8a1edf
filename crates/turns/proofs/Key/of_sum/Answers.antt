-- `turns::Key::of_sum` meets its contract. Assumes nothing.
use mathlib.Core.Path.{sym, subst}
use native.Mathlib.Omega.{arith}
use Rattle.turns.specs.Keys.{IsKey}
use Rattle.turns.proofs.Sums.{sum_parts, sum_key}
use Rattle.turns.proofs.Key.of_sum.Goals as goal

pub overflow_sub-result : goal.overflow_sub-result
overflow_sub-result c = let k = c.requires in omega (arith, sum_parts k.1 k.2)

pub invariant_of-result : goal.invariant_of-result
invariant_of-result c = let k = c.requires in subst IsKey (sym (sum_key k.1 k.2)) k.1

pub returns : goal.returns
returns c = λ k h e. sum_key h e
