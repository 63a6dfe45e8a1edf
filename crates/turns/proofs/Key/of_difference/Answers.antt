-- `turns::Key::of_difference` meets its contract. Assumes nothing.
use mathlib.Core.Path.{sym, subst}
use native.Mathlib.Omega.{arith}
use Rattle.turns.specs.Keys.{IsKey}
use Rattle.turns.proofs.Sums.{difference_parts, difference_key}
use Rattle.turns.proofs.Key.of_difference.Goals as goal

pub overflow_sub-result : goal.overflow_sub-result
overflow_sub-result c = let k = c.requires in omega (arith, difference_parts k.1 k.2, k.1.east_in)

pub invariant_of-result : goal.invariant_of-result
invariant_of-result c = let k = c.requires in subst IsKey (sym (difference_key k.1 k.2)) k.1

pub returns : goal.returns
returns c = λ k h e. difference_key h e
