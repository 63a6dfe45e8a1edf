-- `turns::Key::reflected` meets its contract. Assumes nothing.
use mathlib.Core.Path.{ap, subst}
use native.Mathlib.Omega.{arith}
use Rattle.turns.specs.Keys.{IsKey}
use Rattle.turns.specs.Reflection.{reflected}
use Rattle.turns.proofs.Parts.{key_most}
use Rattle.turns.proofs.Reflection.{reflected_key}
use Rattle.turns.proofs.Key.reflected.Goals as goal

pub overflow_sub-result : goal.overflow_sub-result
overflow_sub-result c = omega (arith, key_most c.self.invariant)

pub invariant_of-result : goal.invariant_of-result
unfolding reflected
invariant_of-result c = reflected_key c.self.invariant

pub returns-clause-value : goal.returns-clause-value
unfolding reflected
returns-clause-value c = ap reflected c.self.view_is

pub returns-clause-key : goal.returns-clause-key
returns-clause-key c = subst IsKey c.self.view_is c.self.invariant
