-- `turns::Key::new` meets its contract: each coordinate, moved by 16,000, is a natural number at most 32,000. Assumes nothing.
use native.Mathlib.Omega.{arith}
use Rattle.turns.proofs.Coordinates.{moved, moved_fits, key_made}
use Rattle.turns.proofs.Key.new.Goals as goal

pub overflow_add-e : goal.overflow_add-e
overflow_add-e c = moved_fits c.requires.easts

pub overflow_cast-e : goal.overflow_cast-e
overflow_cast-e c = ((moved c.requires.easts).not_neg, omega (arith, (moved c.requires.easts).most))

pub overflow_add-n : goal.overflow_add-n
overflow_add-n c = moved_fits c.requires.norths

pub overflow_cast-n : goal.overflow_cast-n
overflow_cast-n c = ((moved c.requires.norths).not_neg, omega (arith, (moved c.requires.norths).most))

pub overflow_mul-result : goal.overflow_mul-result
overflow_mul-result c = omega (arith, (moved c.requires.easts).most)

pub overflow_add-result : goal.overflow_add-result
overflow_add-result c = omega (arith, (moved c.requires.easts).most, (moved c.requires.norths).most)

pub invariant_of-result : goal.invariant_of-result
invariant_of-result c = (key_made (moved c.requires.easts) (moved c.requires.norths)).key

pub returns : goal.returns
returns c = key_made (moved c.requires.easts) (moved c.requires.norths)
