-- `turns::east_between` meets its contract: a difference of coordinates is at most 32,000 in size, and fits. Assumes nothing.
use mir.Syntax.{w32}
use mir.Val.{to_z, of_z}
use Rattle.integers.proofs.Machine.{Got, ask_sub, got_sub}
use Rattle.turns.specs.Keys.{point_of}
use Rattle.turns.proofs.Coordinates.{key_in_span}
use Rattle.turns.proofs.Bounds.{small}
use Rattle.turns.proofs.east_between.Goals as goal

module _ (c : goal.After-east-2) where
  of-b : Got w32 16000 (to_z w32 (of_z w32 c.before.east.result)) (point_of c.before.before.args.b).east
  of-b = small tt c.before.east.ensures.value (key_in_span c.before.east.ensures.key).easts

  of-a : Got w32 16000 (to_z w32 (of_z w32 c.east-2.result)) (point_of c.before.before.args.a).east
  of-a = small tt c.east-2.ensures.value (key_in_span c.east-2.ensures.key).easts

pub overflow_sub-result : goal.overflow_sub-result
overflow_sub-result c = ask_sub (of-b c) (of-a c) tt

pub returns : goal.returns
returns c = record { value = (got_sub (of-b c) (of-a c) tt).eq; keys = (c.east-2.ensures.key, c.before.east.ensures.key) }
