-- `turns::north_between` meets its contract: a difference of coordinates is at most 32,000 in size, and fits. Assumes nothing.
use mir.Syntax.{w32}
use mir.Val.{to_z, of_z}
use Rattle.integers.proofs.Machine.{Got, ask_sub, got_sub}
use Rattle.turns.specs.Keys.{point_of}
use Rattle.turns.proofs.Coordinates.{key_in_span}
use Rattle.turns.proofs.Bounds.{small}
use Rattle.turns.proofs.north_between.Goals as goal

module _ (c : goal.After-north-2) where
  of-b : Got w32 16000 (to_z w32 (of_z w32 c.before.north.result)) (point_of c.before.before.args.b).north
  of-b = small tt c.before.north.ensures.value (key_in_span c.before.north.ensures.key).norths

  of-a : Got w32 16000 (to_z w32 (of_z w32 c.north-2.result)) (point_of c.before.before.args.a).north
  of-a = small tt c.north-2.ensures.value (key_in_span c.north-2.ensures.key).norths

pub overflow_sub-result : goal.overflow_sub-result
overflow_sub-result c = ask_sub (of-b c) (of-a c) tt

pub returns : goal.returns
returns c = record { value = (got_sub (of-b c) (of-a c) tt).eq; keys = (c.north-2.ensures.key, c.before.north.ensures.key) }
