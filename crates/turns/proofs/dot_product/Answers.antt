-- `turns::dot_product` meets its contract. A product of two differences is at most 1,024,000,000 in size, and the sum of two products at most
-- 2,048,000,000: all fit 32 bits. Assumes nothing.
use lib.IntN.{◌-ℤ◌}
use mir.Syntax.{w32}
use mir.Val.{to_z, of_z}
use Rattle.integers.proofs.Machine.{Got, ask_mul, got_mul, ask_add, got_add}
use Rattle.turns.specs.Keys.{point_of}
use Rattle.turns.proofs.Coordinates.{easts_upto, norths_upto}
use Rattle.turns.proofs.Bounds.{small}
use Rattle.turns.proofs.dot_product.Goals as goal
use Rattle.turns.proofs.dot_product.Goals.{After-north_between-cn, Start}

-- the four differences, once all are made
module _ (c : After-north_between-cn) where
  abbrev start : Start
  start = c.before.before.before.before

  be : Got w32 32000 (to_z w32 (of_z w32 c.before.before.before.east_between-be.result)) ((point_of start.args.b).east -ℤ (point_of start.args.a).east)
  be = small tt c.before.before.before.east_between-be.ensures.value (easts_upto c.before.before.before.east_between-be.ensures.keys.0 c.before.before.before.east_between-be.ensures.keys.1)

  bn : Got w32 32000 (to_z w32 (of_z w32 c.before.before.north_between-bn.result)) ((point_of start.args.b).north -ℤ (point_of start.args.a).north)
  bn = small tt c.before.before.north_between-bn.ensures.value (norths_upto c.before.before.north_between-bn.ensures.keys.0 c.before.before.north_between-bn.ensures.keys.1)

  ce : Got w32 32000 (to_z w32 (of_z w32 c.before.east_between-ce.result)) ((point_of start.args.c).east -ℤ (point_of start.args.a).east)
  ce = small tt c.before.east_between-ce.ensures.value (easts_upto c.before.east_between-ce.ensures.keys.0 c.before.east_between-ce.ensures.keys.1)

  cn : Got w32 32000 (to_z w32 (of_z w32 c.north_between-cn.result)) ((point_of start.args.c).north -ℤ (point_of start.args.a).north)
  cn = small tt c.north_between-cn.ensures.value (norths_upto c.north_between-cn.ensures.keys.0 c.north_between-cn.ensures.keys.1)

pub overflow_mul-result : goal.overflow_mul-result
overflow_mul-result c = ask_mul (be c) (ce c) tt

pub overflow_mul-result-2 : goal.overflow_mul-result-2
overflow_mul-result-2 c = ask_mul (bn c) (cn c) tt

pub overflow_add-result : goal.overflow_add-result
overflow_add-result c = ask_add (got_mul (be c) (ce c) tt) (got_mul (bn c) (cn c) tt) tt

pub returns : goal.returns
returns c =
    record {
      value = (got_add (got_mul (be c) (ce c) tt) (got_mul (bn c) (cn c) tt) tt).eq;
      keys = (c.north_between-cn.ensures.keys.0, c.before.before.north_between-bn.ensures.keys.1, c.north_between-cn.ensures.keys.1);
    }
