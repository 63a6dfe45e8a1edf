-- `lines::line_through` meets its contract. Assumes nothing.
use Rattle.integers.proofs.Machine.{ask_sub, got_sub, got_mul}
use Rattle.lines.proofs.Reading.{wide_easts, wide_norths, part}
use Rattle.lines.proofs.line_through.Goals as goal

pub overflow_sub-offset : goal.overflow_sub-offset
overflow_sub-offset c =
    let east = wide_easts c.east_between.ensures.keys.0 c.east_between.ensures.keys.1 c.from-east.ensures c.east_between.ensures.value in
    let north = wide_norths c.north_between.ensures.keys.0 c.north_between.ensures.keys.1 c.from-north.ensures c.north_between.ensures.value in
    ask_sub (got_mul east (part c.from.ensures c.north_part.ensures.value c.north_part.ensures.key.north_in) tt) (got_mul north (part c.from-2.ensures c.east_part.ensures.value c.east_part.ensures.key.east_in) tt) tt

pub returns-clause-value : goal.returns-clause-value
returns-clause-value c =
    let east = wide_easts c.east_between.ensures.keys.0 c.east_between.ensures.keys.1 c.from-east.ensures c.east_between.ensures.value in
    let north = wide_norths c.north_between.ensures.keys.0 c.north_between.ensures.keys.1 c.from-north.ensures c.north_between.ensures.value in
    record {
      east = east.eq;
      north = north.eq;
      offset = (got_sub (got_mul east (part c.from.ensures c.north_part.ensures.value c.north_part.ensures.key.north_in) tt) (got_mul north (part c.from-2.ensures c.east_part.ensures.value c.east_part.ensures.key.east_in) tt) tt).eq;
    }
