-- `lines::side_of` meets its contract. Assumes nothing.
use mathlib.Core.Path.{◌∙◌}
use Rattle.integers.proofs.Machine.{ask_sub, got_sub, ask_mul, got_mul}
use Rattle.lines.proofs.Reading.{part, east, north, offset, same_area}
use Rattle.lines.proofs.side_of.Goals as goal

pub overflow_mul-result : goal.overflow_mul-result
overflow_mul-result c = ask_mul (east c.requires) (part c.from.ensures c.north_part.ensures.value c.north_part.ensures.key.north_in) tt

pub overflow_mul-result-2 : goal.overflow_mul-result-2
overflow_mul-result-2 c = ask_mul (north c.requires) (part c.from-2.ensures c.east_part.ensures.value c.east_part.ensures.key.east_in) tt

pub overflow_sub-result : goal.overflow_sub-result
overflow_sub-result c =
    let x = part c.from-2.ensures c.east_part.ensures.value c.east_part.ensures.key.east_in in
    let y = part c.from.ensures c.north_part.ensures.value c.north_part.ensures.key.north_in in
    ask_sub (got_mul (east c.requires) y tt) (got_mul (north c.requires) x tt) tt

pub overflow_sub-result-2 : goal.overflow_sub-result-2
overflow_sub-result-2 c =
    let x = part c.from-2.ensures c.east_part.ensures.value c.east_part.ensures.key.east_in in
    let y = part c.from.ensures c.north_part.ensures.value c.north_part.ensures.key.north_in in
    ask_sub (got_sub (got_mul (east c.requires) y tt) (got_mul (north c.requires) x tt) tt) (offset c.requires) tt

pub returns-clause-value : goal.returns-clause-value
returns-clause-value c =
    let l = c.requires in
    let x = part c.from-2.ensures c.east_part.ensures.value c.east_part.ensures.key.east_in in
    let y = part c.from.ensures c.north_part.ensures.value c.north_part.ensures.key.north_in in
    let side = got_sub (got_sub (got_mul (east l) y tt) (got_mul (north l) x tt) tt) (offset l) tt in
    record { area = λ a b h. side.eq ∙ same_area l a b c.args.k h }
