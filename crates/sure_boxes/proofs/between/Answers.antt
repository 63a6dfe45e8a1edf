-- `sure_boxes::between` meets its contract: the coordinates of keys are in the span, and so are their greatest and least. Assumes nothing.
use Rattle.sure_boxes.proofs.Metres.{past, short_of, east_in_span, north_in_span}
use Rattle.sure_boxes.proofs.between.Goals as goal

pub overflow_add-result : goal.overflow_add-result
overflow_add-result c = past c.max.ensures.value (east_in_span c.east.ensures.key c.east.ensures.value) (east_in_span c.east-2.ensures.key c.east-2.ensures.value)

pub overflow_add-result-2 : goal.overflow_add-result-2
overflow_add-result-2 c = past c.max-2.ensures.value (north_in_span c.north.ensures.key c.north.ensures.value) (north_in_span c.north-2.ensures.key c.north-2.ensures.value)

pub overflow_sub-result : goal.overflow_sub-result
overflow_sub-result c = short_of c.min.ensures.value (east_in_span c.east-3.ensures.key c.east-3.ensures.value) (east_in_span c.east-4.ensures.key c.east-4.ensures.value)

pub overflow_sub-result-2 : goal.overflow_sub-result-2
overflow_sub-result-2 c = short_of c.min-2.ensures.value (north_in_span c.north-3.ensures.key c.north-3.ensures.value) (north_in_span c.north-4.ensures.key c.north-4.ensures.value)
