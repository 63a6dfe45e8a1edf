-- `corner_lists::put_corner_keys` meets its contract. The invariant: the first k keys are those of the corner of the first k boxes. Assumes nothing.
use Rattle.rounds.specs.Boxes.{boxes_of, corners_of}
use Rattle.corner_lists.proofs.Filling.{Filled}
use Rattle.corner_lists.proofs.put_corner_keys.Given as goal

abbrev pub invariant-loop-k : goal.invariant-loop-k
invariant-loop-k l = Filled (corners_of l.corner (boxes_of l.boxes.numbers.now)) l.key-items l.k
