-- `extremes::find_far` meets its contract. Assumes nothing.
use Rattle.std.proofs.Common.{◌<◌, length, arith}
use Rattle.turns.specs.Sums.{sum_of, difference_of}
use Rattle.extremes.proofs.Dropping.{lesser, greater, taken, CodeIn}
use Rattle.extremes.proofs.find_far.Goals as goal

pub loop-i-preserved : goal.loop-i-preserved
loop-i-preserved c =
    let l = c.args.keys.codes.now in
    let i = c.loop-i.i in
    let far = c.loop-i.invariant in
    let o : i < length l = omega arith in
    let read = c.at-key.ensures in
    let sum : CodeIn sum_of l c.sum-sum.result = record { index = i; in_list = o; key = rw read at c.sum-sum.ensures.key; value = rw read at c.sum-sum.ensures.value } in
    let difference : CodeIn difference_of l c.difference-difference.result =
    record { index = i; in_list = o; key = rw read at c.difference-difference.ensures.key; value = rw read at c.difference-difference.ensures.value } in
    record {
      north_east = taken (CodeIn sum_of l) far.north_east sum (greater c.max-ne.ensures).either;
      north_west = taken (CodeIn difference_of l) far.north_west difference (greater c.max-nw.ensures).either;
      south_west = taken (CodeIn sum_of l) far.south_west sum (lesser c.min-sw.ensures).either;
      south_east = taken (CodeIn difference_of l) far.south_east difference (lesser c.min-se.ensures).either;
    }
