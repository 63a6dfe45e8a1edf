-- `box_checks::check_boxes` meets its contract. The invariant: the fault is that of the boxes from k on. Assumes nothing.
use mathlib.Core.Path.{◌≡◌}
use Prim.Native.Nat.{◌+◌, ◌*◌}
use lib.ListN.{drop}
use Rattle.rounds.specs.Boxes.{boxes_of}
use Rattle.rounds.specs.Refusals.{each_box_fault, box_list_fault}
use Rattle.box_checks.proofs.check_boxes.Given as goal

abbrev pub invariant-loop-k : goal.invariant-loop-k
invariant-loop-k l = box_list_fault l.numbers ≡ each_box_fault (l.k + 1) (boxes_of (drop (l.k * 4) l.numbers))
