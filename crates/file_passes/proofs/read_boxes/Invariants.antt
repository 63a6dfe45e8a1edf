-- `file_passes::read_boxes` meets its contract. The invariant: of the boxes of the file so many numbers are in the buffer, and the rest are those of
-- what stands from `at` on, which has no fault. The measure: what is left of the file. Assumes nothing.
use mathlib.Core.Bool.{false}
use Prim.Native.Nat.{◌-◌, ◌≤◌}
use lib.ListN.{length}
use Rattle.formats.proofs.Scan.{scan}
use Rattle.file_passes.proofs.Boxes.{BoxesSofar}
use Rattle.file_passes.proofs.read_boxes.Given as goal

abbrev pub invariant-loop-next : goal.invariant-loop-next
invariant-loop-next l = (l.at ≤ length l.file) × BoxesSofar l.file l.initial.boxes (scan l.file l.at false) l.edge l.boxes

abbrev pub decreases-loop-next : goal.decreases-loop-next
decreases-loop-next l = length l.file - l.at
