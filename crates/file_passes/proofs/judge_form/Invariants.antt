-- `file_passes::judge_form` meets its contract. The invariant: the fault and the counts of the file are those of what stands from `at` on, after the
-- boxes and plugs counted. The measure: what is left of the file. Assumes nothing.
use Prim.Native.Nat.{◌-◌, ◌≤◌}
use lib.Dec.{ltb}
use lib.ListN.{length}
use Rattle.formats.proofs.Scan.{scan}
use Rattle.file_passes.proofs.Judging.{Judged}
use Rattle.file_passes.proofs.judge_form.Given as goal

abbrev pub invariant-loop-next : goal.invariant-loop-next
invariant-loop-next l = (l.at ≤ length l.file) × Judged l.file l.counts.boxes l.counts.plugs (scan l.file l.at (ltb 0 l.counts.plugs))

abbrev pub decreases-loop-next : goal.decreases-loop-next
decreases-loop-next l = length l.file - l.at
