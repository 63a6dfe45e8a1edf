-- `file_passes::read_plugs` meets its contract. The invariant: the first k of the plugs are in the buffer, and the rest are those of what stands from
-- `at` on, which has no fault. The measure: what is left of the file. Assumes nothing.
use mathlib.Core.Bool.{true}
use Prim.Native.Nat.{◌-◌, ◌≤◌}
use lib.ListN.{length}
use Rattle.formats.proofs.Scan.{scan}
use Rattle.file_passes.proofs.Plugs.{PlugsSofar}
use Rattle.file_passes.proofs.read_plugs.Given as goal

abbrev pub invariant-loop-k : goal.invariant-loop-k
invariant-loop-k l = (l.at ≤ length l.file) × (l.k ≤ l.count) × PlugsSofar l.file l.from l.initial.plugs (scan l.file l.at true) l.k l.plugs

abbrev pub decreases-loop-k : goal.decreases-loop-k
decreases-loop-k l = length l.file - l.at
