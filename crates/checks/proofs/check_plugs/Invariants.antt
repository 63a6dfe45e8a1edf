-- `checks::check_plugs` meets its contract. The invariant: the fault is that of the plugs from k on. Assumes nothing.
use mathlib.Core.Path.{◌≡◌}
use Prim.Native.Nat.{◌+◌, ◌*◌}
use lib.ListN.{drop}
use Rattle.rounds.specs.Boxes.{plugs_of}
use Rattle.rounds.specs.Refusals.{each_plug_fault, plug_list_fault}
use Rattle.checks.proofs.check_plugs.Given as goal

abbrev pub invariant-loop-k : goal.invariant-loop-k
invariant-loop-k l = plug_list_fault l.plugs ≡ each_plug_fault (l.k + 1) (plugs_of (drop (l.k * 2) l.plugs))
