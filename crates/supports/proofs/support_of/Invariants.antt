-- `supports::support_of` meets its contract. The invariant: what is found is the first direction that the corners from here on give. Assumes nothing.
use mathlib.Core.Path.{◌≡◌}
use lib.ListN.{drop}
use Rattle.rounds.specs.Boxes.{boxes_of}
use Rattle.supports.specs.Supporting.{support_of}
use Rattle.supports.proofs.Answering.{first_support}
use Rattle.supports.proofs.support_of.Given as goal

abbrev pub invariant-loop-corner : goal.invariant-loop-corner
invariant-loop-corner l = support_of l.plug (boxes_of l.boxes.numbers.now) l.fn.view ≡ first_support l.plug (boxes_of l.boxes.numbers.now) (drop l.corner-index l.corner-items)
