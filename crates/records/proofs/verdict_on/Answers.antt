-- `records::verdict_on` meets its contract: too many records are turned back, and the verdict on others is that of the flat list. Assumes nothing.
use native.Mathlib.Omega.{arith}
use Rattle.verdicts.proofs.Answering.{given_is, refused_given}
use Rattle.records.proofs.Copying.{edges_length}
use Rattle.records.proofs.Faults.{too_many}
use Rattle.records.proofs.verdict_on.Goals as goal

pub returns-then-count-gt-MOST_BOXES : goal.returns-then-count-gt-MOST_BOXES
returns-then-count-gt-MOST_BOXES c =
    given_is (refused_given _ _ _ (too_many _ _ _ (edges_length c.args.boxes.now) (omega (arith, c.if-count-gt-MOST_BOXES.true))))
