-- `verdicts::judge` meets its contract: by what the corners tell each driver. Assumes nothing.
use mathlib.Core.Path.{subst}
use Rattle.turns.specs.Keys.{point_of}
use Rattle.rounds.specs.Boxes.{boxes_of}
use Rattle.rounds.proofs.Corners.{inside_by_corners, outside_by_corners}
use Rattle.supports.specs.Supports.{SupportSays}
use Rattle.balances.specs.Balances.{BalanceSays}
use Rattle.verdicts.proofs.Answering.{outside_from}
use Rattle.verdicts.proofs.judge.Goals as goal

pub returns-then-is_separated : goal.returns-then-is_separated
returns-then-is_separated c =
    let s = c.is_separated.ensures.separated c.if-is_separated.true in
    let ok = c.args.boxes.accepted in
    record {
      exact = outside_from c.args.plug (boxes_of c.args.boxes.numbers.now) ok.in_span ok.ordered s;
      judged = outside_by_corners (point_of c.args.plug) s;
    }

pub returns-in_default-clause-judged : goal.returns-in_default-clause-judged
returns-in_default-clause-judged c =
    outside_by_corners (point_of c.args.plug) (subst (BalanceSays (boxes_of c.args.boxes.numbers.now) (point_of c.args.plug)) c.in_default.is c.balance_of.ensures.balances)

pub returns-in_default-support_of-clause-judged : goal.returns-in_default-support_of-clause-judged
returns-in_default-support_of-clause-judged c =
    inside_by_corners (point_of c.args.plug) (subst (SupportSays (boxes_of c.args.boxes.numbers.now) (point_of c.args.plug)) c.in_default-support_of.is c.support_of.ensures.supports)
