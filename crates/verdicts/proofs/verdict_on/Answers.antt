-- `verdicts::verdict_on` meets its contract: a refusal is the reply, and else what is judged (proofs/Answering.antt). Assumes nothing.
use mathlib.Core.Path.{sym, ◌∙◌, ap}
use Rattle.std.specs.Prelude.{Ok}
use Rattle.rounds.specs.Boxes.{boxes_of}
use Rattle.rounds.specs.declared.Corner.TheVariants.{SouthWest}
use Rattle.rounds.proofs.Accepted.{plug_accepted}
use Rattle.rounds.proofs.Exits.{passed_on}
use Rattle.turns.proofs.Coordinates.{one_key}
use Rattle.views.specs.Looking.{view_of}
use Rattle.verdicts.specs.Answers.{verdict_from}
use Rattle.verdicts.proofs.Answering.{verdict_accepted, given_is, refused_given, judged_given}
use Rattle.verdicts.proofs.verdict_on.Goals as goal

pub new-requires : goal.new-requires
new-requires c = plug_accepted 1 c.args.plug (verdict_accepted c.args.numbers.now c.args.plug (sym c.in_ok-boxes.ensures.fault)).1

pub returns-in_err-boxes : goal.returns-in_err-boxes
returns-in_err-boxes c = given_is (passed_on c.from_residual.result c.from_residual.ensures.1 ∙ refused_given _ _ _ (sym c.in_err-boxes.ensures.fault))

pub returns : goal.returns
returns c =
    given_is
    (ap Ok (c.judge.ensures.exact ∙ ap (λ l. verdict_from c.new.result (boxes_of l) (view_of c.new.result SouthWest (boxes_of l))) c.in_ok-boxes.ensures.same)
    ∙ judged_given c.args.numbers.now c.args.plug c.new.result (one_key c.new.ensures) (sym c.in_ok-boxes.ensures.fault))
