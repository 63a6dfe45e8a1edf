-- `checks::check_verdict` meets its contract: the boxes' fault, or else the plug's. Assumes nothing.
use mathlib.Core.Path.{◌∙◌, ap}
use Rattle.rounds.specs.Refusals.{◌or_else◌, plug_fault, verdict_fault}
use Rattle.rounds.proofs.Exits.{passed_fault, in_turn}
use Rattle.checks.proofs.check_verdict.Goals as goal

pub returns-in_err-boxes-clause-fault : goal.returns-in_err-boxes-clause-fault
unfolding verdict_fault
returns-in_err-boxes-clause-fault c =
    passed_fault c.from_residual.result c.from_residual.ensures.1 ∙ ap (λ f. f or_else plug_fault 1 c.args.plug) c.in_err-boxes.ensures.fault

pub returns-in_err-check_plug-clause-fault : goal.returns-in_err-check_plug-clause-fault
unfolding verdict_fault
returns-in_err-check_plug-clause-fault c =
    passed_fault c.from_residual-in_err-check_plug.result c.from_residual-in_err-check_plug.ensures.1
    ∙ in_turn c.in_ok-boxes.ensures.fault c.in_err-check_plug.ensures

pub returns-clause-fault : goal.returns-clause-fault
unfolding verdict_fault
returns-clause-fault c = in_turn c.in_ok-boxes.ensures.fault c.in_ok-check_plug.ensures
