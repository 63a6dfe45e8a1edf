-- `views::meet` meets its contract: by the test. Assumes nothing.
use Rattle.std.specs.Prelude.{Some}
use mathlib.Core.Path.{sym, ◌∙◌, ap, subst}
use mathlib.Core.Bool.{cond}
use Rattle.turns.specs.Keys.{point_of}
use Rattle.views.specs.Views.{MetOn}
use Rattle.views.proofs.Viewing.{met_says}
use Rattle.views.proofs.meet.Goals as goal

pub returns : goal.returns
returns c =
    let e = ap (λ t. cond t (Some c.args.v.now) c.args.met) (sym c.if-eq.false ∙ c.eq.ensures) in
    record { exact = e; met_on = subst (MetOn (point_of c.args.plug) c.args.met c.args.v.now) (sym e) (met_says c.args.plug c.args.met c.args.v.now) }
