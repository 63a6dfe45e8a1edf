-- `balances::balance_by_cone` meets its contract: what is found of the case that is matched is found of the cone. Assumes nothing.
use borrow.Author.Rules.{rules}
use Rattle.std.specs.Prelude.{None}
use mathlib.Core.Path.{◌≡◌, subst}
use mathlib.Core.Logic.{⊎_elim}
use Rattle.turns.specs.Keys.{point_of}
use Rattle.cones.specs.Cones.{Known}
use Rattle.balances.specs.Balancing.{balance_of_cone}
use Rattle.balances.proofs.Answering.{line_between, half_between, cone_says}
use Rattle.balances.proofs.balance_by_cone.Goals as goal

pub balance_between-requires : goal.balance_between-requires
balance_between-requires c =
    ⊎_elim
    (λ e. line_between _ _ _ (subst (Known (point_of c.args.plug)) e c.requires).says)
    (λ e. half_between _ _ _ (subst (Known (point_of c.args.plug)) e c.requires).says)
    c.in-Line.is

pub returns-in-Nothing-clause-balances : goal.returns-in-Nothing-clause-balances
returns-in-Nothing-clause-balances c =
    let e : None ≡ balance_of_cone c.args.plug c.args.cone = search rules in
    cone_says c.args.plug c.args.cone c.requires e

pub returns-in-Line-clause-balances : goal.returns-in-Line-clause-balances
returns-in-Line-clause-balances c =
    let e : c.balance_between.result ≡ balance_of_cone c.args.plug c.args.cone = search rules in
    cone_says c.args.plug c.args.cone c.requires e

pub returns-in-Around-clause-balances : goal.returns-in-Around-clause-balances
returns-in-Around-clause-balances c =
    let e : c.balance_in_triangle.result ≡ balance_of_cone c.args.plug c.args.cone = search rules in
    cone_says c.args.plug c.args.cone c.requires e
