-- `supports::support_by` meets its contract: what is found of the case that is matched is found of the cone. Assumes nothing.
use borrow.Author.Rules.{rules}
use Rattle.std.specs.Prelude.{◌≡◌, Some}
use Rattle.supports.specs.Supporting.{support_of_cone}
use Rattle.supports.proofs.Answering.{nothing_supports, cone_found}
use Rattle.supports.proofs.support_by.Goals as goal

pub returns-in-Nothing-clause-supports : goal.returns-in-Nothing-clause-supports
returns-in-Nothing-clause-supports c = rw c.in-Nothing.is (nothing_supports c.args.plug c.args.corner)

pub returns-in-Ray-clause-supports : goal.returns-in-Ray-clause-supports
returns-in-Ray-clause-supports c =
    let e : Some c.square_to.result ≡ support_of_cone c.args.plug c.args.cone.now c.args.corner = search rules in
    cone_found c.args.plug c.args.corner c.square_to.ensures.keys.1 c.args.cone.now e
