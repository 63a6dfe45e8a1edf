-- `balances::balance_by` meets its contract: a corner that is the plug balances alone, and else the cone answers. Assumes nothing.
use Rattle.std.specs.Prelude.{Some}
use mathlib.Core.Path.{◌≡◌, sym, ◌∙◌, ap}
use Rattle.balances.specs.Balances.{entries}
use Rattle.balances.specs.Balancing.{balance_by_met, balance_of_view}
use Rattle.balances.proofs.Answering.{by_view}
use Rattle.balances.proofs.balance_by.Goals as goal

pub returns-in-Some : goal.returns-in-Some
returns-in-Some c =
    let e : Some (entries c.entry_of.result c.entry_of-in-Some.result c.entry_of-in-Some-2.result) ≡ balance_of_view c.args.plug c.args.view.now =
    rw (c.entry_of.ensures, c.entry_of-in-Some.ensures, c.entry_of-in-Some-2.ensures) (ap (λ m. balance_by_met c.args.plug m c.args.view.now.cone) (sym c.in-Some.is)) in
    record { exact = e; balances = by_view c.args.plug c.args.view.now e }

pub returns : goal.returns
returns c =
    let e = c.balance_by_cone.ensures.exact ∙ ap (λ m. balance_by_met c.args.plug m c.args.view.now.cone) (sym c.in_default.is) in
    record { exact = e; balances = by_view c.args.plug c.args.view.now e }
