-- `areas::outer_polygon` meets its contract: a refusal leaves the buffer as it was, and what no cause turns back is listed. Assumes nothing.
use mathlib.Core.Path.{sym, subst}
use Prim.Native.Nat.{◌≤◌}
use lib.ListN.{length}
use Rattle.rounds.proofs.Exits.{passed_on}
use Rattle.listings.specs.Listings.{needed}
use Rattle.areas.specs.Steps.{OuterStands}
use Rattle.areas.proofs.Promised.{outer_promise}
use Rattle.areas.proofs.Listing.{none_means, outer_refused, outer_listed}
use Rattle.areas.proofs.outer_polygon.Goals as goal

pub returns-in_err-boxes : goal.returns-in_err-boxes
returns-in_err-boxes c =
    let e = c.in_err-boxes in
    let x = outer_refused c.args.numbers.now c.args.answer.now _ e.ensures.fault c.from_residual.result (passed_on c.from_residual.result c.from_residual.ensures.1) in
    record { promise = outer_promise _ _ _ _ x; answered = x }

pub list_outer-count-requires : goal.list_outer-count-requires
list_outer-count-requires c =
    let e = c.in_ok-boxes.ensures in
    subst (λ l. needed l ≤ length c.args.answer.now) (sym e.same) (none_means _ _ (sym e.fault)).1

pub returns : goal.returns
returns c =
    let e = c.in_ok-boxes.ensures in
    let f = c.list_outer-count in
    let x = outer_listed c.args.numbers.now c.args.answer.now f.new.answer e.fault f.result (subst (λ l. OuterStands l c.args.answer.now f.result f.new.answer) e.same f.ensures) in
    record { promise = outer_promise _ _ _ _ x; answered = x }
