-- `areas::corner_polygons` meets its contract: a refusal leaves the buffer as it was, and what no cause turns back is listed. Assumes nothing.
use mathlib.Core.Path.{sym, subst}
use Prim.Native.Nat.{◌≤◌}
use lib.ListN.{length}
use Rattle.rounds.proofs.Exits.{passed_on}
use Rattle.listings.specs.Listings.{needed}
use Rattle.areas.specs.Steps.{CornersStand}
use Rattle.areas.proofs.Promised.{corners_promise}
use Rattle.areas.proofs.Listing.{none_means, corners_refused, corners_listed}
use Rattle.areas.proofs.corner_polygons.Goals as goal

pub returns-in_err-accepted : goal.returns-in_err-accepted
returns-in_err-accepted c =
    let e = c.in_err-accepted in
    let x = corners_refused c.args.numbers.now c.args.answer.now _ e.ensures.fault c.from_residual.result (passed_on c.from_residual.result c.from_residual.ensures.1) in
    record { promise = corners_promise _ _ _ _ x; answered = x }

pub list_corners-counts-requires : goal.list_corners-counts-requires
list_corners-counts-requires c =
    let e = c.in_ok-accepted.ensures in
    subst (λ l. needed l ≤ length c.args.answer.now) (sym e.same) (none_means _ _ (sym e.fault)).1

pub returns : goal.returns
returns c =
    let e = c.in_ok-accepted.ensures in
    let f = c.list_corners-counts in
    let x = corners_listed c.args.numbers.now c.args.answer.now f.new.answer e.fault f.result (subst (λ l. CornersStand l c.args.answer.now f.result f.new.answer) e.same f.ensures) in
    record { promise = corners_promise _ _ _ _ x; answered = x }
