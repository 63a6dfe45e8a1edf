-- `hulls::hull` meets its contract. The polygon of the keys that are left is that of all (`left_hull`). Assumes nothing.
use native.Mathlib.Omega.{arith}
use Rattle.orders.proofs.Front.{front_within}
use Rattle.chains.proofs.Chaining.{among}
use Rattle.hulls.proofs.Made.{left_hull}
use Rattle.hulls.proofs.hull.Goals as goal

pub polygon-requires-clause-all_keys : goal.polygon-requires-clause-all_keys
polygon-requires-clause-all_keys c =
    let x = c.drop_inner-n in
    among c.requires.all_keys (front_within x.new.keys x.result (omega (arith, x.ensures.few)) x.ensures.kept)

pub returns : goal.returns
returns c =
    let x = c.drop_inner-n in
    left_hull c.args.keys.now x.new.keys x.result (omega (arith, x.ensures.few)) x.ensures c.polygon.ensures
