-- `hulls::polygon` meets its contract. Assumes nothing.
use native.Mathlib.Omega.{arith}
use lib.ListN.{length-set}
use lib.Seq.{get_or-set_same}
use Rattle.std.proofs.lemmas.List.{map-id}
use Rattle.hulls.proofs.Made.{made_one}
use Rattle.hulls.proofs.polygon.Goals as goal

pub returns-then-ends : goal.returns-then-ends
returns-then-ends c =
    let f = c.find_ends-ends in
    made_one c.args.keys.now _ f.result.first f.result.last c.requires.in_bounds.0 (simp length-set (omega (arith, c.requires.in_bounds)))
    c.requires.all_keys (rw map-id at f.ensures) c.if-ends.true (get_or-set_same c.args.vertices.now 0 f.result.first 0 (omega (arith, c.requires.in_bounds)))
