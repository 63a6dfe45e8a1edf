-- `hulls::two_chains` meets its contract. The parts are proofs/Parting: `Parted`; the geometry is proofs/Made: `made`. Assumes nothing.
use native.Mathlib.Omega.{arith}
use lib.ListN.{length-take, take}
use lib.Seq.{length-take-le}
use Rattle.turns.proofs.Listed.{front_listed}
use Rattle.halves.proofs.Reordering.{reordered_numbers}
use Rattle.hulls.proofs.Parting.{Parted, parted, upper_input, upper_listed, lower_less, lower_input, lower_listed}
use Rattle.hulls.proofs.Made.{TwoChains, front_appended, made}
use Rattle.hulls.proofs.two_chains.Goals as goal
use Rattle.hulls.proofs.two_chains.Goals.{After-sort_parts, After-upper_chain-kl}

parts : (c : After-sort_parts) → Parted c.args.keys.now c.args.ends.now.first c.args.ends.now.last
    (take c.split-parts.result.upper c.sort_parts.new.keys) (take c.split-parts.result.lower c.sort_parts.new.mirror)
parts c =
    let x = c.split-parts in
    parted c.requires.first_lt_last.1 x.ensures (reordered_numbers c.sort_parts.ensures) (omega (arith, x.ensures.few)) (omega (arith, x.ensures.few, c.requires.keys_in_bounds))

chains : (c : After-upper_chain-kl) → Parted c.args.keys.now c.args.ends.now.first c.args.ends.now.last
    (take c.split-parts.result.upper c.sort_parts.new.keys) (take c.split-parts.result.lower c.sort_parts.new.mirror)
    → TwoChains c.args.keys.now c.upper_chain-ku.new.stack c.upper_chain-kl.new.stack c.upper_chain-ku.result c.upper_chain-kl.result
chains c p = made p c.requires.first_lt_last.0 c.upper_chain-ku.ensures c.reflected.ensures.last c.reflected.ensures.first c.upper_chain-kl.ensures

pub invariant_of-upper_chain : goal.invariant_of-upper_chain
invariant_of-upper_chain c = record { all_keys = upper_listed (parts (goal.at.invariant_of-upper_chain c).After-sort_parts) }

pub upper_chain-ku-requires-clause-sorted : goal.upper_chain-ku-requires-clause-sorted
upper_chain-ku-requires-clause-sorted c = upper_input (parts (goal.at.upper_chain-ku-requires-clause-sorted c).After-sort_parts)

pub invariant_of-upper_chain-2 : goal.invariant_of-upper_chain-2
invariant_of-upper_chain-2 c = record { all_keys = lower_listed (parts (goal.at.invariant_of-upper_chain-2 c).After-sort_parts) }

pub upper_chain-kl-requires : goal.upper_chain-kl-requires
upper_chain-kl-requires c =
    let x = c.split-parts in
    let p = parts (goal.at.upper_chain-kl-requires c).After-sort_parts in
    let e = length-take-le x.result.lower c.sort_parts.new.mirror (omega (arith, x.ensures.few, c.requires.keys_in_bounds)) in
    let f = c.reflected.ensures.last in
    let l = c.reflected.ensures.first in
    record { keys_in_bounds = (omega (arith, x.ensures.few), lower_less p f l c.requires.first_lt_last.0); sorted = lower_input p f l }

pub invariant_of-append_reflected : goal.invariant_of-append_reflected
invariant_of-append_reflected c =
    let m = chains (goal.at.invariant_of-append_reflected c).After-upper_chain-kl (parts (goal.at.invariant_of-append_reflected c).After-sort_parts) in
    record { all_keys = front_listed _ _ m.lower }

pub append_reflected-requires : goal.append_reflected-requires
append_reflected-requires c =
    let m = chains (goal.at.append_reflected-requires c).After-upper_chain-kl (parts (goal.at.append_reflected-requires c).After-sort_parts) in
    simp length-take (omega (arith, m.few, c.requires.keys_in_bounds))

pub returns : goal.returns
returns c =
    let m = chains (goal.at.returns c).After-upper_chain-kl (parts (goal.at.returns c).After-sort_parts) in
    m.hull c.append_reflected.new.vertices (omega (arith, c.requires.keys_in_bounds)) (front_appended c.upper_chain-kl.new.stack (omega (arith, m.few)) c.append_reflected.ensures)
