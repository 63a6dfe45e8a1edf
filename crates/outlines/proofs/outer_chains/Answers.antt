-- `outlines::outer_chains` meets its contract: what the two chains are made of is all corners, the lower one's reflected. Assumes nothing.
use mathlib.Core.Path.{◌≡◌, ◌∙◌}
use mathlib.Core.List.{List, ◌++◌}
use Prim.Native.Nat.{ℕ, ◌+◌, ◌-◌, ◌/◌, ◌≤◌}
use native.Mathlib.Omega.{arith}
use lib.IntN.{ℤ}
use lib.ListN.{length, take, drop}
use Rattle.std.proofs.lemmas.List.{length-take}
use Rattle.turns.specs.Reflection.{reflected}
use Rattle.turns.proofs.Reflection.{reflected_key, reflected_less}
use Rattle.turns.proofs.Listed.{front_listed}
use Rattle.orders.specs.Order.{get}
use Rattle.rounds.specs.Boxes.{BoxList, boxes_of, all_corners}
use Rattle.halves.specs.Halves.{Appended}
use Rattle.hulls.proofs.Made.{TwoChains, front_appended}
use Rattle.corner_lists.proofs.Chains.{chain_listed}
use Rattle.outlines.specs.Outlines.{PolygonKeys}
use Rattle.outlines.proofs.Outer.{keys_of, corners_keyed, corners_many, points_polygon, front_sorted, front_amid, outer_chains, whole_length, whole_front}
use Rattle.outlines.proofs.outer_chains.Goals as goal
use Rattle.outlines.proofs.outer_chains.Goals.{After-upper_keys-u, After-lower_keys-v, After-upper_chain-ku, After-upper_chain-kl}

-- the two chains, of ku vertices in above and kl in below
module _ (l : List ℤ) (bl : BoxList l) {above below : List ℕ} {ku kl : ℕ} (both : TwoChains (keys_of (corners_keyed l bl)) above below ku kl) where
  many : ku - 1 + (kl - 1) ≤ length l / 4 + length l / 4 + length l / 4 + length l / 4
  many = omega (arith, both.few, corners_many l bl)

  -- the lower chain is appended to the upper one, which stands in front of what was lent on
  polygon : (rest after : List ℕ) → 1 ≤ ku → ku ≤ length above → length rest ≡ length (take (length above - ku) (drop ku above)) → kl - 1 ≤ length below
      → length l / 4 + length l / 4 + length l / 4 + length l / 4 ≤ length after
      → Appended reflected (get (take ku above ++ (rest ++ drop (length above - ku) (drop ku above)))) (get after) (get (take (kl - 1) below)) (ku - 1) (length (take (kl - 1) below))
      → PolygonKeys (all_corners (boxes_of l)) after (ku - 1 + (kl - 1))
  polygon rest after some kr long in_below room ap =
      points_polygon (corners_keyed l bl) after (ku - 1 + (kl - 1))
      (both.hull after (omega (arith, corners_many l bl, room))
      (front_appended below in_below (record { before = λ j o. ap.before j o ∙ whole_front ku above rest kr long j (omega arith); after = ap.after })))

-- each list is long enough
upper_room : (c : After-upper_keys-u) → c.upper_keys-u.result ≤ length c.upper_keys-u.new.list
upper_room c = omega (arith, c.upper_keys-u.ensures.few, c.requires.outer_room.in_list)

lower_room : (c : After-lower_keys-v) → c.lower_keys-v.result ≤ length c.lower_keys-v.new.list
lower_room c = omega (arith, c.lower_keys-v.ensures.few, c.requires.outer_room.in_list)

above_room : (c : After-upper_chain-ku) → c.upper_chain-ku.result ≤ length c.upper_chain-ku.new.stack
above_room c =
    let k = c.upper_keys-u in
    omega (arith, c.upper_chain-ku.ensures.few, k.ensures.few, c.requires.outer_room.in_vertices, length-take k.result k.new.list)

below_room : (c : After-upper_chain-kl) → c.upper_chain-kl.result - 1 ≤ length c.upper_chain-kl.new.stack
below_room c =
    let m = c.lower_keys-v in
    omega (arith, c.upper_chain-kl.ensures.few, m.ensures.few, c.requires.outer_room.in_keys, length-take m.result m.new.list)

chains : (c : After-upper_chain-kl) → c.upper_keys-u.result ≤ length c.upper_keys-u.new.list → c.lower_keys-v.result ≤ length c.lower_keys-v.new.list
    → TwoChains (keys_of (corners_keyed c.args.boxes.numbers.now c.args.boxes.accepted)) c.upper_chain-ku.new.stack c.upper_chain-kl.new.stack c.upper_chain-ku.result c.upper_chain-kl.result
chains c ur vr =
    let e = c.requires.point_ends in
    let r = c.reflected.ensures in
    outer_chains (corners_keyed c.args.boxes.numbers.now c.args.boxes.accepted) e.1 e.0 c.upper_keys-u.new.list c.lower_keys-v.new.list ur vr c.upper_keys-u.ensures c.lower_keys-v.ensures
    _ _ _ _ c.upper_chain-ku.ensures (rw (← r.first, ← r.last) c.upper_chain-kl.ensures)

pub invariant_of-upper_chain : goal.invariant_of-upper_chain
invariant_of-upper_chain c = record { all_keys = chain_listed (λ x h. h) c.upper_keys-u.ensures }

pub upper_chain-ku-requires-clause-sorted : goal.upper_chain-ku-requires-clause-sorted
upper_chain-ku-requires-clause-sorted c =
    let k = c.upper_keys-u in
    let room = upper_room (goal.at.upper_chain-ku-requires-clause-sorted c).After-upper_keys-u in
    (front_sorted k.new.list room k.ensures, front_amid k.new.list room k.ensures)

pub invariant_of-upper_chain-2 : goal.invariant_of-upper_chain-2
invariant_of-upper_chain-2 c = record { all_keys = chain_listed (λ x h. reflected_key h) c.lower_keys-v.ensures }

pub upper_chain-kl-requires-clause-keys_in_bounds : goal.upper_chain-kl-requires-clause-keys_in_bounds
upper_chain-kl-requires-clause-keys_in_bounds c = (
  simp length-take (omega (arith, c.lower_keys-v.ensures.few, c.requires.outer_room.in_keys)),
  rw (c.reflected.ensures.first, c.reflected.ensures.last) (reflected_less c.requires.point_ends.0.last_in.key c.requires.point_ends.1),
)

pub upper_chain-kl-requires-clause-sorted : goal.upper_chain-kl-requires-clause-sorted
upper_chain-kl-requires-clause-sorted c =
    let k = c.lower_keys-v in
    let room = lower_room (goal.at.upper_chain-kl-requires-clause-sorted c).After-lower_keys-v in
    (front_sorted k.new.list room k.ensures, rw (c.reflected.ensures.first, c.reflected.ensures.last) (front_amid k.new.list room k.ensures))

pub invariant_of-append_reflected : goal.invariant_of-append_reflected
invariant_of-append_reflected c =
    let at = goal.at.invariant_of-append_reflected c in
    record { all_keys = front_listed _ _ (chains at.After-upper_chain-kl (upper_room at.After-upper_keys-u) (lower_room at.After-lower_keys-v)).lower }

pub append_reflected-requires : goal.append_reflected-requires
append_reflected-requires c =
    let at = goal.at.append_reflected-requires c in
    let above = c.upper_chain-ku in
    let m = c.lower_keys-v in
    let long = whole_length above.result above.new.stack m.new.scratch (above_room at.After-upper_chain-ku) m.auto.scratch in
    let two = chains at.After-upper_chain-kl (upper_room at.After-upper_keys-u) (lower_room at.After-lower_keys-v) in
    simp length-take (omega (arith, many c.args.boxes.numbers.now c.args.boxes.accepted two, long, c.requires.outer_room.in_vertices))

pub returns : goal.returns
returns c =
    let at = goal.at.returns c in
    let above = c.upper_chain-ku in
    let m = c.lower_keys-v in
    let kr = above_room at.After-upper_chain-ku in
    let two = chains at.After-upper_chain-kl (upper_room at.After-upper_keys-u) (lower_room at.After-lower_keys-v) in
    let long = whole_length above.result above.new.stack m.new.scratch kr m.auto.scratch in
    polygon c.args.boxes.numbers.now c.args.boxes.accepted two m.new.scratch c.append_reflected.new.vertices above.ensures.some kr m.auto.scratch (below_room at.After-upper_chain-kl)
    (omega (arith, c.append_reflected.auto.vertices, long, c.requires.outer_room.in_vertices)) c.append_reflected.ensures
