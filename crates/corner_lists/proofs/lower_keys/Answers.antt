-- `corner_lists::lower_keys` meets its contract: reflected, the south-eastern and the south-western corners are the widest of every box. Assumes nothing.
use mathlib.Core.Path.{◌≡◌, ◌∙◌}
use mathlib.Core.List.{List, ◌++◌}
use Prim.Native.Nat.{ℕ, ◌+◌, ◌/◌, ◌≤◌, ◌<◌}
use native.Mathlib.Omega.{arith}
use lib.IntN.{ℤ}
use lib.ListN.{length, take, drop}
use Rattle.turns.specs.Reflection.{reflected, opposite}
use Rattle.turns.proofs.Reflection.{reflected_key, reflected_point, reflected_le}
use Rattle.turns.proofs.Listed.{each_key}
use Rattle.orders.specs.Order.{get}
use Rattle.rounds.specs.Boxes.{BoxList, boxes_of, corners_of, all_corners}
use Rattle.rounds.specs.declared.Corner.TheVariants.{SouthEast, SouthWest}
use Rattle.quarters.specs.Quarters.{UpperInput, UpperList}
use Rattle.corner_lists.specs.KeyLists.{KeysOf}
use Rattle.corner_lists.specs.ChainKeys.{Reflects, PointEnds, ChainRoom, ChainKeys}
use Rattle.corner_lists.proofs.Boxes.{widest_south}
use Rattle.corner_lists.proofs.Ends.{HoldsKeys, held_keys}
use Rattle.corner_lists.proofs.Chains.{both_keys, both_taken, left_held, right_held, upper_input, chain_keys}
use Rattle.corner_lists.proofs.lower_keys.Goals as goal

-- rs are the first keys, reflected
module _ {l : List ℤ} (bl : BoxList l) {n : ℕ} (is : n ≡ length l / 4) {ks : List ℕ} (kk : KeysOf (corners_of SouthEast (boxes_of l) ++ corners_of SouthWest (boxes_of l)) ks)
    (room : n + n ≤ length ks) {rs : List ℕ} (r : Reflects (take (n + n) ks) rs (length (take (n + n) ks))) (long : length rs ≡ length (take (n + n) ks)) where
  taken : length (take (n + n) ks) ≡ n + n
  taken = both_taken l SouthEast SouthWest n is ks room kk

  reflected_length : length rs ≡ n + n
  reflected_length = long ∙ taken

  same : (i : ℕ) → i < n + n → get rs i ≡ reflected (get (take (n + n) ks) i)
  same i h = r.at i (omega (arith, taken))

  left : HoldsKeys reflected l SouthEast (take n rs)
  left = left_held l SouthEast SouthWest n is ks room kk reflected rs reflected_length same

  right : HoldsKeys reflected l SouthWest (drop n rs)
  right = right_held l SouthEast SouthWest n is ks room kk reflected rs reflected_length same

  input : {first last first' last' : ℕ} {list keys scratch : List ℕ} → last' ≡ reflected last → first' ≡ reflected first → PointEnds (all_corners (boxes_of l)) first last
      → ChainRoom (length l / 4) list keys scratch → UpperInput (take n rs) (drop n rs) last' first' list scratch
  input p q e room =
      rw (p, q)
      (upper_input reflected opposite (λ x h. reflected_point h) SouthEast SouthWest widest_south l bl _ _ left right
      (λ x i. reflected_le (e.most x i)) (λ x i. reflected_le (e.least x i)) room)

  chain : (first last : ℕ) {first' last' : ℕ} → last' ≡ reflected last → first' ≡ reflected first → (out : List ℕ) (u : ℕ)
      → UpperList (take n rs) (drop n rs) last' first' out u → ChainKeys reflected (all_corners (boxes_of l)) (length l / 4) (reflected last) (reflected first) out u
  chain first last p q out u ul =
      chain_keys reflected opposite (λ x h. reflected_point h) SouthEast SouthWest widest_south l bl _ _ left right (reflected last) (reflected first) out u
      (rw (← p, ← q) ul)

pub reflect_keys-requires : goal.reflect_keys-requires
reflect_keys-requires c =
    each_key (both_keys c.args.boxes.numbers.now SouthEast SouthWest c.len-n.result c.len-n.ensures _ (omega (arith, c.requires.chain_room.in_keys)) c.put_two_corners.ensures)

pub invariant_of-upper_list : goal.invariant_of-upper_list
invariant_of-upper_list c =
    let keys = left c.args.boxes.accepted c.len-n.ensures c.put_two_corners.ensures (omega (arith, c.requires.chain_room.in_keys)) c.reflect_keys.ensures c.reflect_keys.auto.keys in
    record { all_keys = rw c.split_at.ensures.front (held_keys (λ x h. reflected_key h) keys) }

pub invariant_of-upper_list-2 : goal.invariant_of-upper_list-2
invariant_of-upper_list-2 c =
    let keys = right c.args.boxes.accepted c.len-n.ensures c.put_two_corners.ensures (omega (arith, c.requires.chain_room.in_keys)) c.reflect_keys.ensures c.reflect_keys.auto.keys in
    record { all_keys = rw c.split_at.ensures.back (held_keys (λ x h. reflected_key h) keys) }

pub upper_list-requires : goal.upper_list-requires
upper_list-requires c =
    rw (c.split_at.ensures.front, c.split_at.ensures.back)
    (input c.args.boxes.accepted c.len-n.ensures c.put_two_corners.ensures (omega (arith, c.requires.chain_room.in_keys)) c.reflect_keys.ensures c.reflect_keys.auto.keys
    c.reflected.ensures.first c.reflected.ensures.last c.requires.point_ends c.requires.chain_room)

pub returns : goal.returns
returns c =
    chain c.args.boxes.accepted c.len-n.ensures c.put_two_corners.ensures (omega (arith, c.requires.chain_room.in_keys)) c.reflect_keys.ensures c.reflect_keys.auto.keys
    c.args.ends.now.first c.args.ends.now.last c.reflected.ensures.first c.reflected.ensures.last c.upper_list.new.out c.upper_list.result
    (rw (← c.split_at.ensures.front, ← c.split_at.ensures.back) c.upper_list.ensures)
