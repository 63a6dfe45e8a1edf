-- `corner_lists::upper_keys` meets its contract: the north-western and the north-eastern corners are the widest of every box. Assumes nothing.
use mathlib.Core.Path.{◌≡◌, refl}
use mathlib.Core.List.{List, ◌++◌}
use Prim.Native.Nat.{ℕ, ◌+◌, ◌/◌, ◌≤◌}
use native.Mathlib.Omega.{arith}
use lib.IntN.{ℤ}
use lib.ListN.{length, take, drop}
use Rattle.rounds.specs.Boxes.{BoxList, boxes_of, corners_of, all_corners}
use Rattle.rounds.specs.declared.Corner.TheVariants.{NorthEast, NorthWest}
use Rattle.quarters.specs.Quarters.{UpperInput, UpperList}
use Rattle.corner_lists.specs.KeyLists.{KeysOf}
use Rattle.corner_lists.specs.ChainKeys.{PointEnds, ChainRoom, ChainKeys}
use Rattle.corner_lists.proofs.Boxes.{widest_north}
use Rattle.corner_lists.proofs.Ends.{HoldsKeys, held_keys}
use Rattle.corner_lists.proofs.Chains.{both_taken, left_held, right_held, upper_input, chain_keys}
use Rattle.corner_lists.proofs.upper_keys.Goals as goal

module _ {l : List ℤ} (bl : BoxList l) {n : ℕ} (is : n ≡ length l / 4) {ks : List ℕ} (kk : KeysOf (corners_of NorthWest (boxes_of l) ++ corners_of NorthEast (boxes_of l)) ks)
    (room : n + n ≤ length ks) where
  left : HoldsKeys (λ k. k) l NorthWest (take n (take (n + n) ks))
  left = left_held l NorthWest NorthEast n is ks room kk (λ k. k) _ (both_taken l NorthWest NorthEast n is ks room kk) (λ i h. refl)

  right : HoldsKeys (λ k. k) l NorthEast (drop n (take (n + n) ks))
  right = right_held l NorthWest NorthEast n is ks room kk (λ k. k) _ (both_taken l NorthWest NorthEast n is ks room kk) (λ i h. refl)

  input : {first last : ℕ} {list keys scratch : List ℕ} → PointEnds (all_corners (boxes_of l)) first last → ChainRoom (length l / 4) list keys scratch
      → UpperInput (take n (take (n + n) ks)) (drop n (take (n + n) ks)) first last list scratch
  input e r =
      upper_input (λ k. k) (λ q. q) (λ x h. refl) NorthWest NorthEast widest_north l bl _ _ left right e.least e.most r

  chain : (first last : ℕ) (out : List ℕ) (u : ℕ) → UpperList (take n (take (n + n) ks)) (drop n (take (n + n) ks)) first last out u
      → ChainKeys (λ k. k) (all_corners (boxes_of l)) (length l / 4) first last out u
  chain first last out u ul =
      chain_keys (λ k. k) (λ q. q) (λ x h. refl) NorthWest NorthEast widest_north l bl _ _ left right first last out u ul

pub invariant_of-upper_list : goal.invariant_of-upper_list
invariant_of-upper_list c = record { all_keys = rw c.split_at.ensures.front (held_keys (λ x h. h) (left c.args.boxes.accepted c.len-n.ensures c.put_two_corners.ensures (omega (arith, c.requires.chain_room.in_keys)))) }

pub invariant_of-upper_list-2 : goal.invariant_of-upper_list-2
invariant_of-upper_list-2 c = record { all_keys = rw c.split_at.ensures.back (held_keys (λ x h. h) (right c.args.boxes.accepted c.len-n.ensures c.put_two_corners.ensures (omega (arith, c.requires.chain_room.in_keys)))) }

pub upper_list-requires : goal.upper_list-requires
upper_list-requires c =
    rw (c.split_at.ensures.front, c.split_at.ensures.back)
    (input c.args.boxes.accepted c.len-n.ensures c.put_two_corners.ensures (omega (arith, c.requires.chain_room.in_keys)) c.requires.point_ends c.requires.chain_room)

pub returns : goal.returns
returns c =
    chain c.args.boxes.accepted c.len-n.ensures c.put_two_corners.ensures (omega (arith, c.requires.chain_room.in_keys))
    c.args.ends.now.first c.args.ends.now.last c.upper_list.new.out c.upper_list.result (rw (← c.split_at.ensures.front, ← c.split_at.ensures.back) c.upper_list.ensures)
