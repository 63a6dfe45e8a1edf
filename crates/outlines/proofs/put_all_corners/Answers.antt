-- `outlines::put_all_corners` meets its contract: each callee's keys stand behind the other's. Assumes nothing.
use mathlib.Core.Path.{◌≡◌, sym, ◌∙◌, subst}
use mathlib.Core.List.{◌++◌, append_assoc}
use Prim.Native.Nat.{◌*◌, ◌-◌}
use native.Mathlib.Omega.{arith}
use lib.ListN.{length, take, drop}
use Rattle.rounds.specs.Boxes.{boxes_of, corners_of}
use Rattle.rounds.specs.declared.Corner.TheVariants.{SouthWest, SouthEast, NorthEast, NorthWest}
use Rattle.corner_lists.specs.KeyLists.{KeysOf}
use Rattle.corner_lists.proofs.Filling.{two_length, keys_append, part_length}
use Rattle.outlines.proofs.put_all_corners.Goals as goal

pub returns : goal.returns
returns c =
    let f = c.put_two_corners in
    let g = c.put_two_corners-2 in
    let l = c.args.boxes.numbers.now in
    let bs = boxes_of l in
    let xs = f.new.keys in
    let ys = g.new.keys in
    let n = 2 * c.len-half.result in
    let whole = c.args.boxes.accepted.whole in
    let ly : length ys ≡ length xs - n = g.auto.keys ∙ part_length n xs (omega (arith, whole)) in
    subst (λ qs. KeysOf qs (take n xs ++ (ys ++ drop (length xs - n) (drop n xs))))
    (sym (append_assoc (corners_of SouthWest bs ++ corners_of SouthEast bs) (corners_of NorthEast bs) (corners_of NorthWest bs)))
    (keys_append _ _ xs ys (drop (length xs - n) (drop n xs)) n (omega (arith, two_length SouthWest SouthEast l)) (omega (arith, whole))
    (omega (arith, two_length NorthEast NorthWest l, whole)) f.ensures g.ensures)
