-- `corner_lists::put_two_corners` meets its contract: each callee's keys stand behind the other's. Assumes nothing.
use mathlib.Core.Path.{◌≡◌, sym, ◌∙◌}
use Prim.Native.Nat.{◌-◌}
use native.Mathlib.Omega.{arith}
use lib.ListN.{length, drop}
use Rattle.corners.proofs.Places.{corners_length}
use Rattle.corner_lists.proofs.Filling.{keys_append, part_length}
use Rattle.corner_lists.proofs.put_two_corners.Goals as goal

pub returns : goal.returns
returns c =
    let n = c.len-n.result in
    let l = c.args.boxes.numbers.now in
    let f = c.put_corner_keys in
    let g = c.put_corner_keys-2 in
    let xs = f.new.keys in
    let ys = g.new.keys in
    let lx : length xs ≡ length c.args.keys.now = f.auto.keys in
    let ly : length ys ≡ length xs - n = g.auto.keys ∙ part_length n xs (omega arith) in
    keys_append _ _ xs ys (drop (length xs - n) (drop n xs)) n (corners_length c.args.first l ∙ sym c.len-n.ensures) (omega arith)
    (omega (arith, corners_length c.args.second l)) f.ensures g.ensures
