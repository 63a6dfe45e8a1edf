-- `corner_lists::put_corner_keys` meets its contract. The invariant: the first k keys are those of the corner of the first k boxes. Assumes nothing.
use mathlib.Core.Path.{◌≡◌, ◌∙◌, subst}
use native.Mathlib.Omega.{arith}
use lib.ListN.{length, drop}
use lib.Seq.{length-take-le}
use Rattle.rounds.specs.Boxes.{boxes_of, corners_of}
use Rattle.corners.proofs.Places.{corners_length}
use Rattle.corner_lists.proofs.Filling.{Filled, filled_more, filled_keys, keys_before}
use Rattle.corner_lists.proofs.put_corner_keys.Goals as goal

pub loop-k-preserved : goal.loop-k-preserved
loop-k-preserved c =
    let l = c.loop-k in filled_more _ l.key-items l.k _ (omega arith) (rw c.code.ensures.value c.corner_key.ensures) l.invariant

pub returns : goal.returns
returns c =
    let l = c.loop-k in
    let qs = corners_of c.args.corner (boxes_of c.args.boxes.numbers.now) in
    let n = corners_length c.args.corner c.args.boxes.numbers.now in
    let long : length l.key-items ≡ c.len.result = l.auto.key-items ∙ length-take-le c.len.result c.args.keys.now (omega arith) in
    let e : l.k ≡ length qs = omega (arith, n, long) in
    keys_before qs l.key-items (drop c.len.result c.args.keys.now) (omega (arith, n, long))
    (filled_keys qs l.key-items (omega (arith, n, long)) (subst (Filled qs l.key-items) e l.invariant))
