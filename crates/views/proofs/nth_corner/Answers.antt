-- `views::nth_corner` meets its contract: the box at place k has the number k + 1. Assumes nothing.
use mathlib.Core.Path.{◌≡◌, sym, ◌∙◌, ap, ap₂, subst}
use Prim.Native.Nat.{suc, ◌+◌, ◌<◌}
use native.Mathlib.Omega.{arith}
use lib.ListN.{length}
use Rattle.turns.specs.Keys.{key_at}
use Rattle.turns.proofs.Coordinates.{one_key}
use Rattle.rounds.specs.Boxes.{boxes_of}
use Rattle.rounds.proofs.Rows.{boxes_length}
use Rattle.cones.specs.Cones.{CornerOf}
use Rattle.cones.specs.Wider.{numbered}
use Rattle.cones.specs.declared.CornerKey.{CornerKey}
use Rattle.passes.specs.Passes.{nth_box}
use Rattle.passes.proofs.Passing.{corner_of_nth}
use Rattle.views.proofs.Viewing.{numbered_corner}
use Rattle.views.proofs.nth_corner.Goals as goal

pub returns : goal.returns
returns c =
    let bs = boxes_of c.args.boxes.numbers.now in
    let n : c.args.k < length bs = omega (arith, c.requires, boxes_length c.args.boxes.numbers.now) in
    let e : c.args.k + 1 ≡ suc c.args.k = omega arith in
    let v : CornerKey = record { key = c.corner_key-key.result; number = c.args.k + 1; corner = c.args.corner } in
    let is : v ≡ numbered (suc c.args.k) (nth_box bs c.args.k) c.args.corner =
    ap₂ (λ k m. record { key = k; number = m; corner = c.args.corner }) (one_key c.corner_key-key.ensures ∙ ap key_at (corner_of_nth c.args.corner bs c.args.k n)) e in
    record { exact = is; is_corner = subst (CornerOf bs c.args.corner c.args.k) (sym is) (numbered_corner 0 bs c.args.boxes.accepted.in_span c.args.k n c.args.corner) }
