-- `areas::list_outer` meets its contract: the polygon stands at the front, and zeros behind it. Assumes nothing.
use mathlib.Core.List.{List}
use Prim.Native.Nat.{ℕ, ◌*◌, ◌/◌, ◌≤◌}
use native.Mathlib.Omega.{arith}
use lib.IntN.{ℤ}
use lib.ListN.{length}
use Rattle.rounds.specs.Boxes.{BoxList, boxes_of, all_corners}
use Rattle.outlines.proofs.Polygons.{all_length}
use Rattle.polygons.specs.Written.{PolygonWritten}
use Rattle.areas.proofs.Listing.{outer_zeroed}
use Rattle.areas.proofs.list_outer.Goals as goal

-- the vertices have room among the numbers needed
room : (l : List ℤ) → BoxList l → {d xs : List ℤ} {count : ℕ} → PolygonWritten (all_corners (boxes_of l)) 0 d count xs → count * 2 ≤ length l / 4 * 8
room l bl w = omega (arith, w.made.few, bl.whole, all_length l bl.whole)

pub returns : goal.returns
returns c =
    let l = c.args.boxes.numbers.now in
    let w = c.write_outer-count in
    outer_zeroed l c.args.answer.now w.new.answer c.clear.new.answer w.result (c.len.result * 8) w.ensures (omega arith) (omega (arith, room l c.args.boxes.accepted w.ensures)) c.clear.ensures
