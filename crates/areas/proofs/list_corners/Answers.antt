-- `areas::list_corners` meets its contract: the polygons stand at the front, and zeros behind them. Assumes nothing.
use mathlib.Core.List.{List}
use Prim.Native.Nat.{◌*◌, ◌/◌, ◌≤◌}
use native.Mathlib.Omega.{arith}
use lib.IntN.{ℤ}
use lib.ListN.{length}
use Rattle.rounds.specs.Boxes.{boxes_of}
use Rattle.polygons.specs.declared.VertexCounts.{VertexCounts}
use Rattle.polygons.specs.Written.{CornersWritten}
use Rattle.polygons.proofs.Behind.{few}
use Rattle.areas.proofs.Listing.{sum, corners_zeroed}
use Rattle.areas.proofs.list_corners.Goals as goal

-- the vertices have room among the numbers needed
room : (l : List ℤ) {d xs : List ℤ} (n : VertexCounts) → CornersWritten (boxes_of l) d n xs → sum n * 2 ≤ length l / 4 * 8
room l n w = omega (arith, few _ l w.southwest.few, few _ l w.southeast.few, few _ l w.northeast.few, few _ l w.northwest.few)

pub returns : goal.returns
returns c =
    let l = c.args.boxes.numbers.now in
    let w = c.write_corners-counts in
    corners_zeroed l c.args.answer.now w.new.answer c.clear.new.answer w.result (c.len.result * 8) w.ensures (omega arith) (omega (arith, room l w.result w.ensures)) c.clear.ensures
