-- `outlines::outer_outline` meets its contract: the hull of the keys of the corners is that of the corners. Assumes nothing.
use native.Mathlib.Omega.{arith}
use lib.ListN.{length}
use Rattle.turns.proofs.Listed.{each_key}
use Rattle.rounds.specs.Boxes.{boxes_of, all_corners}
use Rattle.corner_lists.proofs.Filling.{keys_listed}
use Rattle.outlines.proofs.Polygons.{all_length, front_polygon}
use Rattle.outlines.proofs.outer_outline.Goals as goal

pub hull-requires-clause-all_keys : goal.hull-requires-clause-all_keys
hull-requires-clause-all_keys c = each_key (keys_listed (all_length _ c.args.boxes.accepted.whole) c.put_all_corners.ensures)

pub returns : goal.returns
returns c =
    let l = c.args.boxes.numbers.now in
    front_polygon (all_corners (boxes_of l)) c.put_all_corners.new.keys (length l) (all_length l c.args.boxes.accepted.whole) (omega (arith, c.requires.scratch_for.in_keys))
    c.put_all_corners.ensures c.hull.new.vertices c.hull.result c.hull.ensures
