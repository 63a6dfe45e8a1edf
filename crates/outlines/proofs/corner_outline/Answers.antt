-- `outlines::corner_outline` meets its contract: the hull of the keys of the corners is that of the corners. Assumes nothing.
use mathlib.Core.Path.{sym, ◌∙◌}
use native.Mathlib.Omega.{arith}
use lib.ListN.{length-map}
use Rattle.rounds.proofs.Rows.{boxes_length}
use Rattle.turns.proofs.Listed.{each_key}
use Rattle.rounds.specs.Boxes.{boxes_of, corners_of}
use Rattle.corners.proofs.Places.{corners_length}
use Rattle.corner_lists.proofs.Filling.{keys_listed}
use Rattle.outlines.proofs.Polygons.{front_polygon}
use Rattle.outlines.proofs.corner_outline.Goals as goal

-- whatever corner they are of
pub hull-requires-clause-all_keys : goal.hull-requires-clause-all_keys
hull-requires-clause-all_keys c = each_key (keys_listed (length-map _ _ ∙ boxes_length _ ∙ sym c.len-n.ensures) c.put_corner_keys.ensures)

pub returns : goal.returns
returns c =
    front_polygon (corners_of c.args.corner (boxes_of c.args.boxes.numbers.now)) c.put_corner_keys.new.keys c.len-n.result
    (corners_length c.args.corner c.args.boxes.numbers.now ∙ sym c.len-n.ensures) (omega (arith, c.requires.scratch_for.in_keys)) c.put_corner_keys.ensures
    c.hull.new.vertices c.hull.result c.hull.ensures
