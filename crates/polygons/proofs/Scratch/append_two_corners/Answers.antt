-- `polygons::Scratch::append_two_corners` meets its contract: the second polygon stands behind the first. Assumes nothing.
use native.Mathlib.Omega.{arith}
use Rattle.polygons.proofs.Behind.{few, two_written}
use Rattle.polygons.proofs.Scratch.append_two_corners.Goals as goal

pub returns : goal.returns
returns g c =
    two_written _ _ c.args.answer.now c.append_corner-one.new.answer c.append_corner-other.new.answer c.args.from c.append_corner-one.result c.append_corner-other.result
    (omega (arith, few _ c.args.boxes.numbers.now c.append_corner-one.ensures.made.few, c.requires.answer_room)) c.append_corner-one.ensures c.append_corner-other.ensures
