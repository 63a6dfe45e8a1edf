-- `polygons::write_corners_sized` meets its contract: the northern polygons stand behind the southern ones. Assumes nothing.
use native.Mathlib.Omega.{arith}
use Rattle.rounds.specs.Boxes.{boxes_of}
use Rattle.polygons.proofs.Behind.{few, corners_written}
use Rattle.polygons.proofs.write_corners_sized.Goals as goal

pub returns : goal.returns
returns g c =
    let l = c.args.boxes.numbers.now in
    let s = c.append_two_corners-southwest in
    let n = c.append_two_corners-northeast in
    corners_written (boxes_of l) c.args.answer.now s.new.answer n.new.answer s.result.0 s.result.1 n.result.0 n.result.1
    (omega (arith, few _ l s.ensures.first.few, few _ l s.ensures.second.few, c.requires.answer_room)) s.ensures n.ensures
