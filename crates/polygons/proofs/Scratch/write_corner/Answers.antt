-- `polygons::Scratch::write_corner` meets its contract: the points of the polygon's keys are its vertices. Assumes nothing.
use native.Mathlib.Omega.{arith}
use Rattle.polygons.proofs.Behind.{few, written}
use Rattle.polygons.proofs.Scratch.write_corner.Goals as goal

pub returns : goal.returns
returns g c =
    let p = c.corner_outline-count in
    written _ p.new.vertices p.result c.args.answer.now c.write_vertices.new.answer p.ensures
    (omega (arith, few _ c.args.boxes.numbers.now p.ensures.few, c.requires.size)) c.write_vertices.ensures
