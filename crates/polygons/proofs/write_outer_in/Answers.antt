-- `polygons::write_outer_in` meets its contract: the points of the polygon's keys are its vertices. Assumes nothing.
use mathlib.Core.Path.{sym}
use native.Mathlib.Omega.{arith}
use Rattle.std.proofs.lemmas.List.{length-take, length-take-le}
use Rattle.outlines.proofs.Polygons.{all_length}
use Rattle.polygons.proofs.Behind.{written}
use Rattle.polygons.proofs.write_outer_in.Goals as goal

pub slice_bounds-write_vertices-end-2 : goal.slice_bounds-write_vertices-end-2
slice_bounds-write_vertices-end-2 c =
    let whole = c.args.boxes.accepted.whole in
    sym (length-take-le _ c.quartered_outline-count.new.vertices (omega (arith, c.quartered_outline-count.ensures.few, all_length c.args.boxes.numbers.now whole, whole, c.requires.outer_room)))

pub write_vertices-requires : goal.write_vertices-requires
write_vertices-requires c =
    let p = c.quartered_outline-count in
    simp length-take (omega (arith, p.ensures.few, all_length c.args.boxes.numbers.now c.args.boxes.accepted.whole, c.requires.answer_room))

pub returns : goal.returns
returns c =
    let p = c.quartered_outline-count in
    let whole = c.args.boxes.accepted.whole in
    written _ p.new.vertices p.result c.args.answer.now c.write_vertices.new.answer p.ensures
    (omega (arith, p.ensures.few, all_length c.args.boxes.numbers.now whole, whole, c.requires.outer_room)) c.write_vertices.ensures
