-- `outlines::quartered_outline` meets its contract. Assumes nothing.
use mathlib.Core.Path.{◌∙◌}
use native.Mathlib.Omega.{arith}
use lib.ListN.{length-set}
use lib.Seq.{get_or-set_same}
use Rattle.outlines.proofs.Outer.{corners_keyed, outer_one}
use Rattle.outlines.proofs.quartered_outline.Goals as goal

pub returns-then-le : goal.returns-then-le
returns-then-le c =
    let e = c.find_corner_ends-ends in
    outer_one (corners_keyed c.args.boxes.numbers.now c.args.boxes.accepted) _ (simp length-set (omega (arith, c.requires.outer_room.in_vertices))) e.ensures (grind (arith, c.le.ensures, c.if-le.true))
    (get_or-set_same c.args.vertices.now 0 c.code.result 0 (omega (arith, c.requires.outer_room.in_vertices)) ∙ c.code.ensures.value)
