-- `words::Polygons::of_corner` meets its contract: the part of the vertices is the polygon's, and these are keys. Assumes nothing.
use mathlib.Core.Path.{◌≡◌, subst}
use Rattle.std.proofs.Common.{rules}
use Rattle.turns.specs.Keys.{IsKey}
use Rattle.plane.specs.Members.{All}
use Rattle.outlines.specs.RoundPolygons.{corner_vertices}
use Rattle.words.proofs.Polygons.of_corner.Goals as goal

pub invariant_of-result : goal.invariant_of-result
invariant_of-result c =
    let p = c.args.self in
    let part : corner_vertices p.counts c.args.corner p.vertices.now ≡ c.match-corner.codes.now = search rules in
    record { all_keys = subst (All IsKey) part (p.keys.corners c.args.corner).keys }
