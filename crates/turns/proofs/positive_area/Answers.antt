-- `turns::positive_area` meets its contract: a signed area that is not less than 0 is at most 2,048,000,000, and fits. Assumes nothing.
use mathlib.Core.Path.{◌≡◌}
use mir.Syntax.{w64}
use mir.Val.{to_z, of_z}
use Rattle.plane.specs.Points.{signed_area}
use Rattle.turns.specs.Keys.{point_of}
use Rattle.turns.proofs.Coordinates.{key_in_span}
use Rattle.turns.proofs.Bounds.{returned, area_upto, unsigned_fits, unsigned_is}
use Rattle.turns.proofs.positive_area.Goals as goal
use Rattle.turns.proofs.positive_area.Goals.{After-signed_area}

-- the signed area, as the machine reads it back
is : (c : After-signed_area) → to_z w64 (of_z w64 c.signed_area.result) ≡ signed_area (point_of c.before.args.a) (point_of c.before.args.b) (point_of c.before.args.c)
is c = returned w64 c.signed_area.type_inv c.signed_area.ensures.value

pub overflow_cast-result : goal.overflow_cast-result
overflow_cast-result c =
    let k = c.signed_area.ensures.keys in
    unsigned_fits (is c) c.before.requires (area_upto (key_in_span k.0) (key_in_span k.1) (key_in_span k.2)).high

pub returns : goal.returns
returns c = unsigned_is (is c) c.before.requires
