-- `turns::positive_dot_product` meets its contract: a dot product that is not less than 0 is at most 2,048,000,000, and fits. Assumes nothing.
use mathlib.Core.Path.{◌≡◌}
use mir.Syntax.{w32}
use mir.Val.{to_z, of_z}
use Rattle.plane.specs.Points.{dot_product}
use Rattle.turns.specs.Keys.{point_of}
use Rattle.turns.proofs.Coordinates.{key_in_span}
use Rattle.turns.proofs.Bounds.{returned, dot_product_upto, unsigned_fits, unsigned_is}
use Rattle.turns.proofs.positive_dot_product.Goals as goal
use Rattle.turns.proofs.positive_dot_product.Goals.{After-dot_product}

-- the dot product, as the machine reads it back
is : (c : After-dot_product) → to_z w32 (of_z w32 c.dot_product.result) ≡ dot_product (point_of c.before.args.a) (point_of c.before.args.b) (point_of c.before.args.c)
is c = returned w32 c.dot_product.type_inv c.dot_product.ensures.value

pub overflow_cast-result : goal.overflow_cast-result
overflow_cast-result c =
    let k = c.dot_product.ensures.keys in
    unsigned_fits (is c) c.before.requires (dot_product_upto (key_in_span k.0) (key_in_span k.1) (key_in_span k.2)).high

pub returns : goal.returns
returns c = unsigned_is (is c) c.before.requires
