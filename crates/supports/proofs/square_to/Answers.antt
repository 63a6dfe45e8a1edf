-- `supports::square_to` meets its contract: both parts are read back as they are. Assumes nothing.
use mathlib.Core.Path.{◌∙◌, ap₂}
use native.Mathlib.Omega.{arith}
use mir.Syntax.{w32}
use Rattle.integers.proofs.Expr.{◌⊖◌, ⊝◌, ◌≐◌}
use Rattle.integers.proofs.Lin.{lin}
use Rattle.turns.specs.Keys.{point_of}
use Rattle.turns.proofs.Bounds.{returned}
use Rattle.supports.proofs.square_to.Goals as goal

pub returns : goal.returns
returns c =
    record {
      value =
          ap₂ (λ e n. record { corner = c.args.corner; east = e; north = n })
          (returned w32 c.north_between-east.type_inv c.north_between-east.ensures.value
          ∙ lin 0 2 (λ x y. x ⊖ y ≐ ⊝ (y ⊖ x)) (omega arith) (point_of c.args.a.key).north (point_of c.args.plug).north)
          (returned w32 c.east_between-north.type_inv c.east_between-north.ensures.value);
      keys = c.east_between-north.ensures.keys;
    }
