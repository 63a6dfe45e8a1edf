-- `turns::Key::east` meets its contract: a part of a key is small, so the machine reads it back as it is. Assumes nothing.
use mathlib.Core.Path.{◌∙◌, ap}
use Prim.Native.Nat.{ℕ, ◌≤◌}
use native.Mathlib.Omega.{arith}
use lib.IntN.{pos, ◌-ℤ◌}
use Rattle.plane.specs.Points.{span}
use Rattle.turns.specs.Keys.{greatest_part, point_of}
use Rattle.turns.proofs.Coordinates.{part_fits, part_is}
use Rattle.turns.proofs.Key.east.Goals as goal
use Rattle.turns.proofs.Key.east.Goals.{After-east_part}

small : (c : After-east_part) → c.east_part.result ≤ greatest_part
small c = omega (arith, c.east_part.ensures.value, c.east_part.ensures.key.east_in)

pub overflow_sub-result : goal.overflow_sub-result
overflow_sub-result c = part_fits c.east_part.result (small c)

pub returns : goal.returns
unfolding point_of
returns c =
    record {
      value = part_is c.east_part.result (small c) ∙ ap (λ (n : ℕ). pos n -ℤ pos span) c.east_part.ensures.value;
      key = c.east_part.ensures.key;
    }
