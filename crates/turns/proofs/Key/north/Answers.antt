-- `turns::Key::north` meets its contract: a part of a key is small, so the machine reads it back as it is. Assumes nothing.
use mathlib.Core.Path.{◌∙◌, ap}
use Prim.Native.Nat.{ℕ, ◌≤◌}
use native.Mathlib.Omega.{arith}
use lib.IntN.{pos, ◌-ℤ◌}
use Rattle.plane.specs.Points.{span}
use Rattle.turns.specs.Keys.{greatest_part, point_of}
use Rattle.turns.proofs.Coordinates.{part_fits, part_is}
use Rattle.turns.proofs.Key.north.Goals as goal
use Rattle.turns.proofs.Key.north.Goals.{After-north_part}

small : (c : After-north_part) → c.north_part.result ≤ greatest_part
small c = omega (arith, c.north_part.ensures.value, c.north_part.ensures.key.north_in)

pub overflow_sub-result : goal.overflow_sub-result
overflow_sub-result c = part_fits c.north_part.result (small c)

pub returns : goal.returns
unfolding point_of
returns c =
    record {
      value = part_is c.north_part.result (small c) ∙ ap (λ (n : ℕ). pos n -ℤ pos span) c.north_part.ensures.value;
      key = c.north_part.ensures.key;
    }
