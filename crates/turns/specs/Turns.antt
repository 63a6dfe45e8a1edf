-- The turn that a signed area stands for. Definitions only.
use Rattle.std.specs.Prelude.{zero, suc, ℤ, pos, negsuc}
use Rattle.turns.specs.declared.Turn.{Turn}
use Rattle.turns.specs.declared.Turn.TheVariants.{Right, Straight, Left}

-- less than 0: a right turn, clockwise; 0: in line; more than 0: a left turn
abbrev pub turn_of : ℤ → Turn
turn_of (negsuc n) = Right
turn_of (pos zero) = Straight
turn_of (pos (suc n)) = Left
