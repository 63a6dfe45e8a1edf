-- The four corners, tried one after another. Assumes nothing.
use mathlib.Core.List.{List, [], ◌∷◌}
use native.Mathlib.Omega.{arith}
use Rattle.std.specs.List.{AllWithin}
use Rattle.rounds.specs.declared.Corner.{Corner}
use Rattle.rounds.specs.declared.Corner.TheVariants.{SouthWest, SouthEast, NorthEast, NorthWest}

-- as `Corner::ALL` lists them
abbrev pub all : List Corner
all = SouthWest ∷ SouthEast ∷ NorthEast ∷ NorthWest ∷ []

-- what holds of each that is listed holds of each
pub each : (P : Corner → Type 0) → AllWithin P all 0 4 → (c : Corner) → P c
each P h SouthWest = h 0 SouthWest (omega arith) (omega arith)
each P h SouthEast = h 1 SouthWest (omega arith) (omega arith)
each P h NorthEast = h 2 SouthWest (omega arith) (omega arith)
each P h NorthWest = h 3 SouthWest (omega arith) (omega arith)
