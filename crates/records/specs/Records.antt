-- Boxes as records, and the flat list of their edges. Definitions only.
use Rattle.std.specs.Prelude.{List, [], ◌∷◌, ℤ}
use Rattle.rounds.specs.declared.Box.{Box}

-- the flat list of records: the west, south, east and north of each, in the order of docs/SCOPE.md 1.2
abbrev pub edges_of : List Box → List ℤ
edges_of [] = []
edges_of (b ∷ bs) = b.west ∷ b.south ∷ b.east ∷ b.north ∷ edges_of bs
