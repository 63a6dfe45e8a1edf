-- The names of the words (docs/SCOPE.md 8.2). Definitions only.
use Rattle.std.specs.Prelude.{ℕ, List, codes}
use Rattle.rounds.specs.declared.Word.{Word}
use Rattle.rounds.specs.declared.Word.TheVariants.{Inside, Outside, Undecided}

-- the name of a word, as its bytes
abbrev pub name_of : Word → List ℕ
name_of Inside = codes "inside"
name_of Outside = codes "outside"
name_of Undecided = codes "undecided"
