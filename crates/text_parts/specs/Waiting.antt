-- Plugs of a file whose lines are still to be written. Definitions only.
use Rattle.std.specs.Prelude.{ℕ, ◌+◌, ◌≤◌, ◌≡◌, List, length}
use Rattle.plane.specs.Members.{All}
use Rattle.rounds.specs.Boxes.{Ordered}
use Rattle.rounds.specs.Refusals.{none}
use Rattle.plug_words.specs.Shapes.{ShapesOf}
use Rattle.plug_words.specs.declared.RoundShapes.{RoundShapes}
use Rattle.formats.specs.Content.{content_of}
use Rattle.file_passes.specs.Steps.{ahead}
use Rattle.texts.specs.Text.{plug_lines}

-- the most plugs of an input with a box
abbrev pub most_file_plugs : ℕ
most_file_plugs = 6551

-- the most plugs of a piece
abbrev pub most_piece : ℕ
most_piece = 256

-- so many plugs of a file have their lines, and so many others are ahead of an offset; the shapes are those of the round
pub record Waiting (file : List ℕ) (shapes : RoundShapes) (at done count : ℕ) : Type 0 where
  pub shapes_of : ∥ ShapesOf (content_of file).boxes shapes ∥₁
  pub ordered : All Ordered (content_of file).boxes
  pub within : at ≤ length file
  pub well_formed : (ahead file at).fault ≡ none
  pub left : length (ahead file at).plugs ≡ count
  pub few : done + count ≤ most_file_plugs

-- the lines of the others
abbrev pub lines_left : List ℕ → ℕ → ℕ → List ℕ
lines_left file at done = plug_lines (done + 1) (content_of file).boxes (ahead file at).plugs
