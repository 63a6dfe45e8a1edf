-- What the private step of the text asks. Definitions only.
use Rattle.std.specs.Prelude.{ℕ, ◌≤◌, List, length}
use Rattle.text_parts.specs.Steps.{most_vertices}

-- the most bytes of a text
abbrev pub most_text : ℕ
most_text = 98304

-- room for a whole text, and for the polygons of every round
pub record TextRoom (vertices text : List ℕ) : Type 0 where
  pub for_polygons : most_vertices ≤ length vertices
  pub for_text : most_text ≤ length text
