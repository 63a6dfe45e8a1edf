-- What reading the input came to, and what printing asks for. Definitions only.
use Rattle.std.specs.Prelude.{List, ℕ, ◌≡◌, ◌≤◌, length, take}
use Rattle.text_parts.specs.Steps.{most_vertices}

-- n is the length of a front of some bytes. The second part follows from the first; both are stated so that Rattle proves a part `[..n]` by itself.
abbrev pub IsPrefixLen : ℕ → List ℕ → Type 0
IsPrefixLen n bytes = (n ≤ length bytes) × (n ≡ length (take n bytes))

-- ---- printing

-- bytes that are enough for an opening, and for the lines of a piece
abbrev pub piece_length : ℕ
piece_length = 4096

-- room for the polygons of every round, and for an opening or the lines of a piece
pub record PrintingRoom (vertices text : List ℕ) : Type 0 where
  pub for_polygons : most_vertices ≤ length vertices
  pub for_piece : piece_length ≤ length text
