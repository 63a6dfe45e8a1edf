-- A text in parts: what its opening and the pieces of its lines ask and leave. Definitions only.
use Rattle.std.specs.Prelude.{Option, None, Some, Result, Ok, Err, ℕ, ◌+◌, ◌-◌, ◌*◌, ◌≤◌, ◌<◌, min, ◌≡◌, List, [], ◌++◌, length}
use Rattle.rounds.specs.Refusals.{number_of}
use Rattle.rounds.specs.declared.Refusal.{Refusal}
use Rattle.texts.specs.Text.{refused_line, text_of, Wrote}
use Rattle.plug_lines.specs.Steps.{most_plug_line}
use Rattle.text_parts.specs.Waiting.{most_piece, lines_left}
use Rattle.text_parts.specs.declared.lines_left.LinesLeft.{LinesLeft}
use Rattle.text_parts.specs.declared.lines_left.Piece.{Piece}
use Rattle.text_parts.specs.declared.Opening.{Opening}

-- ---- the most there can be

-- bytes of the line of a refusal, where a number has up to twenty digits
abbrev pub most_refused_line : ℕ
most_refused_line = 50

-- bytes of the line of the counts, where both have up to four digits
abbrev pub most_count_line : ℕ
most_count_line = 22

-- vertices of the five polygons of a round
abbrev pub most_vertices : ℕ
most_vertices = 8192

-- room for an opening, and for the polygons of every round
pub record OpeningRoom (vertices out : List ℕ) : Type 0 where
  pub for_polygons : most_vertices ≤ length vertices
  pub for_line : most_refused_line ≤ length out

-- ---- the lines that are left

-- how many plugs have no line yet
abbrev pub count_left : Option LinesLeft → ℕ
count_left None = 0
count_left (Some l) = l.count

-- their lines
abbrev pub text_left : Option LinesLeft → List ℕ
text_left None = []
text_left (Some l) = lines_left l.file.now l.at l.done

-- they are of that file, and behind so many others
abbrev pub Behind : List ℕ → ℕ → Option LinesLeft → Type 0
Behind file done None = Unit {0}
Behind file done (Some l) = (l.file.now ≡ file) × (l.done ≡ done)

-- they are those of so many plugs of a file, from an offset on, behind so many others
pub record LeftFrom (file : List ℕ) (at done count : ℕ) (r : Option LinesLeft) : Type 0 where
  pub counted : count_left r ≡ count
  pub lines : text_left r ≡ lines_left file at done
  pub behind : Behind file done r

-- ---- the parts

-- the opening of a file's text was written; with the lines that are left it is the text
pub record Opened (file entry : List ℕ) (r : Opening) (exit : List ℕ) : Type 0 where
  pub opening : List ℕ
  pub wrote : Wrote opening entry r.bytes exit
  pub is : opening ++ text_left r.left ≡ text_of file
  pub few : 0 < count_left r.left → r.bytes ≤ most_count_line
  pub behind : Behind file 0 r.left

-- the same, or nothing was written and the line of the refusal is the text
abbrev pub OpenedOrRefused : List ℕ → List ℕ → Result Opening Refusal → List ℕ → Type 0
OpenedOrRefused file entry (Ok r) exit = Opened file entry r exit
OpenedOrRefused file entry (Err refusal) exit = (refused_line (number_of refusal.cause) refusal.place ≡ text_of file) × (exit ≡ entry)

-- the lines of the next plugs were written, and the lines of the others are still to come
pub record NextLines (l : LinesLeft) (entry : List ℕ) (r : Piece) (exit : List ℕ) : Type 0 where
  pub lines : List ℕ
  pub wrote : Wrote lines entry r.bytes exit
  pub few : r.bytes ≤ most_plug_line * min l.count most_piece
  pub further : count_left r.left ≡ l.count - min l.count most_piece
  pub is : lines ++ text_left r.left ≡ text_left (Some l)
  pub behind : Behind l.file.now (l.done + min l.count most_piece) r.left
