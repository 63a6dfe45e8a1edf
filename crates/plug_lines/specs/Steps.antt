-- What the steps of the plugs' lines ask and leave. Definitions only.
use Rattle.std.specs.Prelude.{Result, ℕ, ◌+◌, ◌*◌, ◌/◌, ◌≤◌, List, ℤ, length}
use Rattle.plane.specs.declared.Point.{Point}
use Rattle.plane.specs.Members.{All}
use Rattle.rounds.specs.Boxes.{Ordered, plugs_of}
use Rattle.rounds.specs.Replies.{reply_of}
use Rattle.rounds.specs.declared.Box.{Box}
use Rattle.outlines.specs.RoundPolygons.{RoundPolygons}
use Rattle.outlines.specs.declared.RoundCounts.{RoundCounts}
use Rattle.rounds.specs.declared.Refusal.{Refusal}
use Rattle.rounds.specs.declared.Word.{Word}
use Rattle.texts.specs.Text.{plug_line, plug_lines, Wrote}
use Rattle.plug_words.specs.Plugs.{WordBy}

-- ---- the most bytes of each part of a line, where a plug's number has up to four digits

-- of what stands after a plug's number
abbrev pub most_after_number : ℕ
most_after_number = 11

-- of a plug's line
abbrev pub most_plug_line : ℕ
most_plug_line = 15

-- the most plugs whose numbers have up to four digits
abbrev pub most_plugs : ℕ
most_plugs = 9999

-- room for so many bytes, and behind them for a line for each plug
pub record LineRoom (bytes : ℕ) (plugs : List ℤ) (out : List ℕ) : Type 0 where
  pub numbers : length plugs / 2 ≤ most_plugs
  pub lines : bytes + most_plug_line * (length plugs / 2) ≤ length out

-- behind so many plugs, these have numbers of up to four digits, and there is room for a line for each
pub record RoomBehind (before : ℕ) (plugs : List ℤ) (out : List ℕ) : Type 0 where
  pub numbers : before + length plugs / 2 ≤ most_plugs
  pub lines : most_plug_line * (length plugs / 2) ≤ length out

-- ---- plugs against the polygons of a round

-- the line of a plug was written, with that word or refusal
pub record LineBy (vertices : List ℕ) (counts : RoundCounts) (number : ℕ) (plug : Point) (entry : List ℕ) (count : ℕ) (exit : List ℕ) : Type 0 where
  pub reply : Result Word Refusal
  pub word : WordBy vertices counts plug reply
  pub wrote : Wrote (plug_line number (reply_of reply)) entry count exit

-- the lines of a plug list, behind so many plugs, were written, for all ordered boxes whose polygons they are
pub record LinesBehind (vertices : List ℕ) (counts : RoundCounts) (before : ℕ) (plugs : List ℤ) (entry : List ℕ) (count : ℕ) (exit : List ℕ) : Type 0 where
  pub says : (bs : List Box) → All Ordered bs → RoundPolygons bs vertices counts → Wrote (plug_lines (before + 1) bs (plugs_of plugs)) entry count exit
