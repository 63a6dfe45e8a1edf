-- What the reader and the writer promise: the reply, and every number or byte of each lent buffer at exit, refusals too. Definitions only.
use Rattle.std.specs.Prelude.{Result, ℕ, ◌+◌, ◌*◌, ◌/◌, ◌≡◌, ℤ, length}
use mathlib.Core.List.{List, [], ◌∷◌, flat_map}
use Rattle.plane.specs.declared.Point.{Point}
use Rattle.rounds.specs.Boxes.{boxes_of, plugs_of}
use Rattle.rounds.specs.declared.Box.{Box}
use Rattle.rounds.specs.Refusals.{Fault, read_fault, write_fault}
use Rattle.rounds.specs.Replies.{reply_of, reply_under, buffer_under}
use Rattle.rounds.specs.declared.Refusal.{Refusal}
use Rattle.formats.specs.Format.{mark_length, box_length, plug_length, file_of}
use Rattle.formats.specs.Content.{Content, content_of}
use Rattle.formats.specs.declared.Counts.{Counts}

-- ---- the reader

-- a box as four numbers of a buffer
abbrev pub edges : Box → List ℤ
edges b = b.west ∷ b.south ∷ b.east ∷ b.north ∷ []

-- a plug as two numbers of a buffer, east then north
abbrev pub coordinates : Point → List ℤ
coordinates p = p.east ∷ p.north ∷ []

-- both counts
abbrev pub counts_of : Content → Counts
counts_of held = record { boxes = length held.boxes; plugs = length held.plugs }

-- what the reader is turned back by: the fault of form, then 7 for boxes, then 7 for plugs
unfoldable pub reader_fault : List ℕ → List ℤ → List ℤ → Fault
reader_fault file boxes plugs =
    let held = content_of file in
    read_fault held.fault (length held.boxes) (length held.plugs) (length boxes) (length plugs)

-- a file was read into two lent buffers
pub record RoundRead (file : List ℕ) (boxesEntry plugsEntry : List ℤ) (reading : Result Counts Refusal) (boxesExit plugsExit : List ℤ) : Type 0 where
  pub reply : reply_of reading ≡ reply_under (reader_fault file boxesEntry plugsEntry) (counts_of (content_of file))
  pub boxes : boxesExit ≡ buffer_under (reader_fault file boxesEntry plugsEntry) (flat_map edges (content_of file).boxes) boxesEntry
  pub plugs : plugsExit ≡ buffer_under (reader_fault file boxesEntry plugsEntry) (flat_map coordinates (content_of file).plugs) plugsEntry

-- ---- the writer

-- the byte count: every box, every plug, and the end, which is its mark
unfoldable pub byte_count : List ℤ → List ℤ → ℕ
byte_count boxes plugs = box_length * (length boxes / 4) + plug_length * (length plugs / 2) + mark_length

-- what the writer is turned back by: the boxes, the plug list by 1 and 6, then 7
unfoldable pub writer_fault : List ℤ → List ℤ → List ℕ → Fault
writer_fault boxes plugs file = write_fault boxes plugs (byte_count boxes plugs) (length file)

-- boxes and plugs were written to a lent buffer of bytes
pub record RoundWritten (boxes plugs : List ℤ) (fileEntry : List ℕ) (writing : Result ℕ Refusal) (fileExit : List ℕ) : Type 0 where
  pub reply : reply_of writing ≡ reply_under (writer_fault boxes plugs fileEntry) (byte_count boxes plugs)
  pub file : fileExit ≡ buffer_under (writer_fault boxes plugs fileEntry) (file_of (boxes_of boxes) (plugs_of plugs)) fileEntry
