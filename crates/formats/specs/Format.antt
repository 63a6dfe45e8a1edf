-- The round file as bytes (docs/SCOPE.md 5.1): numbers, marks and records, as the writer gives them and as the reader finds them at an offset. Definitions only.
use Rattle.std.specs.Prelude.{ℕ, ◌+◌, ◌*◌, ◌/◌, ◌%◌, ◌<◌, cond, ◌&&◌, eqb, leb, ℤ, get_or}
use mathlib.Core.List.{List, [], ◌∷◌, ◌++◌, flat_map}
use Rattle.std.specs.Int.{w32}
use Rattle.std.proofs.Common.{of_z, to_z}
use Rattle.plane.specs.Points.{point}
use Rattle.plane.specs.declared.Point.{Point}
use Rattle.rounds.specs.Boxes.{box}
use Rattle.rounds.specs.declared.Box.{Box}

-- ---- the table of marks

-- a box's mark
abbrev pub box_mark : ℕ
box_mark = 0x5B01

-- a plug's mark
abbrev pub plug_mark : ℕ
plug_mark = 0x5B02

-- the end's mark
abbrev pub end_mark : ℕ
end_mark = 0x5B00

-- a note's mark is from the first to the last of these
abbrev pub first_note_mark : ℕ
first_note_mark = 0x5C00

abbrev pub last_note_mark : ℕ
last_note_mark = 0x5CFF

-- ---- lengths in bytes

-- of a mark, which is all of the end
abbrev pub mark_length : ℕ
mark_length = 2

-- of a box: its mark and four numbers
abbrev pub box_length : ℕ
box_length = 18

-- of a plug: its mark and two numbers
abbrev pub plug_length : ℕ
plug_length = 10

-- of a note's mark and length byte, before the bytes that it counts
abbrev pub note_head_length : ℕ
note_head_length = 3

-- ---- as the writer gives them

-- the two bytes of a mark, high byte first
unfoldable pub mark_bytes : ℕ → List ℕ
mark_bytes mark = mark / 256 ∷ mark % 256 ∷ []

-- the four bytes of a 32-bit number without a sign, high byte first
unfoldable pub four_bytes : ℕ → List ℕ
four_bytes n = n / 16777216 ∷ n / 65536 % 256 ∷ n / 256 % 256 ∷ n % 256 ∷ []

-- a number: four bytes, two's complement, high byte first
unfoldable pub number_bytes : ℤ → List ℕ
number_bytes z = four_bytes (of_z w32 z)

-- a box: its mark, then west, south, east, north
unfoldable pub box_record : Box → List ℕ
box_record b = mark_bytes box_mark ++ number_bytes b.west ++ number_bytes b.south ++ number_bytes b.east ++ number_bytes b.north

-- a plug: its mark, then east, north
unfoldable pub plug_record : Point → List ℕ
plug_record p = mark_bytes plug_mark ++ number_bytes p.east ++ number_bytes p.north

-- the end: its mark
unfoldable pub end_record : List ℕ
end_record = mark_bytes end_mark

-- what the writer gives: boxes, plugs and end, without notes
unfoldable pub file_of : List Box → List Point → List ℕ
file_of boxes plugs = flat_map box_record boxes ++ flat_map plug_record plugs ++ end_record

-- ---- as the reader finds them

-- the byte at an offset
abbrev pub byte_at : List ℕ → ℕ → ℕ
byte_at file at = get_or file at 0

-- every element is a byte, as in every slice of them
abbrev pub AllBytes : List ℕ → Type 0
AllBytes file = (i : ℕ) → byte_at file i < 256

-- the two-byte mark at an offset, high byte first
unfoldable pub mark_at : List ℕ → ℕ → ℕ
mark_at file at = byte_at file at * 256 + byte_at file (at + 1)

-- the number at an offset: four bytes, two's complement, high byte first
unfoldable pub number_at : List ℕ → ℕ → ℤ
number_at file at =
    to_z w32 (byte_at file at * 16777216 + byte_at file (at + 1) * 65536 + byte_at file (at + 2) * 256 + byte_at file (at + 3))

-- the box whose four numbers start at an offset of a file
unfoldable pub file_box_at : List ℕ → ℕ → Box
file_box_at file at = box (number_at file at) (number_at file (at + 4)) (number_at file (at + 8)) (number_at file (at + 12))

-- the plug whose two numbers start at an offset of a file
unfoldable pub file_plug_at : List ℕ → ℕ → Point
file_plug_at file at = point (number_at file at) (number_at file (at + 4))

-- the kinds of record in the table of marks, and none of them
pub data Kind : Type 0 where
  box_kind plug_kind note_kind end_kind unknown_kind : Kind

-- the kind that a mark says
unfoldable pub kind_of : ℕ → Kind
kind_of mark =
    cond (eqb mark box_mark) box_kind
    (cond (eqb mark plug_mark) plug_kind
    (cond (eqb mark end_mark) end_kind
    (cond (leb first_note_mark mark && leb mark last_note_mark) note_kind unknown_kind)))

-- the kind of the record at an offset
abbrev pub kind_at : List ℕ → ℕ → Kind
kind_at file at = kind_of (mark_at file at)

-- the offset after the record of a kind at an offset; a note has a length byte, then that many bytes
unfoldable pub next_at : Kind → List ℕ → ℕ → ℕ
next_at box_kind file at = at + box_length
next_at plug_kind file at = at + plug_length
next_at note_kind file at = at + note_head_length + byte_at file (at + mark_length)
next_at end_kind file at = at + mark_length
next_at unknown_kind file at = at + mark_length
