-- The example of the printing program (docs/SCOPE.md 8.3), of the definition itself. Assumes nothing.
use mathlib.Core.Path.{◌≡◌, refl, sym}
use mathlib.Core.List.{List, [], ◌∷◌, flat_map}
use Prim.Native.Nat.{ℕ}
use lib.IntN.{pos}
use Rattle.plane.specs.Points.{point}
use Rattle.rounds.specs.Boxes.{box}
use Rattle.rounds.specs.declared.Box.{Box}
use Rattle.rounds.specs.declared.Entry.{Entry}
use Rattle.rounds.specs.Refusals.{none, input_fault, box_list_fault, each_box_fault, box_fault, edge_beyond, edges_reversed, beyond, plug_fault}
use Rattle.rounds.specs.Words.{word_of}
use Rattle.rounds.specs.declared.Word.TheVariants.{Outside, Undecided}
use Rattle.rounds.specs.declared.Corner.{Corner}
use Rattle.rounds.specs.declared.Corner.TheVariants.{SouthWest, NorthEast}
use Rattle.rounds.proofs.Checks.{ordered_yes, outside_yes, undecided_yes}
use Rattle.rounds.proofs.Total.{exactly}
use Rattle.formats.specs.Format.{mark_at, number_at, file_box_at, file_plug_at, kind_of, next_at}
use Rattle.formats.specs.Content.{kind_fault, form_fault, read_from, content_of}
use Rattle.texts.specs.Decimals.{digits_of, decimal}
use Rattle.texts.specs.Text.{ascii, count_line, plug_line, plug_lines, whole_fault, text_of}

-- its bytes: a box 0 0 4 4, the plugs (2, 2) and (5, 2), and the end
abbrev pub example : List ℕ
example =
    0x5B ∷ 0x01 ∷ 0 ∷ 0 ∷ 0 ∷ 0 ∷ 0 ∷ 0 ∷ 0 ∷ 0 ∷ 0 ∷ 0 ∷ 0 ∷ 4 ∷ 0 ∷ 0 ∷ 0 ∷ 4
    ∷ 0x5B ∷ 0x02 ∷ 0 ∷ 0 ∷ 0 ∷ 2 ∷ 0 ∷ 0 ∷ 0 ∷ 2
    ∷ 0x5B ∷ 0x02 ∷ 0 ∷ 0 ∷ 0 ∷ 5 ∷ 0 ∷ 0 ∷ 0 ∷ 2
    ∷ 0x5B ∷ 0x00 ∷ []

one : List Box
one = box (pos 0) (pos 0) (pos 4) (pos 4) ∷ []

entry : Corner → ℕ → Entry
entry c w = record { number = 1; corner = c; weight = w }

-- the words of its two plugs
first : word_of one (point (pos 2) (pos 2)) ≡ Undecided
unfolding one entry
first =
    sym ((exactly one (point (pos 2) (pos 2)) (ordered_yes one tt) Undecided).0
    (undecided_yes one (point (pos 2) (pos 2)) SouthWest (pos 1) (pos 0) (entry SouthWest 1 ∷ entry NorthEast 1 ∷ entry SouthWest 0 ∷ []) tt tt tt tt tt tt tt))

second : word_of one (point (pos 5) (pos 2)) ≡ Outside
unfolding one
second = sym ((exactly one (point (pos 5) (pos 2)) (ordered_yes one tt) Outside).0 (outside_yes one (point (pos 5) (pos 2)) (pos 1) (pos 0) tt))

-- what it holds
held : content_of example ≡ record { fault = none; boxes = one; plugs = point (pos 2) (pos 2) ∷ point (pos 5) (pos 2) ∷ []; notes = 0 }
unfolding content_of read_from form_fault kind_fault kind_of next_at mark_at file_box_at file_plug_at number_at one
held = refl

-- what it prints
pub printed : text_of example ≡ ascii "boxes 1 plugs 2\n1 undecided\n2 outside\n"
unfolding text_of whole_fault input_fault flat_map one box_list_fault each_box_fault box_fault edge_beyond edges_reversed beyond plug_fault plug_lines plug_line count_line decimal digits_of
printed = rw (held, first, second)
