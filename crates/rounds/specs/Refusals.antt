-- The table of refusals (docs/SCOPE.md 6.2, 6.3): each cause with its number, and the order of the causes for each call. Definitions only.
use Rattle.std.specs.Prelude.{Result, Ok, Err, cond, ℕ, ◌+◌, ◌*◌, ◌/◌, ◌%◌, min, Bool, true, false, not, ◌||◌, List, [], ◌∷◌, ℤ, pos, neg_ℤ, eqb, ltb, length}
use Rattle.std.specs.Int.Signed.{lt_z}
use Rattle.plane.specs.Points.{span}
use Rattle.plane.specs.declared.Point.{Point}
use Rattle.rounds.specs.Boxes.{boxes_of, plugs_of, most_boxes}
use Rattle.rounds.specs.declared.Box.{Box}
use Rattle.rounds.specs.declared.Cause.{Cause}
use Rattle.rounds.specs.declared.Refusal.{Refusal}

-- ---- the causes, row by row

-- the number of a cause
abbrev pub number_of : Cause → ℕ
number_of Cause.ListLength = 1
number_of Cause.NoBox = 2
number_of Cause.TooManyBoxes = 3
number_of Cause.EdgeBeyond = 4
number_of Cause.EdgesReversed = 5
number_of Cause.PlugBeyond = 6
number_of Cause.BufferShort = 7
number_of Cause.UnknownMark = 8
number_of Cause.CutShort = 9
number_of Cause.BoxAfterPlug = 10
number_of Cause.ByteAfterEnd = 11
number_of Cause.InputTooLong = 12

-- the cause of a number
abbrev pub cause_meant : ℕ → Cause
cause_meant n =
    cond (eqb n 1) Cause.ListLength
    (cond (eqb n 2) Cause.NoBox
    (cond (eqb n 3) Cause.TooManyBoxes
    (cond (eqb n 4) Cause.EdgeBeyond
    (cond (eqb n 5) Cause.EdgesReversed
    (cond (eqb n 6) Cause.PlugBeyond
    (cond (eqb n 7) Cause.BufferShort
    (cond (eqb n 8) Cause.UnknownMark
    (cond (eqb n 9) Cause.CutShort
    (cond (eqb n 10) Cause.BoxAfterPlug
    (cond (eqb n 11) Cause.ByteAfterEnd Cause.InputTooLong))))))))))

-- what a call is turned back by: nothing, or a cause and the place returned
pub data Fault : Type 0 where
  none : Fault
  fault : Cause → ℕ → Fault

-- the fault that a refusal returns, and each case of a call's answer
abbrev pub refusal_fault : Refusal → Fault
refusal_fault r = fault r.cause r.place

abbrev pub fault_of : {A : Type 0} → Result A Refusal → Fault
fault_of (Ok a) = none
fault_of (Err r) = refusal_fault r

-- the place of cause 7: the length needed, or the largest 64-bit number if that is less
abbrev pub needed_place : ℕ → ℕ
needed_place needed = min needed 18446744073709551615

-- the most bytes of the printing program's input, which is the place of cause 12
abbrev pub most_input : ℕ
most_input = 65536

-- ---- the order

-- the cause with its place, under its condition
abbrev pub when : Bool → Cause → ℕ → Fault
when true cause place = fault cause place
when false cause place = none

-- the first of two that there is
infixr 30 ◌or_else◌
abbrev pub ◌or_else◌ : Fault → Fault → Fault
none or_else g = g
fault c p or_else g = fault c p

-- a coordinate beyond ±16,000
unfoldable pub beyond : ℤ → Bool
beyond x = lt_z x (neg_ℤ (pos span)) || lt_z (pos span) x

-- an edge of a box is beyond ±16,000
unfoldable pub edge_beyond : Box → Bool
edge_beyond b = beyond b.west || (beyond b.south || (beyond b.east || beyond b.north))

-- west over east, or south over north
unfoldable pub edges_reversed : Box → Bool
edges_reversed b = lt_z b.east b.west || lt_z b.north b.south

-- box number k: 4 before 5
unfoldable pub box_fault : ℕ → Box → Fault
box_fault k b = when (edge_beyond b) Cause.EdgeBeyond k or_else when (edges_reversed b) Cause.EdgesReversed k

-- box by box, the first of them having the number k
unfoldable pub each_box_fault : ℕ → List Box → Fault
each_box_fault k [] = none
each_box_fault k (b ∷ bs) = box_fault k b or_else each_box_fault (k + 1) bs

-- a box list: 1, 2, 3; then box by box
unfoldable pub box_list_fault : List ℤ → Fault
box_list_fault l =
    when (not (eqb (length l % 4) 0)) Cause.ListLength (length l) or_else
    when (eqb (length l) 0) Cause.NoBox 0 or_else
    when (ltb most_boxes (length l / 4)) Cause.TooManyBoxes (length l / 4) or_else
    each_box_fault 1 (boxes_of l)

-- plug number k
unfoldable pub plug_fault : ℕ → Point → Fault
plug_fault k p = when (beyond p.east || beyond p.north) Cause.PlugBeyond k

-- plug by plug, the first of them having the number k
unfoldable pub each_plug_fault : ℕ → List Point → Fault
each_plug_fault k [] = none
each_plug_fault k (p ∷ ps) = plug_fault k p or_else each_plug_fault (k + 1) ps

-- a plug list: 1, then plug by plug
unfoldable pub plug_list_fault : List ℤ → Fault
plug_list_fault l = when (not (eqb (length l % 2) 0)) Cause.ListLength (length l) or_else each_plug_fault 1 (plugs_of l)

-- a lent buffer of a length, where a length is needed
unfoldable pub buffer_fault : ℕ → ℕ → Fault
buffer_fault needed given = when (ltb given needed) Cause.BufferShort (needed_place needed)

-- the outer polygon and the corner polygons, into a buffer of a length: the boxes, then 7 for 8 × N numbers
unfoldable pub area_fault : List ℤ → ℕ → Fault
area_fault boxes given = box_list_fault boxes or_else buffer_fault (8 * (length boxes / 4)) given

-- the verdict on one plug: the boxes, then the plug with place 1
unfoldable pub verdict_fault : List ℤ → Point → Fault
verdict_fault boxes plug = box_list_fault boxes or_else plug_fault 1 plug

-- the writer, which needs so many bytes: the boxes, the plug list, then 7
unfoldable pub write_fault : List ℤ → List ℤ → ℕ → ℕ → Fault
write_fault boxes plugs needed given = box_list_fault boxes or_else plug_list_fault plugs or_else buffer_fault needed given

-- the reader, of a file with a fault of form (8 to 11) or with so many boxes and plugs: the form, then 7 for boxes, then 7 for plugs
unfoldable pub read_fault : Fault → ℕ → ℕ → ℕ → ℕ → Fault
read_fault form boxes plugs boxesGiven plugsGiven =
    form or_else buffer_fault (4 * boxes) boxesGiven or_else buffer_fault (2 * plugs) plugsGiven

-- the printing program's input of a length
unfoldable pub input_fault : ℕ → Fault
input_fault given = when (ltb most_input given) Cause.InputTooLong most_input
