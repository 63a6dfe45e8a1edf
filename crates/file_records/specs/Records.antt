-- What stands at an offset of a file, and what a write leaves. Definitions only.
use Rattle.std.specs.Prelude.{Result, Ok, Err, ℕ, zero, suc, ◌+◌, Bool, List, [], ◌∷◌, ◌++◌, ℤ, length, take, drop}
use Rattle.rounds.specs.Refusals.{Fault, none, fault}
use Rattle.rounds.specs.declared.Refusal.{Refusal}
use Rattle.formats.specs.Format.{Kind, box_kind, plug_kind, note_kind, end_kind, unknown_kind, kind_at, next_at, number_at}
use Rattle.formats.specs.Content.{kind_fault, form_fault}
use Rattle.file_records.specs.declared.Record.{Record}
use Rattle.file_records.specs.declared.Record.TheVariants.{Box, Plug, Note, End}

-- a refusal under a fault, and what was found under none
abbrev pub refused_or : {A : Type 0} → Fault → A → Result A Refusal
refused_or (fault cause place) found = Err (record { cause = cause; place = place })
refused_or none found = Ok found

-- the record of a kind, with the offset after it
abbrev pub kind_record : Kind → ℕ → Record
kind_record box_kind next = Box next
kind_record plug_kind next = Plug next
kind_record note_kind next = Note next
kind_record end_kind next = End
kind_record unknown_kind next = End

-- what stands at an offset where a mark of a kind does
abbrev pub record_of : Kind → List ℕ → ℕ → Bool → Result Record Refusal
record_of kind file at plugged = refused_or (kind_fault kind file at plugged) (kind_record kind (next_at kind file at))

-- what stands at an offset
unfoldable pub record_at : List ℕ → ℕ → Bool → Result Record Refusal
record_at file at plugged = refused_or (form_fault file at plugged) (kind_record (kind_at file at) (next_at (kind_at file at) file at))

-- so many numbers from an offset on
abbrev pub numbers_at : List ℕ → ℕ → ℕ → List ℤ
numbers_at file from zero = []
numbers_at file from (suc more) = number_at file from ∷ numbers_at file (from + 4) more

-- a list with new elements over those from an offset on
abbrev pub over : {A : Type 0} → List A → ℕ → List A → List A
over xs at new = take at xs ++ (new ++ drop (at + length new) xs)
