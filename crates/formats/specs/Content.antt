-- What a round file holds, and its fault of form, 8 to 11 (docs/SCOPE.md 6.4). Definitions only.
use Rattle.std.specs.Prelude.{ℕ, suc, zero, ◌+◌, Bool, true, false, List, [], ◌∷◌, ltb, length}
use Rattle.plane.specs.declared.Point.{Point}
use Rattle.rounds.specs.declared.Box.{Box}
use Rattle.rounds.specs.declared.Cause.TheVariants as Cause
use Rattle.rounds.specs.Refusals.{Fault, none, fault, when, ◌or_else◌}
use Rattle.formats.specs.Format.{mark_length, Kind, box_kind, plug_kind, note_kind, end_kind, unknown_kind, kind_at, next_at, file_box_at, file_plug_at}

-- 9 where the file stops before `next`: its place is the offset where the record begins, which is the file length where there is none
abbrev pub stops_before : ℕ → List ℕ → ℕ → Fault
stops_before next file at = when (ltb (length file) next) Cause.CutShort at

-- the fault of a record of a kind at an offset; `plugged` says that a plug stands before it; 10 comes before 9
unfoldable pub kind_fault : Kind → List ℕ → ℕ → Bool → Fault
kind_fault box_kind file at plugged = when plugged Cause.BoxAfterPlug at or_else stops_before (next_at box_kind file at) file at
kind_fault plug_kind file at plugged = stops_before (next_at plug_kind file at) file at
kind_fault note_kind file at plugged = stops_before (next_at note_kind file at) file at
kind_fault end_kind file at plugged = when (ltb (at + mark_length) (length file)) Cause.ByteAfterEnd (at + mark_length)
kind_fault unknown_kind file at plugged = fault Cause.UnknownMark at

-- the fault at an offset: 9 for a lone byte and where the file ends with no end record, then by kind
unfoldable pub form_fault : List ℕ → ℕ → Bool → Fault
form_fault file at plugged = stops_before (at + mark_length) file at or_else kind_fault (kind_at file at) file at plugged

-- what a file holds: its boxes and plugs in order and the count of its notes, up to the end or to its fault of form
pub record Content : Type 0 where
  pub fault : Fault
  pub boxes : List Box
  pub plugs : List Point
  pub notes : ℕ

-- no more, for a fault or for none
abbrev pub stop : Fault → Content
stop f = record { fault = f; boxes = []; plugs = []; notes = 0 }

-- a fault, or a record of a kind at an offset, before the rest
abbrev pub and_then : Fault → Kind → List ℕ → ℕ → Content → Content
and_then (fault cause place) kind file at rest = stop (fault cause place)
and_then none box_kind file at rest =
    record {
      fault = rest.fault;
      boxes = file_box_at file (at + mark_length) ∷ rest.boxes;
      plugs = rest.plugs;
      notes = rest.notes;
    }
and_then none plug_kind file at rest =
    record {
      fault = rest.fault;
      boxes = rest.boxes;
      plugs = file_plug_at file (at + mark_length) ∷ rest.plugs;
      notes = rest.notes;
    }
and_then none note_kind file at rest =
    record { fault = rest.fault; boxes = rest.boxes; plugs = rest.plugs; notes = suc rest.notes }
and_then none end_kind file at rest = stop none
and_then none unknown_kind file at rest = stop none

-- whether a plug stands before the record after this one
abbrev pub plugged_by : Kind → Bool → Bool
plugged_by box_kind plugged = plugged
plugged_by plug_kind plugged = true
plugged_by note_kind plugged = plugged
plugged_by end_kind plugged = plugged
plugged_by unknown_kind plugged = plugged

-- what stands from an offset on, record by record, for so many records at most
unfoldable pub read_from : ℕ → List ℕ → ℕ → Bool → Content
read_from zero file at plugged = stop (fault Cause.CutShort at)
read_from (suc records) file at plugged =
    let kind = kind_at file at in
    let rest = read_from records file (next_at kind file at) (plugged_by kind plugged) in
    and_then (form_fault file at plugged) kind file at rest

-- what a file holds; a file has no more records than bytes (proofs/Scan.antt, `enough`: more of them change nothing)
unfoldable pub content_of : List ℕ → Content
content_of file = read_from (suc (length file)) file 0 false
