-- What a file holds, record by record. `scan file at plugged` is what stands from an offset on: `scan_step` takes the record there off its front,
-- `goes_on` says that the next one begins within the file, `short` bounds how much is held. Assumes nothing.
use mathlib.Core.Path.{◌≡◌, refl, sym, ◌∙◌, ap}
use mathlib.Core.Bool.{Bool, false}
use mathlib.Core.List.{List}
use Prim.Native.Nat.{ℕ, zero, suc, ◌+◌, ◌*◌, ◌-◌, ◌≤◌, ◌<◌}
use native.Mathlib.Nat.{sub-zero}
use native.Mathlib.Omega.{arith}
use borrow.Author.Tests.{ltb-false, le-ltb}
use lib.Dec.{ltb}
use lib.ListN.{length}
use Rattle.rounds.specs.Refusals.{Fault, none, fault, when}
use Rattle.rounds.specs.declared.Cause.TheVariants as Cause
use Rattle.rounds.proofs.Accepted.{or_else_none, when_none}
use Rattle.formats.specs.Format.{mark_length, box_length, plug_length, Kind, box_kind, plug_kind, note_kind, end_kind, unknown_kind, kind_at, next_at}
use Rattle.formats.specs.Content.{Content, stops_before, kind_fault, form_fault, and_then, plugged_by, read_from, content_of}

-- ---- records with no fault

-- the file does not stop before an offset
reaches : (file : List ℕ) (next at : ℕ) → stops_before next file at ≡ none → next ≤ length file
reaches file next at e = ltb-false _ _ (when_none (ltb (length file) next) Cause.CutShort at e)

-- a record with no fault ends within the file, and takes bytes
pub ends_within : (k : Kind) (file : List ℕ) (at : ℕ) (plugged : Bool) → at + mark_length ≤ length file → kind_fault k file at plugged ≡ none
    → (at < next_at k file at) × (next_at k file at ≤ length file)
unfolding kind_fault next_at
ends_within box_kind file at plugged h e =
    let r = or_else_none (when plugged Cause.BoxAfterPlug at) (stops_before (next_at box_kind file at) file at) e in
    (omega arith, reaches file (next_at box_kind file at) at r.1)
ends_within plug_kind file at plugged h e = (omega arith, reaches file (next_at plug_kind file at) at e)
ends_within note_kind file at plugged h e = (omega arith, reaches file (next_at note_kind file at) at e)
ends_within end_kind file at plugged h e = (omega arith, h)
ends_within unknown_kind file at plugged h e = absurd (cc)

-- the same of what stands at an offset
pub clean : (file : List ℕ) (at : ℕ) (plugged : Bool) {k : Kind} → form_fault file at plugged ≡ none → kind_at file at ≡ k
    → (at + mark_length ≤ length file) × (kind_fault k file at plugged ≡ none)
unfolding form_fault
clean file at plugged e i =
    let r = or_else_none (stops_before (at + mark_length) file at) (kind_fault (kind_at file at) file at plugged) e in
    (reaches file (at + mark_length) at r.0, rw i at r.1)

pub goes_on : (file : List ℕ) (at : ℕ) (plugged : Bool) → form_fault file at plugged ≡ none
    → (at < next_at (kind_at file at) file at) × (next_at (kind_at file at) file at ≤ length file)
goes_on file at plugged e = let r = clean file at plugged e refl in ends_within (kind_at file at) file at plugged r.0 r.1

-- ---- enough records

-- what follows counts only where there is no fault
and_then_lem : (f : Fault) (k : Kind) (file : List ℕ) (at : ℕ) {r s : Content} → (f ≡ none → r ≡ s) → and_then f k file at r ≡ and_then f k file at s
and_then_lem none k file at h = ap (and_then none k file at) (h refl)
and_then_lem (fault c p) k file at h = refl

-- one record more than there are bytes left is as good as any number more
pub enough : (m n : ℕ) (file : List ℕ) (at : ℕ) (plugged : Bool) → length file - at < m → length file - at < n → read_from m file at plugged ≡ read_from n file at plugged
unfolding read_from
enough zero n file at plugged h l = absurd (omega arith)
enough (suc m) zero file at plugged h l = absurd (omega arith)
enough (suc m) (suc n) file at plugged h l =
    and_then_lem (form_fault file at plugged) (kind_at file at) file at
    (λ e. let r = goes_on file at plugged e in enough m n file (next_at (kind_at file at) file at) (plugged_by (kind_at file at) plugged) (omega arith) (omega arith))

-- what stands from an offset on
unfoldable pub scan : List ℕ → ℕ → Bool → Content
scan file at plugged = read_from (suc (length file - at)) file at plugged

-- the file's content is what stands from its start on
pub from_start : (file : List ℕ) → content_of file ≡ scan file 0 false
unfolding scan content_of
from_start file = ap (λ n. read_from (suc n) file 0 false) (sym (sub-zero (length file)))

-- ---- the step

-- what stands from an offset on is the record there, by its kind, before what stands from the next one on
pub scan_step : (file : List ℕ) (at : ℕ) (plugged : Bool)
    → scan file at plugged ≡ and_then (form_fault file at plugged) (kind_at file at) file at (scan file (next_at (kind_at file at) file at) (plugged_by (kind_at file at) plugged))
unfolding scan read_from
scan_step file at plugged =
    let k = kind_at file at in
    let next = next_at k file at in
    and_then_lem (form_fault file at plugged) k file at
    (λ e. let r = goes_on file at plugged e in enough (length file - at) (suc (length file - next)) file next (plugged_by k plugged) (omega arith) (omega arith))

-- the same where the kind is known and there is no fault of its own
pub scan_kind : (file : List ℕ) (at : ℕ) (plugged : Bool) {k : Kind} → at + mark_length ≤ length file → kind_at file at ≡ k → kind_fault k file at plugged ≡ none
    → scan file at plugged ≡ and_then none k file at (scan file (next_at k file at) (plugged_by k plugged))
unfolding form_fault
scan_kind file at plugged h i e = scan_step file at plugged ∙ rw (i, le-ltb _ _ h, e)

-- ---- how much a file holds

-- every box and every plug takes its bytes
abbrev Short : List ℕ → ℕ → Content → Type 0
Short file at held = box_length * length held.boxes + plug_length * length held.plugs + at ≤ length file

short_then : (f : Fault) (k : Kind) (file : List ℕ) (at : ℕ) (rest : Content) → at ≤ length file
    → (f ≡ none → (next_at k file at ≤ length file) → Short file (next_at k file at) rest) → (f ≡ none → (at < next_at k file at) × (next_at k file at ≤ length file))
    → Short file at (and_then f k file at rest)
unfolding next_at
short_then (fault c p) k file at rest h s g = omega arith
short_then none box_kind file at rest h s g = let q = s refl (g refl).1 in omega arith
short_then none plug_kind file at rest h s g = let q = s refl (g refl).1 in omega arith
short_then none note_kind file at rest h s g = let q = s refl (g refl).1 in omega arith
short_then none end_kind file at rest h s g = omega arith
short_then none unknown_kind file at rest h s g = omega arith

short_from : (m : ℕ) (file : List ℕ) (at : ℕ) (plugged : Bool) → at ≤ length file → Short file at (read_from m file at plugged)
unfolding read_from
short_from zero file at plugged h = omega arith
short_from (suc m) file at plugged h =
    let k = kind_at file at in
    short_then (form_fault file at plugged) k file at (read_from m file (next_at k file at) (plugged_by k plugged)) h
    (λ e l. short_from m file (next_at k file at) (plugged_by k plugged) l) (goes_on file at plugged)

pub short : (file : List ℕ) → box_length * length (content_of file).boxes + plug_length * length (content_of file).plugs ≤ length file
unfolding content_of
short file = let h : 0 ≤ length file = omega arith in omega (arith, short_from (suc (length file)) file 0 false h)
