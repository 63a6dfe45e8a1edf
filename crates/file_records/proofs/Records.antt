-- The record at an offset: its kind by the mark that is read, what stands from the offset on by what is found there, and where the next one
-- begins. Assumes nothing.
use mathlib.Core.Path.{◌≡◌, refl, sym, ◌∙◌, ap, subst}
use mathlib.Core.Bool.{Bool, true}
use mathlib.Core.List.{List}
use Prim.Native.Nat.{ℕ, ◌+◌, ◌≤◌, ◌<◌}
use native.Mathlib.Omega.{arith}
use borrow.Author.Tests.{le-ltb, le-leb, lt-leb, ne_eqb}
use lib.ListN.{length}
use Rattle.std.specs.Prelude.{Result, Ok, Err}
use Rattle.rounds.specs.Refusals.{Fault, none, fault, refusal_fault}
use Rattle.rounds.specs.declared.Refusal.{Refusal}
use Rattle.formats.specs.Format.{box_mark, plug_mark, end_mark, first_note_mark, last_note_mark, mark_length, box_length, plug_length, Kind, box_kind, plug_kind, note_kind, end_kind, unknown_kind, kind_of, kind_at, next_at}
use Rattle.formats.specs.Content.{Content, form_fault, stop, and_then, plugged_by}
use Rattle.formats.proofs.Scan.{scan, scan_step, goes_on}
use Rattle.file_records.specs.Records.{refused_or, kind_record, record_of, record_at}
use Rattle.file_records.specs.declared.Record.{Record}
use Rattle.file_records.specs.declared.Record.TheVariants.{Box, Plug, Note, End}

-- ---- by its mark

-- a note's mark
pub note_mark : (mark : ℕ) → first_note_mark ≤ mark → mark < last_note_mark + 1 → kind_of mark ≡ note_kind
unfolding kind_of
note_mark mark l h =
    let n₁ : mark ≡ box_mark → ⊥ = omega arith in
    let n₂ : mark ≡ plug_mark → ⊥ = omega arith in
    let n₃ : mark ≡ end_mark → ⊥ = omega arith in
    let u : mark ≤ last_note_mark = omega arith in
    simp (ne_eqb _ _ n₁, ne_eqb _ _ n₂, ne_eqb _ _ n₃, le-leb _ _ l, le-leb _ _ u)

-- any other mark
module _ (mark : ℕ) (n₁ : mark ≡ box_mark → ⊥) (n₂ : mark ≡ plug_mark → ⊥) (n₃ : mark ≡ end_mark → ⊥) where
  pub low_mark : mark < first_note_mark → kind_of mark ≡ unknown_kind
  unfolding kind_of
  low_mark h = simp (ne_eqb _ _ n₁, ne_eqb _ _ n₂, ne_eqb _ _ n₃, lt-leb _ _ h)

  pub high_mark : first_note_mark ≤ mark → last_note_mark < mark → kind_of mark ≡ unknown_kind
  unfolding kind_of
  high_mark l h = simp (ne_eqb _ _ n₁, ne_eqb _ _ n₂, ne_eqb _ _ n₃, le-leb _ _ l, lt-leb _ _ h)

-- what stands at an offset where a mark does, by the mark's kind
pub record_of_lem : (file : List ℕ) (at : ℕ) (plugged : Bool) {k : Kind} → at + mark_length ≤ length file → kind_at file at ≡ k
    → record_at file at plugged ≡ record_of k file at plugged
unfolding record_at form_fault
record_of_lem file at plugged h e = simp (le-ltb _ _ h, e)

-- ---- what stands from an offset on, by what is found there

abbrev pub follow : List ℕ → ℕ → Bool → Result Record Refusal → Content
follow file at plugged (Ok (Box next)) = and_then none box_kind file at (scan file next plugged)
follow file at plugged (Ok (Plug next)) = and_then none plug_kind file at (scan file next true)
follow file at plugged (Ok (Note next)) = and_then none note_kind file at (scan file next plugged)
follow file at plugged (Ok End) = stop none
follow file at plugged (Err r) = stop (refusal_fault r)

follows : (f : Fault) (k : Kind) (file : List ℕ) (at : ℕ) (plugged : Bool) (next : ℕ)
    → and_then f k file at (scan file next (plugged_by k plugged)) ≡ follow file at plugged (refused_or f (kind_record k next))
follows (fault c p) k file at plugged next = refl
follows none box_kind file at plugged next = refl
follows none plug_kind file at plugged next = refl
follows none note_kind file at plugged next = refl
follows none end_kind file at plugged next = refl
follows none unknown_kind file at plugged next = refl

unroll : (file : List ℕ) (at : ℕ) (plugged : Bool) → scan file at plugged ≡ follow file at plugged (record_at file at plugged)
unfolding record_at
unroll file at plugged =
    scan_step file at plugged ∙ follows (form_fault file at plugged) (kind_at file at) file at plugged (next_at (kind_at file at) file at)

-- ---- where the next record begins

abbrev Onward : List ℕ → ℕ → Result Record Refusal → Type 0
Onward file at (Ok (Box next)) = (next ≡ at + box_length) × (next ≤ length file)
Onward file at (Ok (Plug next)) = (next ≡ at + plug_length) × (next ≤ length file)
Onward file at (Ok (Note next)) = (at < next) × (next ≤ length file)
Onward file at (Ok End) = Unit
Onward file at (Err r) = Unit

onward_under : (f : Fault) (k : Kind) (file : List ℕ) (at : ℕ) → (f ≡ none → (at < next_at k file at) × (next_at k file at ≤ length file))
    → Onward file at (refused_or f (kind_record k (next_at k file at)))
unfolding next_at
onward_under (fault c p) k file at h = tt
onward_under none box_kind file at h = (refl, (h refl).1)
onward_under none plug_kind file at h = (refl, (h refl).1)
onward_under none note_kind file at h = h refl
onward_under none end_kind file at h = tt
onward_under none unknown_kind file at h = tt

onward : (file : List ℕ) (at : ℕ) (plugged : Bool) → Onward file at (record_at file at plugged)
unfolding record_at
onward file at plugged = onward_under (form_fault file at plugged) (kind_at file at) file at (goes_on file at plugged)

-- ---- a record that was found, and both of these by it

pub record RecordFound (file : List ℕ) (at : ℕ) (plugged : Bool) (r : Result Record Refusal) : Type 0 where
  pub is : record_at file at plugged ≡ r

module _ {file : List ℕ} {at : ℕ} {plugged : Bool} where
  -- as a call answered, and as a match read the answer
  pub found : {answer r : Record} → Ok answer ≡ record_at file at plugged → answer ≡ r → RecordFound file at plugged (Ok r)
  found e m = record { is = sym e ∙ ap Ok m }

  pub not_found : {refusal : Refusal} → Err refusal ≡ record_at file at plugged → RecordFound file at plugged (Err refusal)
  not_found e = record { is = sym e }

module _ {file : List ℕ} {at : ℕ} {plugged : Bool} {r : Result Record Refusal} where
  pub rest_is : RecordFound file at plugged r → scan file at plugged ≡ follow file at plugged r
  rest_is f = unroll file at plugged ∙ ap (follow file at plugged) f.is

  pub next_is : RecordFound file at plugged r → Onward file at r
  next_is f = subst (Onward file at) f.is (onward file at plugged)
