-- What stands ahead of an offset: behind a plug there is no box, and at the first plug, or at the end where there is none, it does not matter whether
-- a plug stood before. Assumes nothing.
use mathlib.Core.Path.{◌≡◌, refl, sym, ◌∙◌}
use mathlib.Core.Bool.{true, false}
use mathlib.Core.List.{List, []}
use Prim.Native.Nat.{ℕ, zero, suc, ◌-◌, ◌+◌}
use native.Mathlib.Omega.{arith}
use lib.ListN.{length}
use Rattle.std.specs.Prelude.{Result, Ok, Err}
use Rattle.rounds.specs.Refusals.{Fault, none, fault, ◌or_else◌}
use Rattle.rounds.specs.declared.Refusal.{Refusal}
use Rattle.formats.specs.Format.{Kind, box_kind, plug_kind, note_kind, end_kind, unknown_kind, kind_at, next_at, mark_length}
use Rattle.formats.specs.Content.{Content, stops_before, kind_fault, form_fault, and_then, plugged_by, read_from}
use Rattle.formats.proofs.Scan.{scan, clean}
use Rattle.file_records.specs.Records.{refused_or, kind_record, record_at}
use Rattle.file_records.specs.declared.Record.{Record}
use Rattle.file_records.specs.declared.Record.TheVariants.{Box, Plug, Note, End}
use Rattle.file_records.proofs.Records.{RecordFound, follow, rest_is}
use Rattle.file_passes.specs.Steps.{ahead}

-- it is what the laws of a scan speak of
pub ahead_is : (file : List ℕ) (at : ℕ) → scan file at true ≡ ahead file at
unfolding scan ahead
ahead_is file at = refl

-- ---- no box behind a plug

still_plugged : (k : Kind) → plugged_by k true ≡ true
still_plugged box_kind = refl
still_plugged plug_kind = refl
still_plugged note_kind = refl
still_plugged end_kind = refl
still_plugged unknown_kind = refl

-- a box there is a fault
box_faulty : (file : List ℕ) (at : ℕ) → kind_at file at ≡ box_kind → form_fault file at true ≡ none → ⊥
unfolding kind_fault
box_faulty file at i e = let g = (clean file at true e i).1 in let z : ◌≡◌ {A = ℕ} 0 1 = cc in omega arith

no_box_then : (f : Fault) (k : Kind) (file : List ℕ) (at : ℕ) (rest : Content) → (k ≡ box_kind → f ≡ none → ⊥) → (rest.fault ≡ none → rest.boxes ≡ [])
    → (and_then f k file at rest).fault ≡ none → (and_then f k file at rest).boxes ≡ []
no_box_then (fault c p) k file at rest h i e = refl
no_box_then none box_kind file at rest h i e = absurd (h refl refl)
no_box_then none plug_kind file at rest h i e = i e
no_box_then none note_kind file at rest h i e = i e
no_box_then none end_kind file at rest h i e = refl
no_box_then none unknown_kind file at rest h i e = refl

no_box_from : (m : ℕ) (file : List ℕ) (at : ℕ) → (read_from m file at true).fault ≡ none → (read_from m file at true).boxes ≡ []
unfolding read_from
no_box_from zero file at e = refl
no_box_from (suc m) file at e =
    let k = kind_at file at in
    no_box_then (form_fault file at true) k file at (read_from m file (next_at k file at) (plugged_by k true)) (box_faulty file at)
    (rw (still_plugged k) (no_box_from m file (next_at k file at))) e

pub no_box_lem : (file : List ℕ) (at : ℕ) → (scan file at true).fault ≡ none → (scan file at true).boxes ≡ []
unfolding scan
no_box_lem file at e = no_box_from (suc (length file - at)) file at e

-- ---- the first plug, or the end

-- where the boxes stop
abbrev pub Stops : Result Record Refusal → Type 0
Stops (Ok (Box next)) = ⊥
Stops (Ok (Plug next)) = Unit
Stops (Ok (Note next)) = ⊥
Stops (Ok End) = Unit
Stops (Err r) = ⊥

no_stop : {A : Type 0} (f : Fault) (next : ℕ) → Stops (refused_or f (Box next)) → A
no_stop none next s = absurd s
no_stop (fault c p) next s = absurd s

-- the record there is the same behind a plug
same_record : (f : Fault) (k : Kind) (file : List ℕ) (at next : ℕ) → Stops (refused_or (f or_else kind_fault k file at false) (kind_record k next))
    → refused_or (f or_else kind_fault k file at true) (kind_record k next) ≡ refused_or (f or_else kind_fault k file at false) (kind_record k next)
unfolding kind_fault
same_record f box_kind file at next s = no_stop (f or_else kind_fault box_kind file at false) next s
same_record f plug_kind file at next s = refl
same_record f note_kind file at next s = refl
same_record f end_kind file at next s = refl
same_record f unknown_kind file at next s = refl

same_found : {file : List ℕ} {at : ℕ} (r : Result Record Refusal) → Stops r → RecordFound file at false r → RecordFound file at true r
unfolding record_at form_fault
same_found {file} {at} r s f =
    let k = kind_at file at in
    record { is = same_record (stops_before (at + mark_length) file at) k file at (next_at k file at) (rw f.is s) ∙ f.is }

same_follow : (file : List ℕ) (at : ℕ) (r : Result Record Refusal) → Stops r → follow file at false r ≡ follow file at true r
same_follow file at (Ok (Box next)) s = absurd s
same_follow file at (Ok (Plug next)) s = refl
same_follow file at (Ok (Note next)) s = absurd s
same_follow file at (Ok End) s = refl
same_follow file at (Err r) s = absurd s

-- so what stands from there on is the same
pub same_ahead : {file : List ℕ} {at : ℕ} (r : Result Record Refusal) → Stops r → RecordFound file at false r → scan file at false ≡ scan file at true
same_ahead {file} {at} r s f = rest_is f ∙ same_follow file at r s ∙ sym (rest_is (same_found r s f))
