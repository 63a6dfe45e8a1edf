-- `file_records::next_record` meets its contract: the mark gives the kind, and each test is one of the kind's. Assumes nothing.
use mathlib.Core.Path.{◌≡◌, ◌∙◌, sym, ap}
use mathlib.Core.Bool.{Bool}
use mathlib.Core.List.{List}
use Prim.Native.Nat.{ℕ, ◌+◌, ◌≤◌}
use native.Mathlib.Omega.{arith}
use lib.ListN.{length}
use borrow.Author.Tests.{lt-ltb, le-ltb}
use Rattle.formats.specs.Format.{box_mark, plug_mark, end_mark, mark_length, mark_at, Kind, box_kind, plug_kind, end_kind, next_at, kind_of}
use Rattle.formats.specs.Content.{kind_fault, form_fault}
use Rattle.file_records.specs.Records.{record_of, record_at}
use Rattle.file_records.proofs.Records.{note_mark, low_mark, high_mark, record_of_lem}
use Rattle.file_records.proofs.next_record.Goals as goal

-- what stands there, by the kind of the mark that was read
by_kind : (file : List ℕ) (at : ℕ) (plugged : Bool) {mark : ℕ} {k : Kind} → at + mark_length ≤ length file → mark ≡ mark_at file at → kind_of mark ≡ k
    → record_at file at plugged ≡ record_of k file at plugged
by_kind file at plugged h m e = record_of_lem file at plugged h (sym (ap kind_of m) ∙ e)

-- the marks of a box, a plug and the end
box_found : {mark : ℕ} → mark ≡ box_mark → kind_of mark ≡ box_kind
unfolding kind_of
box_found e = ap kind_of e

plug_found : {mark : ℕ} → mark ≡ plug_mark → kind_of mark ≡ plug_kind
unfolding kind_of
plug_found e = ap kind_of e

end_found : {mark : ℕ} → mark ≡ end_mark → kind_of mark ≡ end_kind
unfolding kind_of
end_found e = ap kind_of e

pub returns-then-file-at : goal.returns-then-file-at
unfolding record_at form_fault
returns-then-file-at c = simp (lt-ltb _ _ c.if-file-at.true)

pub returns-then-plugged : goal.returns-then-plugged
unfolding kind_fault next_at
returns-then-plugged c =
    sym (by_kind c.args.file.now c.args.at c.args.plugged c.if-file-at.false c.mark_at-mark.ensures (box_found c.in-23297.is) ∙ simp c.if-plugged.true)

pub returns-then-at-file : goal.returns-then-at-file
unfolding kind_fault next_at
returns-then-at-file c =
    sym (by_kind c.args.file.now c.args.at c.args.plugged c.if-file-at.false c.mark_at-mark.ensures (end_found c.in-23296.is) ∙ simp (lt-ltb _ _ c.if-at-file.true))

pub returns-else-plugged : goal.returns-else-plugged
unfolding kind_fault next_at
returns-else-plugged c =
    c.whole.ensures
    ∙ sym (by_kind c.args.file.now c.args.at c.args.plugged c.if-file-at.false c.mark_at-mark.ensures (box_found c.in-23297.is) ∙ simp c.if-plugged.false)

pub returns-in-23298 : goal.returns-in-23298
unfolding kind_fault next_at
returns-in-23298 c =
    c.whole-in-23298.ensures ∙ sym (by_kind c.args.file.now c.args.at c.args.plugged c.if-file-at.false c.mark_at-mark.ensures (plug_found c.in-23298.is))

pub returns-else-at-file : goal.returns-else-at-file
unfolding kind_fault next_at
returns-else-at-file c =
    sym (by_kind c.args.file.now c.args.at c.args.plugged c.if-file-at.false c.mark_at-mark.ensures (end_found c.in-23296.is) ∙ simp (le-ltb _ _ c.if-at-file.false))

pub returns-in-23552-to-23807 : goal.returns-in-23552-to-23807
unfolding kind_fault next_at
returns-in-23552-to-23807 c =
    c.note_at.ensures
    ∙ sym (by_kind c.args.file.now c.args.at c.args.plugged c.if-file-at.false c.mark_at-mark.ensures (note_mark c.mark_at-mark.result (omega arith) (omega arith)))

-- a mark below those of notes, and one above them
pub returns-in_default : goal.returns-in_default
unfolding kind_fault
returns-in_default c =
    let mark = c.mark_at-mark.result in
    let n₁ : mark ≡ box_mark → ⊥ = omega arith in
    let n₂ : mark ≡ plug_mark → ⊥ = omega arith in
    let n₃ : mark ≡ end_mark → ⊥ = omega arith in
    sym (by_kind c.args.file.now c.args.at c.args.plugged c.if-file-at.false c.mark_at-mark.ensures (low_mark mark n₁ n₂ n₃ (omega arith)))

pub returns-in_default-2 : goal.returns-in_default-2
unfolding kind_fault
returns-in_default-2 c =
    let mark = c.mark_at-mark.result in
    let n₁ : mark ≡ box_mark → ⊥ = omega arith in
    let n₂ : mark ≡ plug_mark → ⊥ = omega arith in
    let n₃ : mark ≡ end_mark → ⊥ = omega arith in
    sym (by_kind c.args.file.now c.args.at c.args.plugged c.if-file-at.false c.mark_at-mark.ensures (high_mark mark n₁ n₂ n₃ (omega arith) (omega arith)))
