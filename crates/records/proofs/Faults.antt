-- What turns a list of records back: no record, too many, or a record's own fault. Cause 1, the list's length, cannot arise. Assumes nothing.
use mathlib.Core.Path.{◌≡◌, refl, sym, ◌∙◌, ap, subst⁻¹}
use mathlib.Core.Bool.{Bool, true, false, ◌||◌}
use mathlib.Core.List.{List, [], ◌∷◌}
use Prim.Native.Nat.{ℕ, zero, suc, ◌+◌, ◌*◌, ◌/◌, ◌%◌, ◌<◌}
use native.Mathlib.Omega.{arith}
use borrow.Author.Tests.{lt-ltb, eq-eqb, ne_eqb}
use lib.Dec.{eqb, ltb}
use lib.IntN.{ℤ}
use lib.ListN.{length}
use Rattle.std.specs.Prelude.{Result}
use Rattle.rounds.specs.declared.Refusal.{Refusal}
use Rattle.plane.specs.declared.Point.{Point}
use Rattle.rounds.specs.Boxes.{boxes_of}
use Rattle.rounds.specs.declared.Box.{Box}
use Rattle.rounds.specs.declared.Cause.{Cause}
use Rattle.rounds.specs.Refusals.{Fault, fault, number_of, when, ◌or_else◌, beyond, edge_beyond, edges_reversed, box_fault, each_box_fault, box_list_fault, plug_fault, verdict_fault}
use Rattle.rounds.specs.Replies.{refused, reply_under}
use Rattle.rounds.specs.Words.{word_of}
use Rattle.verdicts.specs.Verdicts.{verdict_reply, VerdictIs}
use Rattle.verdicts.specs.declared.Verdict.{Verdict}
use Rattle.records.specs.Records.{edges_of}
use Rattle.records.proofs.Copying.{edges_length}

-- a flat list of so many whole boxes: 2, 3, then box by box
pub whole_fault_lem : (l : List ℤ) (count : ℕ) → length l ≡ count * 4
    → box_list_fault l ≡ when (eqb count 0) Cause.NoBox 0 or_else when (ltb 1024 count) Cause.TooManyBoxes count or_else each_box_fault 1 (boxes_of l)
unfolding box_list_fault
whole_fault_lem l count e =
    let r : length l % 4 ≡ 0 = omega arith in
    let q : length l / 4 ≡ count = omega arith in
    let z : eqb (length l) 0 ≡ eqb count 0 = ap (λ n. eqb n 0) e ∙ times_four count in
    simp (eq-eqb (length l % 4) 0 r, q, z)
  where
    times_four : (n : ℕ) → eqb (n * 4) 0 ≡ eqb n 0
    times_four zero = refl
    times_four (suc n) = ne_eqb (suc n * 4) 0 (λ e. omega arith) ∙ sym (ne_eqb (suc n) 0 (λ e. omega arith))

-- more than 1,024 boxes are turned back by 3 with their count
pub too_many : (l : List ℤ) (count : ℕ) (plug : Point) → length l ≡ count * 4 → 1024 < count → verdict_fault l plug ≡ fault Cause.TooManyBoxes count
unfolding verdict_fault
too_many l count plug e h =
    rw (whole_fault_lem l count e, ne_eqb count 0 (λ z. omega arith), lt-ltb 1024 count h)

-- ---- cause 1

-- the fault is not by cause 1, that of the list's length
abbrev pub NotLength : Fault → Type 0
NotLength f = (c : Cause) (place : ℕ) → f ≡ fault c place → number_of c ≡ 1 → ⊥

not_when : (c : Cause) (place : ℕ) (b : Bool) → (number_of c ≡ 1 → ⊥) → NotLength (when b c place)
not_when c place true d c' p e k = d (ap number_of (cause e) ∙ k)
  where
    cause : {c d : Cause} {p q : ℕ} → fault c p ≡ fault d q → c ≡ d
    cause e = cc
not_when c place false d c' p e k = let z : ◌≡◌ {A = ℕ} 0 1 = cc in absurd (omega arith)

not_or_else : (f g : Fault) → NotLength f → NotLength g → NotLength (f or_else g)
not_or_else Fault.none g hf hg = hg
not_or_else (fault c p) g hf hg = hf

not_box : (k : ℕ) (b : Box) → NotLength (box_fault k b)
unfolding box_fault
not_box k b =
    not_or_else (when (edge_beyond b) Cause.EdgeBeyond k) (when (edges_reversed b) Cause.EdgesReversed k)
    (not_when Cause.EdgeBeyond k (edge_beyond b) (λ e. omega arith)) (not_when Cause.EdgesReversed k (edges_reversed b) (λ e. omega arith))

not_each : (k : ℕ) (bs : List Box) → NotLength (each_box_fault k bs)
unfolding each_box_fault
not_each k [] = λ c p e k. let z : ◌≡◌ {A = ℕ} 0 1 = cc in absurd (omega arith)
not_each k (b ∷ bs) = not_or_else (box_fault k b) (each_box_fault (k + 1) bs) (not_box k b) (not_each (k + 1) bs)

-- the fault of records and a plug is never that of the list's length
pub never_length : (bs : List Box) (plug : Point) → NotLength (verdict_fault (edges_of bs) plug)
unfolding verdict_fault plug_fault
never_length bs plug =
    let n = length bs in
    let none = when (eqb n 0) Cause.NoBox 0 in
    let many = when (ltb 1024 n) Cause.TooManyBoxes n in
    let each = each_box_fault 1 (boxes_of (edges_of bs)) in
    not_or_else (box_list_fault (edges_of bs)) (plug_fault 1 plug)
    (subst⁻¹ NotLength (whole_fault_lem (edges_of bs) n (edges_length bs))
    (not_or_else none (many or_else each) (not_when Cause.NoBox 0 (eqb n 0) (λ e. omega arith))
    (not_or_else many each (not_when Cause.TooManyBoxes n (ltb 1024 n) (λ e. omega arith)) (not_each 1 (boxes_of (edges_of bs))))))
    (not_when Cause.PlugBeyond 1 (beyond plug.east || beyond plug.north) (λ e. omega arith))

-- so no verdict on records is a refusal by 1
pub never_refused : (bs : List Box) (plug : Point) (v : Result Verdict Refusal) (place : ℕ) → VerdictIs (edges_of bs) plug v → verdict_reply v ≡ refused 1 place → ⊥
never_refused bs plug v place h e = go (verdict_fault (edges_of bs) plug) (never_length bs plug) (sym h.reply ∙ e)
  where
    go : (f : Fault) → NotLength f → reply_under f (word_of (boxes_of (edges_of bs)) plug) ≡ refused 1 place → ⊥
    go Fault.none n r = let z : ◌≡◌ {A = ℕ} 0 1 = cc in omega arith
    go (fault c p) n r = n c p refl (cc)
