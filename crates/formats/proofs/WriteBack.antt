-- A well-formed file without notes is what the writer gives for its boxes and plugs. Assumes nothing.
use mathlib.Core.Path.{◌≡◌, refl, sym, ◌∙◌, ap}
use mathlib.Core.Bool.{Bool, true, false}
use mathlib.Core.List.{List, [], ◌∷◌, ◌++◌, flat_map, append_assoc}
use Prim.Native.Nat.{ℕ, zero, suc, ◌+◌, ◌*◌, ◌/◌, ◌%◌, ◌≤◌, ◌<◌}
use native.Mathlib.Omega.{arith}
use borrow.Author.Tests.{ltb-false}
use lib.Dec.{ltb}
use lib.ListN.{length, drop, drop_of_length-le}
use mir.Syntax.{w32}
use mir.Val.{Fits}
use mir.ValLaws.{of_z-to_z}
use Rattle.integers.proofs.Parts.{drop_two, drop_four}
use Rattle.rounds.specs.Refusals.{Fault, none, fault}
use Rattle.rounds.specs.declared.Cause.{Cause}
use Rattle.formats.specs.Format.{box_mark, plug_mark, end_mark, mark_length, box_length, plug_length, mark_bytes, four_bytes, number_bytes}
use Rattle.formats.specs.Format.{box_record, plug_record, end_record, file_of, byte_at, AllBytes, mark_at, number_at, file_box_at, file_plug_at}
use Rattle.formats.specs.Format.{Kind, box_kind, plug_kind, note_kind, end_kind, unknown_kind, kind_at, next_at}
use Rattle.formats.specs.Content.{Content, kind_fault, form_fault, and_then, plugged_by, read_from, content_of}
use Rattle.rounds.proofs.Accepted.{when_none}
use Rattle.formats.proofs.Marks.{box_marked, plug_marked, end_marked}
use Rattle.formats.proofs.Scan.{clean, ends_within}

-- ---- numbers and records from their bytes

four_back : (a b c d : ℕ) → a < 256 → b < 256 → c < 256 → d < 256 → four_bytes (a * 16777216 + b * 65536 + c * 256 + d) ≡ a ∷ b ∷ c ∷ d ∷ []
unfolding four_bytes
four_back a b c d ha hb hc hd =
    let n = a * 16777216 + b * 65536 + c * 256 + d in
    let ea : n / 16777216 ≡ a = omega arith in
    let eb : n / 65536 % 256 ≡ b = omega arith in
    let ec : n / 256 % 256 ≡ c = omega arith in
    let ed : n % 256 ≡ d = omega arith in
    rw (ea, eb, ec, ed)

module _ (file : List ℕ) (bytes : AllBytes file) where
  number_back : (i : ℕ) → number_bytes (number_at file i) ≡ byte_at file i ∷ byte_at file (i + 1) ∷ byte_at file (i + 2) ∷ byte_at file (i + 3) ∷ []
  unfolding number_bytes number_at
  number_back i =
      let a = bytes i in
      let b = bytes (i + 1) in
      let c = bytes (i + 2) in
      let d = bytes (i + 3) in
      let f : Fits w32 (byte_at file i * 16777216 + byte_at file (i + 1) * 65536 + byte_at file (i + 2) * 256 + byte_at file (i + 3)) = omega arith in
      ap four_bytes (of_z-to_z w32 _ f) ∙ four_back _ _ _ _ a b c d

  -- the number at i, and what stands from j on, four bytes later
  number_first : (i j : ℕ) → i + 4 ≡ j → j ≤ length file → drop i file ≡ number_bytes (number_at file i) ++ drop j file
  number_first i j e h = rw (number_back i, ← e) (drop_four 0 file i (omega arith))

  -- the bytes of a mark
  mark_first : (at mark : ℕ) → mark_at file at ≡ mark → at + mark_length ≤ length file → drop at file ≡ mark_bytes mark ++ drop (at + mark_length) file
  unfolding mark_at mark_bytes
  mark_first at mark e h =
      let x = bytes at in
      let y = bytes (at + 1) in
      let p : byte_at file at ≡ mark / 256 = omega arith in
      let q : byte_at file (at + 1) ≡ mark % 256 = omega arith in
      rw (← p, ← q) (drop_two 0 file at (omega arith))

  -- a record with no fault is what the writer gives for what is read from it
  module _ (at : ℕ) where
    box_first : kind_at file at ≡ box_kind → at + box_length ≤ length file → drop at file ≡ box_record (file_box_at file (at + mark_length)) ++ drop (at + box_length) file
    unfolding box_record mark_bytes file_box_at number_bytes four_bytes
    box_first k h =
        mark_first at box_mark (box_marked _ k) (omega arith)
        ∙ ap (λ l. mark_bytes box_mark ++ l)
        (number_first (at + mark_length) (at + mark_length + 4) (omega arith) (omega arith)
        ∙ ap (λ l. number_bytes (number_at file (at + mark_length)) ++ l)
        (number_first (at + mark_length + 4) (at + mark_length + 8) (omega arith) (omega arith)
        ∙ ap (λ l. number_bytes (number_at file (at + mark_length + 4)) ++ l)
        (number_first (at + mark_length + 8) (at + mark_length + 12) (omega arith) (omega arith)
        ∙ ap (λ l. number_bytes (number_at file (at + mark_length + 8)) ++ l)
        (number_first (at + mark_length + 12) (at + box_length) (omega arith) (omega arith)))))

    plug_first : kind_at file at ≡ plug_kind → at + plug_length ≤ length file → drop at file ≡ plug_record (file_plug_at file (at + mark_length)) ++ drop (at + plug_length) file
    unfolding plug_record mark_bytes file_plug_at number_bytes four_bytes
    plug_first k h =
        mark_first at plug_mark (plug_marked _ k) (omega arith)
        ∙ ap (λ l. mark_bytes plug_mark ++ l)
        (number_first (at + mark_length) (at + mark_length + 4) (omega arith) (omega arith)
        ∙ ap (λ l. number_bytes (number_at file (at + mark_length)) ++ l) (number_first (at + mark_length + 4) (at + plug_length) (omega arith) (omega arith)))

    end_first : kind_at file at ≡ end_kind → at + mark_length ≤ length file → length file ≤ at + mark_length → drop at file ≡ end_record
    unfolding end_record mark_bytes
    end_first k h l =
        mark_first at end_mark (end_marked _ k) h
        ∙ ap (λ l. mark_bytes end_mark ++ l) (drop_of_length-le file l)

-- ---- a whole file

-- what stands from an offset on is what the writer gives for what it holds, and after a plug there is no box
record SameBytes (file : List ℕ) (at : ℕ) (plugged : Bool) (held : Content) : Type 0 where
  is : drop at file ≡ file_of held.boxes held.plugs
  no_box_lem : plugged ≡ true → held.boxes ≡ []

-- a box with no fault does not stand after a plug
not_plugged : {A : Type 0} (file : List ℕ) (at : ℕ) (plugged : Bool) → kind_fault box_kind file at plugged ≡ none → plugged ≡ true → A
unfolding kind_fault
not_plugged file at true e t = absurd (cc)
not_plugged file at false e t = absurd (cc)

same_then : (f : Fault) (k : Kind) (file : List ℕ) (at : ℕ) (plugged : Bool) (rest : Content) → AllBytes file → form_fault file at plugged ≡ f → kind_at file at ≡ k
    → (rest.fault ≡ none → rest.notes ≡ 0 → SameBytes file (next_at k file at) (plugged_by k plugged) rest)
    → (and_then f k file at rest).fault ≡ none → (and_then f k file at rest).notes ≡ 0 → SameBytes file at plugged (and_then f k file at rest)
unfolding next_at file_of flat_map kind_fault
same_then (fault c p) k file at plugged rest b ef ek ih e z = absurd (cc)
same_then none box_kind file at plugged rest b ef ek ih e z =
    let c = clean file at plugged ef ek in
    let w = ends_within box_kind file at plugged c.0 c.1 in
    let s = ih e z in
    let x = box_record (file_box_at file (at + mark_length)) in
    let bs = flat_map box_record rest.boxes in
    let ps = flat_map plug_record rest.plugs in
    record {
      is = box_first file b at ek w.1 ∙ ap (λ l. x ++ l) s.is ∙ sym (append_assoc x (bs ++ ps) end_record) ∙ ap (λ l. l ++ end_record) (sym (append_assoc x bs ps));
      no_box_lem = not_plugged file at plugged c.1;
    }
same_then none plug_kind file at plugged rest b ef ek ih e z =
    let c = clean file at plugged ef ek in
    let w = ends_within plug_kind file at plugged c.0 c.1 in
    let s = ih e z in
    let nb = s.no_box_lem refl in
    let y = plug_record (file_plug_at file (at + mark_length)) in
    record {
      is =
          plug_first file b at ek w.1
          ∙ ap (λ l. y ++ l) (s.is ∙ ap (λ bs. file_of bs rest.plugs) nb)
          ∙ sym (append_assoc y (flat_map plug_record rest.plugs) end_record)
          ∙ ap (λ bs. file_of bs (file_plug_at file (at + mark_length) ∷ rest.plugs)) (sym nb);
      no_box_lem = λ t. nb;
    }
same_then none note_kind file at plugged rest b ef ek ih e z = absurd (omega arith)
same_then none end_kind file at plugged rest b ef ek ih e z =
    let c = clean file at plugged ef ek in
    record { is = end_first file b at ek c.0 (ltb-false _ _ (when_none (ltb (at + mark_length) (length file)) Cause.ByteAfterEnd (at + mark_length) c.1)); no_box_lem = λ t. refl }
same_then none unknown_kind file at plugged rest b ef ek ih e z = let c = (clean file at plugged ef ek).1 in absurd (cc)

same_from : (records : ℕ) (file : List ℕ) (at : ℕ) (plugged : Bool) → AllBytes file → (read_from records file at plugged).fault ≡ none → (read_from records file at plugged).notes ≡ 0
    → SameBytes file at plugged (read_from records file at plugged)
unfolding read_from
same_from zero file at plugged b e z = absurd (cc)
same_from (suc n) file at plugged b e z =
    let k = kind_at file at in
    same_then (form_fault file at plugged) k file at plugged (read_from n file (next_at k file at) (plugged_by k plugged)) b refl refl
    (same_from n file (next_at k file at) (plugged_by k plugged) b) e z

-- the file is what the writer gives for its boxes and plugs
pub write_back : (file : List ℕ) → AllBytes file → (content_of file).fault ≡ none → (content_of file).notes ≡ 0 → file_of (content_of file).boxes (content_of file).plugs ≡ file
unfolding content_of
write_back file b e z = sym (same_from (suc (length file)) file 0 false b e z).is
