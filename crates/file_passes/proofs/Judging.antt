-- The pass that judges a file's form and counts: its invariant, and what each record found makes of it. Assumes nothing.
use mathlib.Core.Path.{◌≡◌, refl}
use mathlib.Core.List.{List}
use Prim.Native.Nat.{ℕ, ◌+◌, ◌*◌, ◌≤◌, ◌<◌}
use native.Mathlib.Omega.{arith}
use borrow.Author.Tests.{lt-ltb}
use lib.Dec.{ltb}
use lib.ListN.{length}
use Rattle.std.specs.Prelude.{Result, Ok, Err}
use Rattle.rounds.specs.Refusals.{Fault, none, fault, refusal_fault}
use Rattle.rounds.specs.declared.Refusal.{Refusal}
use Rattle.formats.specs.Format.{box_length, plug_length}
use Rattle.formats.specs.Promises.{counts_of}
use Rattle.formats.specs.declared.Counts.{Counts}
use Rattle.formats.specs.Content.{Content, content_of}
use Rattle.file_records.specs.Records.{refused_or}
use Rattle.file_passes.specs.Steps.{judgement}
use Rattle.file_records.specs.declared.Record.TheVariants.{Box, Plug, Note, End}
use Rattle.formats.proofs.Scan.{scan, from_start, short}
use Rattle.file_records.proofs.Records.{RecordFound, rest_is}

-- the rest, from an offset on, after so many boxes and plugs
pub record Judged (file : List ℕ) (boxes plugs : ℕ) (rest : Content) : Type 0 where
  pub fault_is : (content_of file).fault ≡ rest.fault
  pub boxes_are : length (content_of file).boxes ≡ boxes + length rest.boxes
  pub plugs_are : length (content_of file).plugs ≡ plugs + length rest.plugs

judged_by : {file : List ℕ} {boxes plugs : ℕ} {rest rest' : Content} → rest ≡ rest' → Judged file boxes plugs rest → Judged file boxes plugs rest'
judged_by e j = rw e at j

pub judged_start : (file : List ℕ) → Judged file 0 0 (scan file 0 (ltb 0 0))
judged_start file = judged_by (from_start file) (record { fault_is = refl; boxes_are = omega arith; plugs_are = omega arith })

module _ {file : List ℕ} {at boxes plugs : ℕ} (j : Judged file boxes plugs (scan file at (ltb 0 plugs))) where
  -- a box, a plug, a note
  pub judged_box : {next : ℕ} → RecordFound file at (ltb 0 plugs) (Ok (Box next)) → Judged file (boxes + 1) plugs (scan file next (ltb 0 plugs))
  judged_box e =
      let i = judged_by (rest_is e) j in
      record { fault_is = i.fault_is; boxes_are = omega (arith, i.boxes_are); plugs_are = i.plugs_are }

  pub judged_plug : {next : ℕ} → RecordFound file at (ltb 0 plugs) (Ok (Plug next)) → Judged file boxes (plugs + 1) (scan file next (ltb 0 (plugs + 1)))
  judged_plug e =
      let i = judged_by (rest_is e) j in
      let h : 0 < plugs + 1 = omega arith in
      rw (lt-ltb 0 (plugs + 1) h) (record { fault_is = i.fault_is; boxes_are = i.boxes_are; plugs_are = omega (arith, i.plugs_are) })

  pub judged_note : {next : ℕ} → RecordFound file at (ltb 0 plugs) (Ok (Note next)) → Judged file boxes plugs (scan file next (ltb 0 plugs))
  judged_note e =
      let i = judged_by (rest_is e) j in
      record { fault_is = i.fault_is; boxes_are = i.boxes_are; plugs_are = i.plugs_are }

  -- the counts stay below the file's length
  pub few_boxes : {next : ℕ} → RecordFound file at (ltb 0 plugs) (Ok (Box next)) → boxes + 1 ≤ length file
  few_boxes e = let i = judged_by (rest_is e) j in omega (arith, i.boxes_are, short file)

  pub few_plugs : {next : ℕ} → RecordFound file at (ltb 0 plugs) (Ok (Plug next)) → plugs + 1 ≤ length file
  few_plugs e = let i = judged_by (rest_is e) j in omega (arith, i.plugs_are, short file)

  -- the end, and a fault
  pub judged_end : RecordFound file at (ltb 0 plugs) (Ok End) → ◌≡◌ {A = Result Counts Refusal} (Ok (record { boxes = boxes; plugs = plugs })) (judgement file)
  unfolding judgement
  judged_end e =
      let i = judged_by (rest_is e) j in
      let b : length (content_of file).boxes ≡ boxes = omega (arith, i.boxes_are) in
      let p : length (content_of file).plugs ≡ plugs = omega (arith, i.plugs_are) in
      rw (i.fault_is, b, p)

  pub judged_fault : {r : Refusal} → RecordFound file at (ltb 0 plugs) (Err r) → Err r ≡ judgement file
  unfolding judgement
  judged_fault e = rw (judged_by (rest_is e) j).fault_is

-- ---- what the pass says

-- a file with no fault of form, and its counts, which are short of the file's length
pub record WellFormed (file : List ℕ) (counts : Counts) : Type 0 where
  pub no_fault : (content_of file).fault ≡ none
  pub counts_are : counts ≡ counts_of (content_of file)
  pub few : box_length * counts.boxes + plug_length * counts.plugs ≤ length file

-- a reading under a fault, by its case
read_none : (f : Fault) {a b : Counts} → Ok a ≡ refused_or f b → (f ≡ none) × (a ≡ b)
read_none none e = (refl, (cc))
read_none (fault c p) e = absurd (cc)

refused_fault : (f : Fault) (b : Counts) {r : Refusal} → Err r ≡ refused_or f b → f ≡ refusal_fault r
refused_fault none b e = absurd (cc)
refused_fault (fault c p) b e = cc

pub well_formed : (file : List ℕ) {counts : Counts} → Ok counts ≡ judgement file → WellFormed file counts
unfolding judgement
well_formed file e = let r = read_none (content_of file).fault e in record { no_fault = r.0; counts_are = r.1; few = rw r.1 (short file) }

pub faulty : (file : List ℕ) {r : Refusal} → Err r ≡ judgement file → (content_of file).fault ≡ refusal_fault r
unfolding judgement
faulty file e = refused_fault (content_of file).fault (counts_of (content_of file)) e
