-- The pass that reads the boxes: its invariant, and what each record found makes of it. Assumes nothing.
use mathlib.Core.Path.{◌≡◌, refl, sym, ◌∙◌, ap}
use mathlib.Core.Bool.{false}
use mathlib.Core.List.{List, flat_map}
use Prim.Native.Nat.{ℕ, ◌+◌, ◌≤◌}
use native.Mathlib.Omega.{arith}
use lib.IntN.{ℤ}
use lib.ListN.{length}
use Rattle.std.specs.Prelude.{Result, Ok, Err}
use Rattle.rounds.specs.Refusals.{none}
use Rattle.rounds.specs.declared.Refusal.{Refusal}
use Rattle.formats.specs.Format.{mark_length, file_box_at}
use Rattle.formats.specs.Content.{Content, content_of}
use Rattle.formats.specs.Promises.{edges}
use Rattle.file_records.specs.Records.{over}
use Rattle.file_records.specs.declared.Record.{Record}
use Rattle.file_records.specs.declared.Record.TheVariants.{Box, Note}
use Rattle.file_records.proofs.Over.{Sofar, sofar_none, sofar_more, sofar_all, room, wrote_length}
use Rattle.formats.proofs.Bytes.{length_flat}
use Rattle.formats.proofs.Scan.{scan, from_start}
use Rattle.file_records.proofs.Records.{RecordFound, rest_is}
use Rattle.file_passes.specs.Steps.{BoxRoom, BoxesRead}
use Rattle.file_passes.proofs.Ahead.{ahead_is, no_box_lem, Stops, same_ahead}

-- after so many numbers of boxes, with the rest to come
pub record BoxesSofar (file : List ℕ) (boxes₀ : List ℤ) (rest : Content) (edge : ℕ) (boxes : List ℤ) : Type 0 where
  pub well_formed : rest.fault ≡ none
  pub plugs_are : rest.plugs ≡ (content_of file).plugs
  pub boxes_so : Sofar boxes₀ 0 (flat_map edges (content_of file).boxes) (flat_map edges rest.boxes) edge boxes

pub boxes_start : (file : List ℕ) (boxes₀ : List ℤ) → BoxRoom (content_of file) (length boxes₀) → BoxesSofar file boxes₀ (scan file 0 false) 0 boxes₀
boxes_start file boxes₀ r =
    rw (← from_start file)
    (record { well_formed = r.well_formed; plugs_are = refl; boxes_so = sofar_none boxes₀ 0 (flat_map edges (content_of file).boxes) (omega arith) })

module _ {file : List ℕ} {boxes₀ : List ℤ} {at edge : ℕ} {boxes : List ℤ}
    (r : BoxRoom (content_of file) (length boxes₀)) (i : BoxesSofar file boxes₀ (scan file at false) edge boxes) where
  -- a box has room
  pub room_for_box : {next : ℕ} → RecordFound file at false (Ok (Box next)) → (edge + 4 ≤ length boxes₀) × (length boxes ≡ length boxes₀)
  unfolding flat_map
  room_for_box f =
      let s = (rw (rest_is f) at i).boxes_so in
      (omega (arith, room s (omega (arith, r.for_boxes, length_flat 4 edges (λ b. refl) (content_of file).boxes))), wrote_length s.wrote)

  -- a box, a note
  pub boxes_box : {next : ℕ} {boxes' : List ℤ} → (f : RecordFound file at false (Ok (Box next))) → boxes' ≡ over boxes edge (edges (file_box_at file (at + mark_length)))
      → BoxesSofar file boxes₀ (scan file next false) (edge + 4) boxes'
  unfolding flat_map
  boxes_box {next} f e =
      let j = rw (rest_is f) at i in
      record {
        well_formed = j.well_formed;
        plugs_are = j.plugs_are;
        boxes_so = sofar_more j.boxes_so (edges (file_box_at file (at + mark_length))) (flat_map edges (scan file next false).boxes) refl (room_for_box f).0 e;
      }

  pub boxes_note : {next : ℕ} → RecordFound file at false (Ok (Note next)) → BoxesSofar file boxes₀ (scan file next false) edge boxes
  boxes_note f = let j = rw (rest_is f) at i in record { well_formed = j.well_formed; plugs_are = j.plugs_are; boxes_so = j.boxes_so }

  -- the first plug, or the end; and there is no fault
  pub boxes_stop : (x : Result Record Refusal) → Stops x → at ≤ length file → RecordFound file at false x → BoxesRead file boxes₀ at boxes
  unfolding flat_map
  boxes_stop x s h f =
      let e = same_ahead x s f in
      let j = rw e at i in
      let a = ahead_is file at in
      record {
        boxes = sofar_all j.boxes_so (ap (flat_map edges) (no_box_lem file at j.well_formed));
        plugs = record { within = h; well_formed = ap (λ held. held.fault) (sym a) ∙ j.well_formed; are = ap (λ held. held.plugs) (sym a) ∙ j.plugs_are };
      }

  pub no_fault : {A : Type 0} {x : Refusal} → RecordFound file at false (Err x) → A
  no_fault f = let e = (rw (rest_is f) at i).well_formed in absurd (cc)
