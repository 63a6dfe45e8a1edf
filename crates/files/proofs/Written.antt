-- The writer's promise at each return. Assumes nothing.
use mathlib.Core.Path.{◌≡◌, refl, ◌∙◌}
use mathlib.Core.List.{List, ◌++◌, flat_map}
use Prim.Native.Nat.{ℕ, ◌+◌, ◌*◌, ◌/◌, ◌≤◌}
use native.Mathlib.Omega.{arith}
use lib.IntN.{ℤ}
use lib.ListN.{length, length-append}
use Rattle.std.specs.Prelude.{Result, Ok, Err}
use Rattle.rounds.specs.Boxes.{boxes_of, plugs_of}
use Rattle.rounds.specs.Refusals.{Fault, none, refusal_fault, ◌or_else◌, box_list_fault, plug_list_fault, buffer_fault, write_fault}
use Rattle.rounds.specs.declared.Refusal.{Refusal}
use Rattle.formats.specs.Format.{end_mark, box_length, plug_length, mark_bytes, box_record, plug_record, end_record, file_of}
use Rattle.formats.specs.Promises.{byte_count, writer_fault, RoundWritten}
use Rattle.formats.proofs.Bytes.{length_boxes, length_plugs, length_end}
use Rattle.file_records.specs.Records.{over}
use Rattle.file_records.proofs.Over.{over_front_lem, WroteAt, wrote_none, then_over}

-- the records of the boxes and of the plugs of two flat lists, and the offsets after them
abbrev box_bytes : List ℤ → List ℕ
box_bytes boxes = flat_map box_record (boxes_of boxes)

abbrev plug_bytes : List ℤ → List ℕ
plug_bytes plugs = flat_map plug_record (plugs_of plugs)

abbrev after_boxes : List ℤ → ℕ
after_boxes boxes = box_length * (length boxes / 4)

abbrev after_plugs : List ℤ → List ℤ → ℕ
after_plugs boxes plugs = after_boxes boxes + plug_length * (length plugs / 2)

-- ---- refusals

module _ (boxes plugs : List ℤ) (file : List ℕ) where
  turned_back : {writing : Result ℕ Refusal} {r : Refusal} → writing ≡ Err r → writer_fault boxes plugs file ≡ refusal_fault r
      → RoundWritten boxes plugs file writing file
  turned_back p e = record { reply = rw (p, e); file = rw e }

  -- by the fault of both lists, then by that of the buffer
  by_lists_and_buffer : writer_fault boxes plugs file ≡ ((box_list_fault boxes or_else plug_list_fault plugs) or_else buffer_fault (byte_count boxes plugs) (length file))
  unfolding writer_fault write_fault
  by_lists_and_buffer = one_by_one (box_list_fault boxes) (plug_list_fault plugs) (buffer_fault (byte_count boxes plugs) (length file))
    where
      one_by_one : (f g h : Fault) → (f or_else g or_else h) ≡ ((f or_else g) or_else h)
      one_by_one none g h = refl
      one_by_one (Fault.fault c p) g h = refl

  pub refused_by_lists : {writing : Result ℕ Refusal} {r : Refusal} → writing ≡ Err r → refusal_fault r ≡ (box_list_fault boxes or_else plug_list_fault plugs)
      → RoundWritten boxes plugs file writing file
  refused_by_lists p e = turned_back p (by_lists_and_buffer ∙ rw (← e))

  pub refused_by_length : {writing : Result ℕ Refusal} {r : Refusal} → none ≡ (box_list_fault boxes or_else plug_list_fault plugs) → writing ≡ Err r
      → refusal_fault r ≡ buffer_fault (byte_count boxes plugs) (length file) → RoundWritten boxes plugs file writing file
  refused_by_length l p e = turned_back p (by_lists_and_buffer ∙ rw (← l, ← e))

-- ---- boxes, plugs and end, one after another

module _ (boxes plugs : List ℤ) (file : List ℕ) {out : List ℕ} (h : byte_count boxes plugs ≤ length file) (e : out ≡ over file 0 (box_bytes boxes)) where
  boxes_written : WroteAt file 0 (box_bytes boxes) out
  unfolding byte_count
  boxes_written = then_over (wrote_none file 0 (omega arith)) 0 (box_bytes boxes) (omega arith) (omega (arith, length_boxes boxes)) e

  -- from an offset on that is the one after the boxes, and from the one after the plugs
  module _ {out' : List ℕ} {to : ℕ} (t : to ≡ after_boxes boxes) (i : out' ≡ over out to (plug_bytes plugs)) where
    plugs_written : WroteAt file 0 (box_bytes boxes ++ plug_bytes plugs) out'
    unfolding byte_count
    plugs_written = then_over boxes_written to (plug_bytes plugs) (omega (arith, t, length_boxes boxes)) (omega (arith, t, length_plugs plugs)) i

    module _ {out'' : List ℕ} {to' : ℕ} (t' : to' ≡ after_plugs boxes plugs) (j : out'' ≡ over out' to' (mark_bytes end_mark)) where
      end_written : WroteAt file 0 (file_of (boxes_of boxes) (plugs_of plugs)) out''
      unfolding file_of end_record byte_count
      end_written =
          let l = length-append (box_bytes boxes) (plug_bytes plugs) in
          then_over plugs_written to' (mark_bytes end_mark) (omega (arith, t', length_boxes boxes, length_plugs plugs, l)) (omega (arith, t', length_end)) j

      -- all of it
      pub was_written : {needed : ℕ} → needed ≡ byte_count boxes plugs → none ≡ (box_list_fault boxes or_else plug_list_fault plugs)
          → none ≡ buffer_fault (byte_count boxes plugs) (length file) → RoundWritten boxes plugs file (Ok needed) out''
      was_written n f g =
          let z : writer_fault boxes plugs file ≡ none = by_lists_and_buffer boxes plugs file ∙ rw (← f, ← g) in
          record { reply = rw (z, n); file = rw z (end_written.is ∙ over_front_lem file (file_of (boxes_of boxes) (plugs_of plugs))) }
