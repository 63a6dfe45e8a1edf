-- Both round trips, over the promises of the two calls. Assumes nothing.
use mathlib.Core.Path.{◌≡◌, refl, sym, ◌∙◌, ap}
use mathlib.Core.List.{List, ◌++◌, flat_map}
use Prim.Native.Nat.{ℕ, ◌*◌, ◌≤◌}
use native.Mathlib.Omega.{arith}
use borrow.Author.Tests.{le-ltb}
use lib.IntN.{ℤ}
use lib.ListN.{length, take, drop}
use lib.Seq.{take_at}
use Rattle.rounds.specs.Boxes.{boxes_of, plugs_of}
use Rattle.rounds.specs.Refusals.{none, box_list_fault, plug_list_fault, buffer_fault, read_fault, write_fault}
use Rattle.formats.specs.Format.{file_of, AllBytes}
use Rattle.formats.specs.Content.{content_of}
use Rattle.rounds.specs.Replies.{result, reply_of, buffer_under}
use Rattle.formats.specs.Promises.{edges, coordinates, reader_fault, RoundRead, writer_fault, RoundWritten}
use Rattle.formats.specs.declared.Counts.{Counts}
use Rattle.std.specs.Prelude.{Result, Ok, Err}
use Rattle.rounds.specs.declared.Refusal.{Refusal}
use Rattle.rounds.proofs.Rows.{boxes_length}
use Rattle.rounds.proofs.Accepted.{or_else_none, accepted}
use Rattle.formats.proofs.Faults.{whole_plugs, fit_boxes, fit_plugs}
use Rattle.formats.proofs.Replies.{result_none}
use Rattle.formats.proofs.Bytes.{length_flat, count_plugs}
use Rattle.formats.proofs.ReadBack.{held, read_back}
use Rattle.formats.proofs.WriteBack.{write_back}
use Rattle.formats.proofs.FlatLists.{flat_boxes, flat_plugs, boxes_flat, plugs_flat, file_length}
use Rattle.demands.specs.RoundTrips.{ReadBack, WrittenBack, RoundTrips}

-- ---- what was written

-- a write that answered with a byte count: both lists were accepted, the count is the length of the file given, and the buffer starts with that file
record WasWritten (boxes plugs : List ℤ) (entry : List ℕ) (n : ℕ) (exit : List ℕ) : Type 0 where
  boxes_accepted : box_list_fault boxes ≡ none
  plugs_accepted : plug_list_fault plugs ≡ none
  count : n ≡ length (file_of (boxes_of boxes) (plugs_of plugs))
  file : exit ≡ file_of (boxes_of boxes) (plugs_of plugs) ++ drop n entry

was_written : {boxes plugs : List ℤ} {entry : List ℕ} {n : ℕ} {exit : List ℕ} → RoundWritten boxes plugs entry (Ok n) exit → WasWritten boxes plugs entry n exit
unfolding writer_fault write_fault
was_written {boxes} {plugs} {entry} {n} w =
    let r = result_none (writer_fault boxes plugs entry) w.reply in
    let f₁ = or_else_none (box_list_fault boxes) _ r.0 in
    let f₂ = or_else_none (plug_list_fault plugs) _ f₁.1 in
    let c = r.1 ∙ sym (file_length boxes plugs) in
    record {
      boxes_accepted = f₁.0;
      plugs_accepted = f₂.0;
      count = c;
      file = w.file ∙ ap (λ f. buffer_under f (file_of (boxes_of boxes) (plugs_of plugs)) entry) r.0 ∙ ap (λ k. file_of (boxes_of boxes) (plugs_of plugs) ++ drop k entry) (sym c);
    }

-- ---- the first theorem

-- a reading by its reply
reading_is : (reading : Result Counts Refusal) {counts : Counts} → reply_of reading ≡ result counts → reading ≡ Ok counts
reading_is (Ok c) e = cc
reading_is (Err r) e = absurd (cc)

written_read : {boxes plugs : List ℤ} {entry exit : List ℕ} {n : ℕ} {boxesEntry plugsEntry boxesExit plugsExit : List ℤ} {reading : Result Counts Refusal}
    → RoundWritten boxes plugs entry (Ok n) exit → RoundRead (take n exit) boxesEntry plugsEntry reading boxesExit plugsExit
    → length boxes ≤ length boxesEntry → length plugs ≤ length plugsEntry
    → ReadBack boxes plugs boxesEntry plugsEntry reading boxesExit plugsExit
unfolding reader_fault read_fault buffer_fault
written_read {boxes} {plugs} {entry} {exit} {n} {boxesEntry} {plugsEntry} {reading = reading} w r hb hp =
    let d = was_written w in
    let file = file_of (boxes_of boxes) (plugs_of plugs) in
    let t : take n exit ≡ file = ap (take n) d.file ∙ take_at file (drop n entry) n (sym d.count) in
    let c : content_of (take n exit) ≡ held (boxes_of boxes) (plugs_of plugs) = ap content_of t ∙ read_back (boxes_of boxes) (plugs_of plugs) (fit_boxes boxes d.boxes_accepted) (fit_plugs plugs d.plugs_accepted) in
    let eb = flat_boxes boxes (accepted boxes d.boxes_accepted).whole in
    let ep = flat_plugs plugs (whole_plugs plugs d.plugs_accepted) in
    let lb : 4 * length (boxes_of boxes) ≤ length boxesEntry = omega (arith, boxes_length boxes) in
    let lp : 2 * length (plugs_of plugs) ≤ length plugsEntry = omega (arith, count_plugs plugs) in
    let f : reader_fault (take n exit) boxesEntry plugsEntry ≡ none = rw (c, le-ltb _ _ lb, le-ltb _ _ lp) in
    record {
      reply = reading_is reading (r.reply ∙ rw (f, c, boxes_length boxes, count_plugs plugs));
      same_boxes = r.boxes ∙ rw (f, c, eb);
      same_plugs = r.plugs ∙ rw (f, c, ep);
    }

-- ---- the second theorem

read_written : {file : List ℕ} {boxesEntry plugsEntry boxesExit plugsExit : List ℤ} {counts : Counts} {entry exit : List ℕ} {n : ℕ}
    → AllBytes file → (content_of file).notes ≡ 0
    → RoundRead file boxesEntry plugsEntry (Ok counts) boxesExit plugsExit
    → RoundWritten (take (4 * counts.boxes) boxesExit) (take (2 * counts.plugs) plugsExit) entry (Ok n) exit
    → WrittenBack file entry n exit
unfolding reader_fault read_fault
read_written {file} {boxesEntry} {plugsEntry} {boxesExit} {plugsExit} {counts} {entry} {exit} {n} b z r w =
    let held = content_of file in
    let bs = flat_map edges held.boxes in
    let ps = flat_map coordinates held.plugs in
    let f = result_none (reader_fault file boxesEntry plugsEntry) r.reply in
    let well_formed = (or_else_none held.fault _ f.0).0 in
    let lb : length bs ≡ 4 * counts.boxes = length_flat 4 edges (λ x. refl) held.boxes ∙ ap (λ c. 4 * c.boxes) (sym f.1) in
    let lp : length ps ≡ 2 * counts.plugs = length_flat 2 coordinates (λ x. refl) held.plugs ∙ ap (λ c. 2 * c.plugs) (sym f.1) in
    let eb : take (4 * counts.boxes) boxesExit ≡ bs = ap (take (4 * counts.boxes)) (r.boxes ∙ ap (λ g. buffer_under g bs boxesEntry) f.0) ∙ take_at bs _ _ lb in
    let ep : take (2 * counts.plugs) plugsExit ≡ ps = ap (take (2 * counts.plugs)) (r.plugs ∙ ap (λ g. buffer_under g ps plugsEntry) f.0) ∙ take_at ps _ _ lp in
    let d = was_written w in
    let same : file_of (boxes_of (take (4 * counts.boxes) boxesExit)) (plugs_of (take (2 * counts.plugs) plugsExit)) ≡ file =
    rw (eb, ep, boxes_flat held.boxes, plugs_flat held.plugs) (write_back file b well_formed z) in
    let count = d.count ∙ ap length same in
    record { count = count; same_bytes = d.file ∙ rw (same, count) }

-- ---- the demand

pub round_trips : RoundTrips
round_trips =
    record {
      written_read = λ boxes plugs entry exit n be pe bx px reading w r hb hp. written_read w r hb hp;
      read_written = λ file be pe bx px counts entry exit n b z r w. read_written b z r w;
    }
