-- The reader's promise at each return, by what the judging pass said of the file and by the buffers' lengths. Assumes nothing.
use mathlib.Core.Path.{◌≡◌, sym, ◌∙◌, ap}
use mathlib.Core.List.{List, flat_map}
use Prim.Native.Nat.{ℕ, ◌*◌, ◌≤◌}
use native.Mathlib.Omega.{arith}
use lib.IntN.{ℤ}
use lib.ListN.{length, take}
use lib.Seq.{take_all}
use Rattle.std.specs.Prelude.{Result, Ok, Err}
use Rattle.rounds.specs.Refusals.{none, refusal_fault, ◌or_else◌, buffer_fault, read_fault}
use Rattle.rounds.specs.declared.Refusal.{Refusal}
use Rattle.rounds.proofs.Exits.{in_turn}
use Rattle.formats.specs.Content.{content_of}
use Rattle.formats.specs.Promises.{edges, coordinates, reader_fault, RoundRead}
use Rattle.formats.specs.declared.Counts.{Counts}
use Rattle.file_passes.proofs.Judging.{WellFormed}
use Rattle.file_passes.specs.Steps.{BoxRoom, BoxesRead, PlugRoom, PlugsRead}
use Rattle.file_records.specs.Records.{over}
use Rattle.file_records.proofs.Over.{over_front_lem}
use Rattle.files.proofs.Buffers.{fits_buffer}

-- ---- the promise at each return

module _ (file : List ℕ) (boxes plugs : List ℤ) where
  -- under a fault
  turned_back : {reading : Result Counts Refusal} {r : Refusal} → reading ≡ Err r → reader_fault file boxes plugs ≡ refusal_fault r
      → RoundRead file boxes plugs reading boxes plugs
  turned_back p e = record { reply = rw (p, e); boxes = rw e; plugs = rw e }

  pub refused_by_form : {reading : Result Counts Refusal} {r : Refusal} → reading ≡ Err r → (content_of file).fault ≡ refusal_fault r
      → RoundRead file boxes plugs reading boxes plugs
  unfolding reader_fault read_fault
  refused_by_form p e = turned_back p (simp e)

  module _ {counts : Counts} (w : WellFormed file counts) where
    -- the fault of the buffers is all that is left
    measured : reader_fault file boxes plugs ≡ (buffer_fault (4 * counts.boxes) (length boxes) or_else buffer_fault (2 * counts.plugs) (length plugs))
    unfolding reader_fault read_fault
    measured = rw (w.no_fault, w.counts_are)

    pub refused_by_length : {reading : Result Counts Refusal} {r : Refusal} → reading ≡ Err r
        → refusal_fault r ≡ (buffer_fault (4 * counts.boxes) (length boxes) or_else buffer_fault (2 * counts.plugs) (length plugs))
        → RoundRead file boxes plugs reading boxes plugs
    refused_by_length p m = turned_back p (measured ∙ sym m)

    -- with room for boxes
    module _ (b : none ≡ buffer_fault (4 * counts.boxes) (length boxes)) where
      pub box_room : BoxRoom (content_of file) (length boxes)
      box_room =
          let f = fits_buffer (4 * counts.boxes) (length boxes) (sym b) in
          record { well_formed = w.no_fault; for_boxes = rw w.counts_are at f }

      -- and for plugs
      module _ (p : none ≡ buffer_fault (2 * counts.plugs) (length plugs)) {at : ℕ} {boxesExit : List ℤ} (br : BoxesRead file boxes at boxesExit) where
        pub plug_room : PlugRoom file at counts.plugs (length plugs)
        plug_room =
            record {
              within = br.plugs.within;
              well_formed = br.plugs.well_formed;
              enough = omega (arith, ap length br.plugs.are, ap (λ c. c.plugs) w.counts_are);
              for_plugs = fits_buffer (2 * counts.plugs) (length plugs) (sym p);
            }

        pub was_read : {next : ℕ} {plugsExit : List ℤ} → PlugsRead file at counts.plugs plugs next plugsExit → RoundRead file boxes plugs (Ok counts) boxesExit plugsExit
        was_read pr =
            let z : reader_fault file boxes plugs ≡ none = measured ∙ sym (in_turn b p) in
            let n : length (content_of file).plugs ≤ counts.plugs = omega (arith, ap (λ c. c.plugs) w.counts_are) in
            let all = ap (take counts.plugs) br.plugs.are ∙ take_all counts.plugs (content_of file).plugs n in
            record {
              reply = rw (z, w.counts_are);
              boxes = rw z (br.boxes ∙ over_front_lem boxes (flat_map edges (content_of file).boxes));
              plugs = rw z (pr.plugs ∙ ap (λ ps. over plugs 0 (flat_map coordinates ps)) all ∙ over_front_lem plugs (flat_map coordinates (content_of file).plugs));
            }
