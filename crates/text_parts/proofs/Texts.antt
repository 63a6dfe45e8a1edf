-- The text of a file, by what turns it back. Assumes nothing.
use mathlib.Core.Path.{◌≡◌, refl, sym, ◌∙◌, ap, ap₂, subst}
use mathlib.Core.List.{List, ◌++◌, flat_map}
use Prim.Native.Nat.{ℕ, ◌*◌, ◌/◌, ◌%◌, ◌≤◌, ◌<◌}
use native.Mathlib.Omega.{arith}
use borrow.Author.Tests.{lt-ltb, le-ltb, ne_eqb}
use lib.IntN.{ℤ}
use lib.ListN.{length, take, drop, length-append}
use lib.Seq.{take_at}
use Rattle.plane.specs.declared.Point.{Point}
use Rattle.rounds.specs.declared.Box.{Box}
use Rattle.rounds.proofs.Accepted.{accepted}
use Rattle.file_records.proofs.Over.{over_front_lem}
use Rattle.plane.specs.Members.{All}
use Rattle.rounds.specs.Boxes.{BoxList, Ordered, boxes_of, most_boxes}
use Rattle.rounds.specs.Refusals.{none, fault, number_of, refusal_fault, most_input, input_fault, box_list_fault}
use Rattle.rounds.specs.declared.Cause.TheVariants.{InputTooLong, TooManyBoxes}
use Rattle.rounds.specs.declared.Refusal.{Refusal}
use Rattle.plug_words.specs.Shapes.{ShapesOf}
use Rattle.plug_words.specs.declared.RoundShapes.{RoundShapes}
use Rattle.formats.specs.Content.{content_of}
use Rattle.formats.specs.Promises.{edges}
use Rattle.formats.specs.declared.Counts.{Counts}
use Rattle.formats.proofs.Bytes.{length_flat}
use Rattle.formats.proofs.FlatLists.{boxes_flat}
use Rattle.file_passes.specs.Steps.{BoxesRead, BoxRoom}
use Rattle.file_passes.proofs.Judging.{WellFormed}
use Rattle.texts.specs.Text.{refused_line, count_line, plug_lines, whole_fault, text_of, Wrote}
use Rattle.texts.proofs.Decimals.{few_digits}
use Rattle.plug_lines.specs.Steps.{most_plugs}
use Rattle.std.specs.Prelude.{Option, Result}
use Rattle.std.specs.Result.{IsErrAnd}
use Rattle.rounds.proofs.Exits.{passed_on}
use Rattle.text_parts.specs.Waiting.{most_file_plugs, Waiting}
use Rattle.text_parts.specs.Steps.{most_count_line, LeftFrom, Opened, OpenedOrRefused}
use Rattle.text_parts.specs.declared.lines_left.LinesLeft.{LinesLeft}
use Rattle.text_parts.specs.declared.Opening.{Opening}

-- the line of the counts has at most 22 bytes
pub few_count : (b p : ℕ) → b ≤ most_plugs → p ≤ most_plugs → length (count_line b p) ≤ most_count_line
unfolding count_line
few_count b p h k = simp length-append (omega (arith, few_digits 3 b (omega arith), few_digits 3 p (omega arith)))

-- ---- what turns a file back

-- over 65,536 bytes
pub text_long : (file : List ℕ) → most_input < length file → refused_line (number_of InputTooLong) most_input ≡ text_of file
unfolding text_of whole_fault input_fault
text_long file h = rw (lt-ltb most_input (length file) h)

module _ (file : List ℕ) (h : length file ≤ most_input) where
  -- a fault of form
  pub text_refused : (r : Refusal) → (content_of file).fault ≡ refusal_fault r → refused_line (number_of r.cause) r.place ≡ text_of file
  unfolding text_of whole_fault input_fault
  text_refused r e = rw (le-ltb most_input (length file) h, e)

  module _ (w : (content_of file).fault ≡ none) where
    -- the boxes
    pub text_boxes_refused : (r : Refusal) → box_list_fault (flat_map edges (content_of file).boxes) ≡ refusal_fault r → refused_line (number_of r.cause) r.place ≡ text_of file
    unfolding text_of whole_fault input_fault
    text_boxes_refused r e = rw (le-ltb most_input (length file) h, w, e)

    -- nothing
    pub text_accepted : box_list_fault (flat_map edges (content_of file).boxes) ≡ none
        → count_line (length (content_of file).boxes) (length (content_of file).plugs) ++ plug_lines 1 (content_of file).boxes (content_of file).plugs ≡ text_of file
    unfolding text_of whole_fault input_fault
    text_accepted e = rw (le-ltb most_input (length file) h, w, e)

-- ---- the boxes

-- more than a round has
pub too_many : (l : List ℤ) → length l % 4 ≡ 0 → most_boxes < length l / 4 → box_list_fault l ≡ fault TooManyBoxes (length l / 4)
unfolding box_list_fault
too_many l e h = let n : length l ≡ 0 → ⊥ = omega arith in simp (e, ne_eqb _ _ n, lt-ltb most_boxes (length l / 4) h)

-- a refusal is the whole text: as the answer of a `?`, and as the opening that is written
pub refused_by : (file entry : List ℕ) (r : Result Opening Refusal) (e : Refusal) → IsErrAnd r (λ x. x ≡ e) → refused_line (number_of e.cause) e.place ≡ text_of file
    → OpenedOrRefused file entry r entry
refused_by file entry r e h t = subst (λ x. OpenedOrRefused file entry x entry) (sym (passed_on r h)) (t, refl)

-- ---- a well_formed file

module _ (file : List ℕ) {counts : Counts} (h : length file ≤ most_input) (w : WellFormed file counts) where
  same_boxes : counts.boxes ≡ length (content_of file).boxes
  same_boxes = ap (λ c. c.boxes) w.counts_are

  same_plugs : counts.plugs ≡ length (content_of file).plugs
  same_plugs = ap (λ c. c.plugs) w.counts_are

  edge_count : length (flat_map edges (content_of file).boxes) ≡ 4 * counts.boxes
  edge_count = length_flat 4 edges (λ b. refl) (content_of file).boxes ∙ ap (λ n. 4 * n) (sym same_boxes)

  -- with more boxes than a round has
  pub crowded : most_boxes < counts.boxes → refused_line (number_of TooManyBoxes) counts.boxes ≡ text_of file
  crowded m =
      let l = flat_map edges (content_of file).boxes in
      let n : length l / 4 ≡ counts.boxes = omega (arith, edge_count) in
      text_boxes_refused file h w.no_fault (record { cause = TooManyBoxes; place = counts.boxes })
      (too_many l (omega (arith, edge_count)) (omega arith) ∙ ap (fault TooManyBoxes) n)

  -- with no more, they have room
  pub boxes_room : counts.boxes ≤ most_boxes → BoxRoom (content_of file) 4096
  boxes_room m = record { well_formed = w.no_fault; for_boxes = omega (arith, same_boxes) }

  module _ {zeros boxes : List ℤ} {at : ℕ} (b : BoxesRead file zeros at boxes) where
    -- and are the first numbers that were read
    front : take (4 * counts.boxes) boxes ≡ flat_map edges (content_of file).boxes
    front =
        ap (take (4 * counts.boxes)) (b.boxes ∙ over_front_lem zeros (flat_map edges (content_of file).boxes))
        ∙ take_at (flat_map edges (content_of file).boxes) (drop (length (flat_map edges (content_of file).boxes)) zeros) (4 * counts.boxes) edge_count

    -- refused
    pub boxes_refused : (r : Refusal) → box_list_fault (take (4 * counts.boxes) boxes) ≡ refusal_fault r → refused_line (number_of r.cause) r.place ≡ text_of file
    boxes_refused r e = text_boxes_refused file h w.no_fault r (ap box_list_fault (sym front) ∙ e)

    -- accepted
    module _ (e : box_list_fault (take (4 * counts.boxes) boxes) ≡ none) where
      listed : BoxList (flat_map edges (content_of file).boxes)
      listed = accepted (flat_map edges (content_of file).boxes) (ap box_list_fault (sym front) ∙ e)

      pub few_plugs : counts.plugs ≤ most_file_plugs
      few_plugs = omega (arith, edge_count, listed.some, w.few)

      -- the lines of its plugs are to be written
      pub waiting_first : {shapes : RoundShapes} {l : List ℤ} → ShapesOf (boxes_of l) shapes → l ≡ take (4 * counts.boxes) boxes → Waiting file shapes at 0 counts.plugs
      waiting_first {shapes} p same =
          record {
            shapes_of = ∣ subst (λ l. ShapesOf l shapes) (ap boxes_of (same ∙ front) ∙ boxes_flat (content_of file).boxes) p ∣₁;
            ordered = subst (All Ordered) (boxes_flat (content_of file).boxes) listed.ordered;
            within = b.plugs.within;
            well_formed = b.plugs.well_formed;
            left = ap length b.plugs.are ∙ sym same_plugs;
            few = omega (arith, few_plugs);
          }

      pub opened : {entry exit : List ℕ} {n : ℕ} {left : Option LinesLeft} → counts.boxes ≤ most_boxes → Wrote (count_line counts.boxes counts.plugs) entry n exit
          → LeftFrom file at 0 counts.plugs left → Opened file entry (record { bytes = n; left = left }) exit
      unfolding plug_lines
      opened {entry} {exit} {n} {left} m o f =
          record {
            opening = line;
            wrote = o;
            is = ap (λ t. line ++ t) f.lines ∙ ap (λ qs. line ++ plug_lines 1 bs qs) b.plugs.are ∙ text;
            few = λ z. omega (arith, o.counted, few_count counts.boxes counts.plugs (omega arith) (omega (arith, few_plugs)));
            behind = f.behind;
          }
        where
          bs : List Box
          bs = (content_of file).boxes

          ps : List Point
          ps = (content_of file).plugs

          line : List ℕ
          line = count_line counts.boxes counts.plugs

          text : line ++ plug_lines 1 bs ps ≡ text_of file
          text = ap₂ (λ a c. count_line a c ++ plug_lines 1 bs ps) same_boxes same_plugs ∙ text_accepted file h w.no_fault (ap box_list_fault (sym front) ∙ e)
