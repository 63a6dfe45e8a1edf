-- The third demand holds of every call that gives a word: by the promise of each, and the one word that the corners have. Assumes nothing.
use mathlib.Core.Path.{◌≡◌, refl, sym, ◌∙◌, ap, subst}
use mathlib.Core.Bool.{Bool, true, false, ◌||◌}
use mathlib.Core.List.{List, [], ◌∷◌, ◌++◌, flat_map}
use Prim.Native.Nat.{ℕ, ◌+◌}
use native.Mathlib.Omega.{arith}
use lib.IntN.{ℤ}
use lib.ListN.{length}
use Rattle.plane.specs.declared.Point.{Point}
use Rattle.plane.specs.Members.{All}
use Rattle.rounds.specs.Boxes.{Ordered, boxes_of}
use Rattle.rounds.specs.Reasons.{Reasoned}
use Rattle.rounds.specs.Refusals.{Fault, when, beyond, input_fault, plug_fault}
use Rattle.rounds.specs.Replies.{result, reply_of, reply_under}
use Rattle.rounds.specs.Words.{Means, word_of}
use Rattle.rounds.specs.declared.Box.{Box}
use Rattle.rounds.specs.declared.Cause.TheVariants.{PlugBeyond}
use Rattle.rounds.specs.declared.Reasons.{Reasons}
use Rattle.rounds.specs.declared.Word.{Word}
use Rattle.rounds.specs.declared.Word.TheVariants.{Inside, Outside}
use Rattle.rounds.proofs.Accepted.{or_else_none, accepted}
use Rattle.rounds.proofs.Corners.{corner_pick, reason_supported}
use Rattle.rounds.proofs.Entries.{mean_pick, mean_pick_chosen, second_succeeds}
use Rattle.rounds.proofs.Total.{exactly}
use Rattle.std.specs.Prelude.{Result, Ok, Err}
use Rattle.rounds.specs.declared.Refusal.{Refusal}
use Rattle.verdicts.specs.Verdicts.{verdict_reply, verdict_on, VerdictIs}
use Rattle.verdicts.specs.declared.Verdict.{Verdict}
use Rattle.verdicts.specs.declared.Verdict.TheVariants as Verdict'
use Rattle.records.specs.Records.{edges_of}
use Rattle.formats.specs.Content.{content_of}
use Rattle.formats.specs.Promises.{edges}
use Rattle.formats.proofs.FlatLists.{boxes_flat}
use Rattle.c_verdicts.specs.Verdicts.{verdict_meant, word_meant}
use Rattle.texts.specs.Text.{count_line, plug_reply, plug_line, plug_lines, whole_fault, text_under, text_of}
use Rattle.demands.specs.Picks.{entries_of, VerdictHolds, WordHolds, LinesHold, NoFault, Demand3}
use Rattle.demands.proofs.Accepting.{result_inj, ordered_boxes}

-- ---- a word

-- the word that the corners have
word_holds : (bs : List Box) (p : Point) → All Ordered bs → WordHolds bs p (word_of bs p)
word_holds bs p os = record { exactly = λ other. (λ e. (exactly bs p os other).1 (sym e), λ m. sym ((exactly bs p os other).0 m)) }

-- ---- a verdict

module _ (bs : List Box) (p : Point) (os : All Ordered bs) where
  is_inside : (v : Result Verdict Refusal) → verdict_reply v ≡ result Inside → v ≡ Ok Verdict'.Inside
  is_inside (Ok Verdict'.Inside) i = refl
  is_inside (Ok Verdict'.Outside) i = absurd (cc)
  is_inside (Ok (Verdict'.Undecided r)) i = absurd (cc)
  is_inside (Err r) i = absurd (cc)

  is_outside : (v : Result Verdict Refusal) → verdict_reply v ≡ result Outside → v ≡ Ok Verdict'.Outside
  is_outside (Ok Verdict'.Inside) i = absurd (cc)
  is_outside (Ok Verdict'.Outside) i = refl
  is_outside (Ok (Verdict'.Undecided r)) i = absurd (cc)
  is_outside (Err r) i = absurd (cc)

  module _ (v : Result Verdict Refusal) (reply : verdict_reply v ≡ result (word_of bs p)) (reasons : (r : Reasons) → v ≡ Ok (Verdict'.Undecided r) → Reasoned bs p r) where
    -- the word that a case of the verdict replies
    told : {w : Word} → verdict_reply v ≡ result w → Means bs p w
    told {w} i = (exactly bs p os w).1 (result_inj (sym i ∙ reply))

    replied : {w : Word} → Means bs p w → verdict_reply v ≡ result w
    replied {w} m = reply ∙ ap result (sym ((exactly bs p os w).0 m))

    verdict_holds : VerdictHolds bs p v
    verdict_holds =
        record {
          inside_exactly = (λ i. told (ap verdict_reply i), λ m. is_inside v (replied m));
          outside_exactly = (λ i. told (ap verdict_reply i), λ m. is_outside v (replied m));
          otherwise_undecided = λ i o. undecided v i o reply reasons;
          first_pick = λ r i. (corner_pick os r.direction.corner, record { whole = refl; corners = refl }, reason_supported (reasons r i).first_driver.reason);
          second_pick = λ r i. (mean_pick os (entries_of r), mean_pick_chosen os (entries_of r), second_succeeds p os (entries_of r) (reasons r i).second_driver.reason);
        }
      where
        undecided : (v : Result Verdict Refusal) → (v ≡ Ok Verdict'.Inside → ⊥) → (v ≡ Ok Verdict'.Outside → ⊥) → verdict_reply v ≡ result (word_of bs p)
            → ((r : Reasons) → v ≡ Ok (Verdict'.Undecided r) → Reasoned bs p r) → (r : Reasons) × (v ≡ Ok (Verdict'.Undecided r)) × Reasoned bs p r
        undecided (Ok Verdict'.Inside) i o q f = absurd (i refl)
        undecided (Ok Verdict'.Outside) i o q f = absurd (o refl)
        undecided (Ok (Verdict'.Undecided r)) i o q f = (r, refl, f r refl)
        undecided (Err r) i o q f = absurd (cc)

-- the reply on accepted boxes and a plug
given : (l : List ℤ) (p : Point) → NoFault l p → verdict_on l p ≡ result (word_of (boxes_of l) p)
given l p e = ap (λ f. reply_under f (word_of (boxes_of l) p)) e

of_verdict : (l : List ℤ) (p : Point) (v : Result Verdict Refusal) → VerdictIs l p v → NoFault l p → VerdictHolds (boxes_of l) p v
of_verdict l p v h e = verdict_holds (boxes_of l) p (ordered_boxes l p e) v (h.reply ∙ given l p e) h.reasons

of_word : (l : List ℤ) (p : Point) (reply : Result Word Refusal) → reply_of reply ≡ verdict_on l p → NoFault l p → (w : Word) × (reply ≡ Ok w) × WordHolds (boxes_of l) p w
of_word l p reply h e = go reply (h ∙ given l p e)
  where
    go : (reply : Result Word Refusal) → reply_of reply ≡ result (word_of (boxes_of l) p) → (w : Word) × (reply ≡ Ok w) × WordHolds (boxes_of l) p w
    go (Ok w) i = (word_of (boxes_of l) p, ap Ok (result_inj i), word_holds (boxes_of l) p (ordered_boxes l p e))
    go (Err r) i = absurd (cc)

-- ---- records

pub boxes_of_edges : (bs : List Box) → boxes_of (edges_of bs) ≡ bs
boxes_of_edges [] = refl
boxes_of_edges (b ∷ bs) = ap (λ l. b ∷ l) (boxes_of_edges bs)

of_records : (bs : List Box) (p : Point) (v : Result Verdict Refusal) → VerdictIs (edges_of bs) p v → NoFault (edges_of bs) p → VerdictHolds bs p v
of_records bs p v h e = subst (λ l. VerdictHolds l p v) (boxes_of_edges bs) (of_verdict (edges_of bs) p v h e)

-- ---- printed lines

module _ (bs : List Box) (os : All Ordered bs) where
  -- one line, by whether the plug is beyond the span
  line : (k : ℕ) (p : Point) {ps : List Point} {lines : List ℕ} (b : Bool) → plug_fault 1 p ≡ when b PlugBeyond 1 → LinesHold bs (k + 1) ps lines
      → LinesHold bs k (p ∷ ps) (plug_line k (plug_reply bs p) ++ lines)
  line k p {ps} {lines} b e more = subst (λ f. LinesHold bs k (p ∷ ps) (plug_line k (reply_under f (word_of bs p)) ++ lines)) (sym e) (go b e)
    where
      go : (b : Bool) → plug_fault 1 p ≡ when b PlugBeyond 1 → LinesHold bs k (p ∷ ps) (plug_line k (reply_under (when b PlugBeyond 1) (word_of bs p)) ++ lines)
      go true e = LinesHold.beyond e more
      go false e = LinesHold.word (word_of bs p) e (word_holds bs p os) more

  lines_hold : (k : ℕ) (ps : List Point) → LinesHold bs k ps (plug_lines k bs ps)
  unfolding plug_lines plug_fault
  lines_hold k [] = LinesHold.no_plug
  lines_hold k (p ∷ ps) = line k p (beyond p.east || beyond p.north) refl (lines_hold (k + 1) ps)

of_printed : (file : List ℕ) → whole_fault file ≡ Fault.none
    → (lines : List ℕ) × (text_of file ≡ count_line (length (content_of file).boxes) (length (content_of file).plugs) ++ lines) × LinesHold (content_of file).boxes 1 (content_of file).plugs lines
unfolding text_of whole_fault
of_printed file e = (plug_lines 1 bs (content_of file).plugs, ap (λ f. text_under f bs (content_of file).plugs) e, lines_hold bs os 1 (content_of file).plugs)
  where
    bs : List Box
    bs = (content_of file).boxes

    os : All Ordered bs
    os =
        subst (All Ordered) (boxes_flat bs)
        (accepted (flat_map edges bs) (or_else_none (content_of file).fault _ (or_else_none (input_fault (length file)) _ e).1).1).ordered

-- ---- the demand

pub demand_3 : Demand3
demand_3 =
    record {
      verdict = of_verdict;
      word = of_word;
      on_records = of_records;
      c_verdict = λ l p s h e. of_verdict l p (verdict_meant s) h.promise e;
      c_word = λ l p s h e. of_word l p (word_meant s) h.promise e;
      c_on_records = λ bs p s h e. of_records bs p (verdict_meant s) h.promise e;
      printed = of_printed;
    }
