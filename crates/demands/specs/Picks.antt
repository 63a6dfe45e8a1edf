-- The third demand, of every call that gives a word: what a verdict and a word say of every pick, and the picks that reasons describe. Definitions only.
use Rattle.std.specs.Prelude.{Result, Ok, ℕ, ◌+◌, ◌↔◌, ◌≡◌, List, [], ◌∷◌, ◌++◌, ℤ, length}
use Rattle.plane.specs.declared.Point.{Point}
use Rattle.rounds.specs.Boxes.{boxes_of, corners_of}
use Rattle.rounds.specs.Picks.{Pick}
use Rattle.rounds.specs.Reasons.{Reasoned, Chosen}
use Rattle.rounds.specs.Refusals.{Fault, fault, plug_fault, verdict_fault}
use Rattle.rounds.specs.Replies.{result, refused}
use Rattle.rounds.specs.Words.{FirstSucceeds, SecondSucceeds, Means}
use Rattle.rounds.specs.declared.Box.{Box}
use Rattle.rounds.specs.declared.Cause.TheVariants.{PlugBeyond}
use Rattle.rounds.specs.declared.Corner.{Corner}
use Rattle.rounds.specs.declared.Entry.{Entry}
use Rattle.rounds.specs.declared.Reasons.{Reasons}
use Rattle.rounds.specs.declared.Word.{Word}
use Rattle.rounds.specs.declared.Refusal.{Refusal}
use Rattle.rounds.specs.Replies.{reply_of}
use Rattle.verdicts.specs.Verdicts.{VerdictIs, verdict_on}
use Rattle.verdicts.specs.declared.Verdict.{Verdict}
use Rattle.verdicts.specs.declared.Verdict.TheVariants.{Inside, Outside, Undecided}
use Rattle.records.specs.Records.{edges_of}
use Rattle.formats.specs.Content.{content_of}
use Rattle.texts.specs.Text.{count_line, plug_line, whole_fault, text_of}
use Rattle.c_answers.specs.Answers.{Answered}
use Rattle.c_verdicts.specs.Verdicts.{verdict_struct, verdict_meant, word_struct, word_meant}
use Rattle.c_verdicts.specs.declared.VerdictAnswer.{VerdictAnswer}
use Rattle.c_verdicts.specs.declared.WordAnswer.{WordAnswer}

-- ---- the picks that reasons describe

-- for the first driver: the named corner in every box
pub record PicksCorner {bs : List Box} (corner : Corner) (k : Pick bs) : Type 0 where
  pub whole : k.denominator ≡ 1
  pub corners : k.points ≡ corners_of corner bs

-- for the second driver: in a box of positive weight the weighted mean of the corners that its entries name, and SW in every other
abbrev pub PicksMeans : {bs : List Box} → List Entry → Pick bs → Type 0
PicksMeans {bs} entries k = Chosen entries k.denominator 1 bs k.points

abbrev pub entries_of : Reasons → List Entry
entries_of r = r.first ∷ r.second ∷ r.third ∷ []

-- ---- the demand

-- of a verdict: inside exactly if the first driver has no successful pick, outside exactly if the second has none, otherwise undecided, with reasons that describe
-- one successful pick for each
pub record VerdictHolds (bs : List Box) (plug : Point) (v : Result Verdict Refusal) : Type 0 where
  pub inside_exactly : (v ≡ Ok Inside) ↔ ((k : Pick bs) → FirstSucceeds plug k → ⊥)
  pub outside_exactly : (v ≡ Ok Outside) ↔ ((k : Pick bs) → SecondSucceeds plug k → ⊥)
  pub otherwise_undecided : (v ≡ Ok Inside → ⊥) → (v ≡ Ok Outside → ⊥) → (r : Reasons) × (v ≡ Ok (Undecided r)) × Reasoned bs plug r
  pub first_pick : (r : Reasons) → v ≡ Ok (Undecided r) → (k : Pick bs) × PicksCorner r.direction.corner k × FirstSucceeds plug k
  pub second_pick : (r : Reasons) → v ≡ Ok (Undecided r) → (k : Pick bs) × PicksMeans (entries_of r) k × SecondSucceeds plug k

-- of a word alone: it is each word exactly if that word's meaning holds (`Means`)
pub record WordHolds (bs : List Box) (plug : Point) (w : Word) : Type 0 where
  pub exactly : (other : Word) → (w ≡ other) ↔ Means bs plug other

-- of the printed lines, one for each plug, the first having the number k: a word that holds, or `refused 6` for a plug beyond the span
pub data LinesHold (bs : List Box) : ℕ → List Point → List ℕ → Type 0 where
  no_plug : {k : ℕ} → LinesHold bs k [] []
  word : {k : ℕ} {p : Point} {ps : List Point} {lines : List ℕ} (w : Word) → plug_fault 1 p ≡ Fault.none → WordHolds bs p w → LinesHold bs (k + 1) ps lines
      → LinesHold bs k (p ∷ ps) (plug_line k (result w) ++ lines)
  beyond : {k : ℕ} {p : Point} {ps : List Point} {lines : List ℕ} → plug_fault 1 p ≡ fault PlugBeyond 1 → LinesHold bs (k + 1) ps lines
      → LinesHold bs k (p ∷ ps) (plug_line k (refused 6 1) ++ lines)

-- no cause turns the boxes and the plug back
abbrev pub NoFault : List ℤ → Point → Type 0
NoFault boxes plug = verdict_fault boxes plug ≡ Fault.none

-- the demand, of every call that gives a word
pub record Demand3 : Type 0 where
  -- verdicts::verdict_on and verdicts::word_on
  pub verdict : (boxes : List ℤ) (plug : Point) (v : Result Verdict Refusal) → VerdictIs boxes plug v → NoFault boxes plug → VerdictHolds (boxes_of boxes) plug v
  pub word : (boxes : List ℤ) (plug : Point) (reply : Result Word Refusal) → reply_of reply ≡ verdict_on boxes plug → NoFault boxes plug
      → (w : Word) × (reply ≡ Ok w) × WordHolds (boxes_of boxes) plug w
  -- records::verdict_on
  pub on_records : (boxes : List Box) (plug : Point) (v : Result Verdict Refusal) → VerdictIs (edges_of boxes) plug v → NoFault (edges_of boxes) plug → VerdictHolds boxes plug v
  -- c_api::feltloquat_verdict, feltloquat_word and feltloquat_verdict_on_records
  pub c_verdict : (boxes : List ℤ) (plug : Point) (s : VerdictAnswer) → Answered verdict_struct verdict_meant (VerdictIs boxes plug) s → NoFault boxes plug
      → VerdictHolds (boxes_of boxes) plug (verdict_meant s)
  pub c_word : (boxes : List ℤ) (plug : Point) (s : WordAnswer) → Answered word_struct word_meant (λ reply. reply_of reply ≡ verdict_on boxes plug) s → NoFault boxes plug
      → (w : Word) × (word_meant s ≡ Ok w) × WordHolds (boxes_of boxes) plug w
  pub c_on_records : (boxes : List Box) (plug : Point) (s : VerdictAnswer) → Answered verdict_struct verdict_meant (VerdictIs (edges_of boxes) plug) s → NoFault (edges_of boxes) plug
      → VerdictHolds boxes plug (verdict_meant s)
  -- printing::write_text and c_api::feltloquat_print_round
  pub printed : (file : List ℕ) → whole_fault file ≡ Fault.none
      → (lines : List ℕ) × (text_of file ≡ count_line (length (content_of file).boxes) (length (content_of file).plugs) ++ lines) × LinesHold (content_of file).boxes 1 (content_of file).plugs lines
