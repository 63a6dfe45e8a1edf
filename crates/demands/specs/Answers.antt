-- Equal answers: records and the C structs answer as the flat list's call does, reasons included. Definitions only.
use Rattle.std.specs.Prelude.{Result, ◌≡◌, List, ℤ}
use Rattle.plane.specs.declared.Point.{Point}
use Rattle.rounds.specs.declared.Box.{Box}
use Rattle.rounds.specs.declared.Refusal.{Refusal}
use Rattle.rounds.specs.declared.Word.{Word}
use Rattle.rounds.specs.Replies.{reply_of}
use Rattle.verdicts.specs.Verdicts.{VerdictIs, verdict_on}
use Rattle.verdicts.specs.Answers.{verdict_of, word_only}
use Rattle.verdicts.specs.declared.Verdict.{Verdict}
use Rattle.records.specs.Records.{edges_of}
use Rattle.c_answers.specs.Answers.{Answered}
use Rattle.c_verdicts.specs.Verdicts.{verdict_struct, verdict_meant, word_struct, word_meant}
use Rattle.c_verdicts.specs.declared.VerdictAnswer.{VerdictAnswer}
use Rattle.c_verdicts.specs.declared.WordAnswer.{WordAnswer}

-- ---- what each call promises of its answer, word for word

-- verdicts::verdict_on; records::verdict_on, of the records' edges
abbrev pub GivesVerdict : List ℤ → Point → Result Verdict Refusal → Type 0
GivesVerdict boxes plug v = VerdictIs boxes plug v × (v ≡ verdict_of boxes plug)

-- verdicts::word_on
abbrev pub GivesWord : List ℤ → Point → Result Word Refusal → Type 0
GivesWord boxes plug w = (reply_of w ≡ verdict_on boxes plug) × (w ≡ word_only (verdict_of boxes plug))

-- c_api::feltloquat_verdict; feltloquat_verdict_on_records, of the records' edges
abbrev pub GivesStruct : List ℤ → Point → VerdictAnswer → Type 0
GivesStruct boxes plug s = Answered verdict_struct verdict_meant (VerdictIs boxes plug) s × (s ≡ verdict_struct (verdict_of boxes plug))

-- c_api::feltloquat_word
abbrev pub GivesWordStruct : List ℤ → Point → WordAnswer → Type 0
GivesWordStruct boxes plug s = Answered word_struct word_meant (λ w. reply_of w ≡ verdict_on boxes plug) s × (s ≡ word_struct (word_only (verdict_of boxes plug)))

-- ---- equal answers

-- a struct has a verdict's numbers, and means that verdict
pub record StructOf (s : VerdictAnswer) (v : Result Verdict Refusal) : Type 0 where
  pub numbers : s ≡ verdict_struct v
  pub means : verdict_meant s ≡ v

-- on one list of boxes and one plug: v is the answer of the flat list's call
pub record EqualAnswers : Type 0 where
  -- every call of it has the same answer
  pub again : (boxes : List ℤ) (plug : Point) (v w : Result Verdict Refusal) → GivesVerdict boxes plug v → GivesVerdict boxes plug w → w ≡ v
  -- the word alone is its word, or the same refusal
  pub word : (boxes : List ℤ) (plug : Point) (v : Result Verdict Refusal) (w : Result Word Refusal) → GivesVerdict boxes plug v → GivesWord boxes plug w → w ≡ word_only v
  -- the same boxes as records
  pub on_records : (boxes : List Box) (plug : Point) (v w : Result Verdict Refusal) → GivesVerdict (edges_of boxes) plug v → GivesVerdict (edges_of boxes) plug w → w ≡ v
  -- C
  pub c_verdict : (boxes : List ℤ) (plug : Point) (v : Result Verdict Refusal) (s : VerdictAnswer) → GivesVerdict boxes plug v → GivesStruct boxes plug s → StructOf s v
  pub c_on_records : (boxes : List Box) (plug : Point) (v : Result Verdict Refusal) (s : VerdictAnswer) → GivesVerdict (edges_of boxes) plug v → GivesStruct (edges_of boxes) plug s → StructOf s v
  pub c_word : (boxes : List ℤ) (plug : Point) (v : Result Verdict Refusal) (s : WordAnswer) → GivesVerdict boxes plug v → GivesWordStruct boxes plug s → s ≡ word_struct (word_only v)
