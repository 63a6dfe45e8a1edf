-- The verdict on a plug, with its reasons (docs/SCOPE.md 4). Definitions only.
use Rattle.std.specs.Prelude.{◌≡◌, Result, Ok, Err, List, ℤ}
use Rattle.plane.specs.declared.Point.{Point}
use Rattle.rounds.specs.Boxes.{boxes_of}
use Rattle.rounds.specs.Reasons.{Reasoned}
use Rattle.rounds.specs.Refusals.{verdict_fault}
use Rattle.rounds.specs.Replies.{Reply, result, refusal_reply, reply_under}
use Rattle.rounds.specs.Words.{Means, word_of}
use Rattle.rounds.specs.declared.Box.{Box}
use Rattle.rounds.specs.declared.Reasons.{Reasons}
use Rattle.rounds.specs.declared.Refusal.{Refusal}
use Rattle.rounds.specs.declared.Word.{Word}
use Rattle.rounds.specs.declared.Word.TheVariants as Word'
use Rattle.verdicts.specs.declared.Verdict.{Verdict}
use Rattle.verdicts.specs.declared.Verdict.TheVariants.{Inside, Outside, Undecided}

-- what the verdict on a plug of accepted boxes says: the meaning of its word, and undecided by its reasons
abbrev pub Judged : List Box → Point → Verdict → Type 0
Judged bs p Inside = Means bs p Word'.Inside
Judged bs p Outside = Means bs p Word'.Outside
Judged bs p (Undecided r) = Reasoned bs p r

-- the word of a verdict (docs/SCOPE.md 4.1)
abbrev pub verdict_word : Verdict → Word
verdict_word Inside = Word'.Inside
verdict_word Outside = Word'.Outside
verdict_word (Undecided r) = Word'.Undecided

-- the word, or number and place, for each case of an answer (docs/SCOPE.md 4.1, 6.2)
abbrev pub verdict_reply : Result Verdict Refusal → Reply Word
verdict_reply (Ok v) = result (verdict_word v)
verdict_reply (Err r) = refusal_reply r

-- the reply on boxes and a plug: the one word that they have, or the first cause that turns them back
abbrev pub verdict_on : List ℤ → Point → Reply Word
verdict_on boxes plug = reply_under (verdict_fault boxes plug) (word_of (boxes_of boxes) plug)

-- the answer is that reply, and undecided carries reasons that hold; which of those are given, `verdict_of` says (Answers)
pub record VerdictIs (boxes : List ℤ) (plug : Point) (v : Result Verdict Refusal) : Type 0 where
  pub reply : verdict_reply v ≡ verdict_on boxes plug
  pub reasons : (r : Reasons) → v ≡ Ok (Undecided r) → Reasoned (boxes_of boxes) plug r
