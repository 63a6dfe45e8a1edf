-- Equal answers: each is by the definition of the verdict that is given. Assumes nothing.
use mathlib.Core.Path.{◌≡◌, sym, ◌∙◌, ap}
use mathlib.Core.List.{List}
use lib.IntN.{ℤ}
use Rattle.plane.specs.declared.Point.{Point}
use Rattle.verdicts.specs.Answers.{word_only}
use Rattle.std.specs.Prelude.{Result}
use Rattle.rounds.specs.declared.Refusal.{Refusal}
use Rattle.verdicts.specs.declared.Verdict.{Verdict}
use Rattle.records.specs.Records.{edges_of}
use Rattle.c_verdicts.specs.Verdicts.{verdict_struct, verdict_meant, word_struct}
use Rattle.c_verdicts.specs.declared.VerdictAnswer.{VerdictAnswer}
use Rattle.c_verdicts.proofs.Verdicts.{verdict_back}
use Rattle.demands.specs.Answers.{GivesVerdict, GivesStruct, StructOf, EqualAnswers}

struct_of : (boxes : List ℤ) (plug : Point) (v : Result Verdict Refusal) (s : VerdictAnswer) → GivesVerdict boxes plug v → GivesStruct boxes plug s → StructOf s v
struct_of boxes plug v s h k =
    let e : s ≡ verdict_struct v = k.1 ∙ ap verdict_struct (sym h.1) in
    record { numbers = e; means = ap verdict_meant e ∙ verdict_back v }

pub equal_answers : EqualAnswers
equal_answers =
    record {
      again = λ boxes plug v w h k. k.1 ∙ sym h.1;
      word = λ boxes plug v w h k. k.1 ∙ ap word_only (sym h.1);
      on_records = λ boxes plug v w h k. k.1 ∙ sym h.1;
      c_verdict = λ boxes plug v s h k. struct_of boxes plug v s h k;
      c_on_records = λ boxes plug v s h k. struct_of (edges_of boxes) plug v s h k;
      c_word = λ boxes plug v s h k. k.1 ∙ ap (λ w. word_struct (word_only w)) (sym h.1);
    }
