-- The structs of the verdict calls mean the verdicts and words that they are given for. Assumes nothing.
use Rattle.std.specs.Prelude.{Result, Ok, Err}
use mathlib.Core.Path.{◌≡◌, refl, ap}
use Rattle.rounds.specs.declared.Corner.{Corner}
use Rattle.rounds.specs.declared.Corner.TheVariants.{SouthWest, SouthEast, NorthEast, NorthWest}
use Rattle.rounds.specs.declared.Word.TheVariants.{Inside, Outside, Undecided}
use Rattle.rounds.specs.declared.Reasons.{Reasons}
use Rattle.verdicts.specs.declared.Verdict.{Verdict}
use Rattle.verdicts.specs.declared.Verdict.TheVariants as Verdict'
use Rattle.rounds.specs.declared.Word.{Word}
use Rattle.rounds.specs.declared.Refusal.{Refusal}
use Rattle.c_verdicts.specs.Verdicts.{corner_number, corner_meant, reasoned_struct, reasons_meant, verdict_struct, verdict_meant, word_struct, word_meant}
use Rattle.c_answers.proofs.Answering.{refused_back}

corner_back : (c : Corner) → corner_meant (corner_number c) ≡ c
corner_back SouthWest = refl
corner_back SouthEast = refl
corner_back NorthEast = refl
corner_back NorthWest = refl

reasons_back : (r : Reasons) → reasons_meant (reasoned_struct r) ≡ r
reasons_back r = rw (corner_back r.direction.corner, corner_back r.first.corner, corner_back r.second.corner, corner_back r.third.corner)

pub verdict_back : (v : Result Verdict Refusal) → verdict_meant (verdict_struct v) ≡ v
verdict_back (Ok Verdict'.Inside) = refl
verdict_back (Ok Verdict'.Outside) = refl
verdict_back (Ok (Verdict'.Undecided r)) = ap (λ x. Ok (Verdict'.Undecided x)) (reasons_back r)
verdict_back (Err r) = refused_back r _

pub word_back : (w : Result Word Refusal) → word_meant (word_struct w) ≡ w
word_back (Ok Inside) = refl
word_back (Ok Outside) = refl
word_back (Ok Undecided) = refl
word_back (Err r) = refused_back r _
