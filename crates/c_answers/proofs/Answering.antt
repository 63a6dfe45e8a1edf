-- From an answer that keeps its promise to the struct that it is given as. Assumes nothing.
use Rattle.std.specs.Prelude.{Err}
use mathlib.Core.Path.{◌≡◌, sym, ◌∙◌, ap, subst}
use borrow.Author.Tests.{ne_eqb}
use Rattle.rounds.specs.Refusals.{number_of}
use Rattle.rounds.specs.declared.Refusal.{Refusal}
use Rattle.rounds.proofs.Numbers.{number_positive, cause_back}
use Rattle.c_answers.specs.Answers.{Answered, unless_refused}

-- a struct that an answer is given as, where the struct means that answer
pub answered : {A S : Type 0} (given : A → S) (meant : S → A) (Promise : A → Type 0) (a : A) (s : S)
    → Promise a → meant (given a) ≡ a → s ≡ given a → Answered given meant Promise s
answered given meant Promise a s promise back is =
    let same : meant s ≡ a = ap meant is ∙ back in
    record { promise = subst Promise (sym same) promise; numbers = is ∙ ap given (sym same) }

-- the number and the place of a refusal mean that refusal
pub refused_back : {A : Type 0} (r : Refusal) (a : A) → unless_refused (number_of r.cause) r.place a ≡ Err r
refused_back r a = rw (ne_eqb (number_of r.cause) 0 (number_positive r.cause), cause_back r.cause)
