-- What an exported call promises of the struct that it returns. Definitions only.
use Rattle.std.specs.Prelude.{Result, Ok, Err, ◌≡◌, cond, ℕ, eqb}
use Rattle.rounds.specs.Refusals.{cause_meant}
use Rattle.rounds.specs.declared.Refusal.{Refusal}

-- the answer that the struct means keeps the wrapped call's promise, and the struct is what that answer is given as, number by number
pub record Answered {A S : Type 0} (given : A → S) (meant : S → A) (Promise : A → Type 0) (s : S) : Type 0 where
  pub promise : Promise (meant s)
  pub numbers : s ≡ given (meant s)

-- the answer that a struct's first two numbers tell: a result where no number of a cause is given, else a refusal by that cause with the place
abbrev pub unless_refused : {A : Type 0} → ℕ → ℕ → A → Result A Refusal
unless_refused refused place result = cond (eqb refused 0) (Ok result) (Err (record { cause = cause_meant refused; place = place }))
