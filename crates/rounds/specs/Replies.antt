-- What a call returns, and what a lent buffer holds at exit, under a fault and under none. Definitions only.
use Rattle.std.specs.Prelude.{Result, Ok, Err, ℕ, List, ◌++◌, length, drop}
use Rattle.rounds.specs.Refusals.{Fault, none, fault, number_of}
use Rattle.rounds.specs.declared.Refusal.{Refusal}

-- a result, or the number of a cause in the table and its place (docs/SCOPE.md 6.1), and no other result
pub data Reply (A : Type 0) : Type 0 where
  result : A → Reply A
  refused : ℕ → ℕ → Reply A

-- the number and place for a refusal
abbrev pub refusal_reply : {A : Type 0} → Refusal → Reply A
refusal_reply r = refused (number_of r.cause) r.place

-- the result, or number and place, for each case of a call's answer (docs/SCOPE.md 6.1)
abbrev pub reply_of : {A : Type 0} → Result A Refusal → Reply A
reply_of (Ok a) = result a
reply_of (Err r) = refusal_reply r

-- the reply under a fault, and under none
abbrev pub reply_under : {A : Type 0} → Fault → A → Reply A
reply_under none a = result a
reply_under (fault cause place) a = refused (number_of cause) place

-- a lent buffer at exit: what is new, then the remainder as it was; under a fault all as it was
abbrev pub buffer_under : {A : Type 0} → Fault → List A → List A → List A
buffer_under none new entry = new ++ drop (length new) entry
buffer_under (fault cause place) new entry = entry
