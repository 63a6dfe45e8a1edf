-- Verdicts and words as numbers: what each case is given as, and what a struct means. Definitions only.
use Rattle.std.specs.Prelude.{Result, Ok, Err, cond, ℕ, eqb, pos}
use Rattle.rounds.specs.declared.Corner.{Corner}
use Rattle.rounds.specs.declared.Corner.TheVariants.{SouthWest, SouthEast, NorthEast, NorthWest}
use Rattle.rounds.specs.declared.Entry.{Entry}
use Rattle.rounds.specs.declared.Reasons.{Reasons}
use Rattle.verdicts.specs.declared.Verdict.{Verdict}
use Rattle.verdicts.specs.declared.Verdict.TheVariants as Verdict'
use Rattle.rounds.specs.declared.Word.{Word}
use Rattle.rounds.specs.declared.Word.TheVariants.{Inside, Outside, Undecided}
use Rattle.rounds.specs.declared.Refusal.{Refusal}
use Rattle.rounds.specs.Refusals.{number_of}
use Rattle.c_answers.specs.Answers.{unless_refused}
use Rattle.c_verdicts.specs.declared.EntryAnswer.{EntryAnswer}
use Rattle.c_verdicts.specs.declared.VerdictAnswer.{VerdictAnswer}
use Rattle.c_verdicts.specs.declared.WordAnswer.{WordAnswer}

-- the number of a corner's name: SW 0, SE 1, NE 2, NW 3
abbrev pub corner_number : Corner → ℕ
corner_number SouthWest = 0
corner_number SouthEast = 1
corner_number NorthEast = 2
corner_number NorthWest = 3

-- the corner's name of a number
abbrev pub corner_meant : ℕ → Corner
corner_meant n = cond (eqb n 0) SouthWest (cond (eqb n 1) SouthEast (cond (eqb n 2) NorthEast NorthWest))

-- one of three by a word's number: inside 1, outside 2, undecided 3
abbrev pub by_word : {A : Type 0} → ℕ → A → A → A → A
by_word word inside outside undecided = cond (eqb word 1) inside (cond (eqb word 2) outside undecided)

-- the number of a word
abbrev pub word_number : Word → ℕ
word_number Inside = 1
word_number Outside = 2
word_number Undecided = 3

-- the struct for each case of the reply of a word's call
abbrev pub word_struct : Result Word Refusal → WordAnswer
word_struct (Ok word) = record { refused = 0; place = 0; word = word_number word }
word_struct (Err r) = record { refused = number_of r.cause; place = r.place; word = 0 }

-- the reply that a struct means
abbrev pub word_meant : WordAnswer → Result Word Refusal
word_meant a = unless_refused a.refused a.place (by_word a.word Inside Outside Undecided)

-- an entry's struct, and the entry that a struct means
abbrev pub entry_struct : Entry → EntryAnswer
entry_struct e = record { number = e.number; corner = corner_number e.corner; weight = e.weight }

abbrev pub entry_meant : EntryAnswer → Entry
entry_meant a = record { number = a.number; corner = corner_meant a.corner; weight = a.weight }

-- no entry
abbrev pub no_entry : EntryAnswer
no_entry = record { number = 0; corner = 0; weight = 0 }

-- a verdict without reasons
abbrev pub plain_struct : ℕ → ℕ → ℕ → VerdictAnswer
plain_struct refused place word =
    record {
      refused = refused;
      place = place;
      word = word;
      corner = 0;
      east = pos 0;
      north = pos 0;
      first = no_entry;
      second = no_entry;
      third = no_entry;
    }

-- undecided, with its reasons
abbrev pub reasoned_struct : Reasons → VerdictAnswer
reasoned_struct r =
    record {
      refused = 0;
      place = 0;
      word = 3;
      corner = corner_number r.direction.corner;
      east = r.direction.east;
      north = r.direction.north;
      first = entry_struct r.first;
      second = entry_struct r.second;
      third = entry_struct r.third;
    }

-- the reasons that a struct means
abbrev pub reasons_meant : VerdictAnswer → Reasons
reasons_meant a =
    record {
      direction = record { corner = corner_meant a.corner; east = a.east; north = a.north };
      first = entry_meant a.first;
      second = entry_meant a.second;
      third = entry_meant a.third;
    }

-- the struct for each case of a verdict
abbrev pub verdict_struct : Result Verdict Refusal → VerdictAnswer
verdict_struct (Ok Verdict'.Inside) = plain_struct 0 0 1
verdict_struct (Ok Verdict'.Outside) = plain_struct 0 0 2
verdict_struct (Ok (Verdict'.Undecided r)) = reasoned_struct r
verdict_struct (Err r) = plain_struct (number_of r.cause) r.place 0

-- the verdict that a struct means
abbrev pub verdict_meant : VerdictAnswer → Result Verdict Refusal
verdict_meant a = unless_refused a.refused a.place (by_word a.word Verdict'.Inside Verdict'.Outside (Verdict'.Undecided (reasons_meant a)))
