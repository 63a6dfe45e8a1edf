-- The reader's and the writer's answers as numbers: what each case is given as, and what a struct means. Definitions only.
use Rattle.std.specs.Prelude.{Result, Ok, Err, ℕ}
use Rattle.formats.specs.declared.Counts.{Counts}
use Rattle.rounds.specs.declared.Refusal.{Refusal}
use Rattle.rounds.specs.Refusals.{number_of}
use Rattle.c_answers.specs.Answers.{unless_refused}
use Rattle.c_files.specs.declared.ReadAnswer.{ReadAnswer}
use Rattle.c_files.specs.declared.WriteAnswer.{WriteAnswer}

-- the struct for each case of the reader's answer
abbrev pub read_struct : Result Counts Refusal → ReadAnswer
read_struct (Ok counts) = record { refused = 0; place = 0; boxes = counts.boxes; plugs = counts.plugs }
read_struct (Err r) = record { refused = number_of r.cause; place = r.place; boxes = 0; plugs = 0 }

-- the reader's answer that a struct means
abbrev pub read_meant : ReadAnswer → Result Counts Refusal
read_meant a = unless_refused a.refused a.place (record { boxes = a.boxes; plugs = a.plugs })

-- the struct for each case of the writer's answer
abbrev pub write_struct : Result ℕ Refusal → WriteAnswer
write_struct (Ok bytes) = record { refused = 0; place = 0; bytes = bytes }
write_struct (Err r) = record { refused = number_of r.cause; place = r.place; bytes = 0 }

-- the writer's answer that a struct means
abbrev pub write_meant : WriteAnswer → Result ℕ Refusal
write_meant a = unless_refused a.refused a.place a.bytes
