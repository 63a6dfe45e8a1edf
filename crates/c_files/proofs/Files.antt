-- The structs of the reader and the writer mean the answers that they are given for. Assumes nothing.
use Rattle.std.specs.Prelude.{Result, Ok, Err, ℕ, ◌≡◌, refl}
use Rattle.formats.specs.declared.Counts.{Counts}
use Rattle.rounds.specs.declared.Refusal.{Refusal}
use Rattle.c_files.specs.Files.{read_struct, read_meant, write_struct, write_meant}
use Rattle.c_answers.proofs.Answering.{refused_back}

pub read_back : (reading : Result Counts Refusal) → read_meant (read_struct reading) ≡ reading
read_back (Ok counts) = refl
read_back (Err r) = refused_back r _

pub write_back : (writing : Result ℕ Refusal) → write_meant (write_struct writing) ≡ writing
write_back (Ok bytes) = refl
write_back (Err r) = refused_back r _
