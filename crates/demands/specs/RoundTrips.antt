-- The second demand, of files: a round written is read back the same, and a well-formed file without notes, read and written, has the same bytes. Definitions only.
use Rattle.std.specs.Prelude.{Result, Ok, ◌≡◌, List, ◌++◌, ℕ, ◌*◌, ◌/◌, ◌≤◌, ℤ, length, take, drop}
use Rattle.formats.specs.Content.{content_of}
use Rattle.formats.specs.Promises.{RoundRead, RoundWritten}
use Rattle.formats.specs.declared.Counts.{Counts}
use Rattle.rounds.specs.declared.Refusal.{Refusal}
use Rattle.formats.specs.Format.{AllBytes}

-- a read that gives boxes and plugs back, before what the buffers held
pub record ReadBack (boxes plugs boxesEntry plugsEntry : List ℤ) (reading : Result Counts Refusal) (boxesExit plugsExit : List ℤ) : Type 0 where
  pub reply : reading ≡ Ok (record { boxes = length boxes / 4; plugs = length plugs / 2 })
  pub same_boxes : boxesExit ≡ boxes ++ drop (length boxes) boxesEntry
  pub same_plugs : plugsExit ≡ plugs ++ drop (length plugs) plugsEntry

-- a write that gives a file back, before what the buffer held
pub record WrittenBack (file entry : List ℕ) (n : ℕ) (exit : List ℕ) : Type 0 where
  pub count : n ≡ length file
  pub same_bytes : exit ≡ file ++ drop (length file) entry

-- both round trips, of files::write_round and files::read_round. A list in a promise has any numbers: that those of a file are bytes is a premise of the second
pub record RoundTrips : Type 0 where
  pub written_read : (boxes plugs : List ℤ) (entry exit : List ℕ) (n : ℕ) (boxesEntry plugsEntry boxesExit plugsExit : List ℤ) (reading : Result Counts Refusal)
      → RoundWritten boxes plugs entry (Ok n) exit → RoundRead (take n exit) boxesEntry plugsEntry reading boxesExit plugsExit
      → length boxes ≤ length boxesEntry → length plugs ≤ length plugsEntry
      → ReadBack boxes plugs boxesEntry plugsEntry reading boxesExit plugsExit
  pub read_written : (file : List ℕ) (boxesEntry plugsEntry boxesExit plugsExit : List ℤ) (counts : Counts) (entry exit : List ℕ) (n : ℕ)
      → AllBytes file → (content_of file).notes ≡ 0
      → RoundRead file boxesEntry plugsEntry (Ok counts) boxesExit plugsExit
      → RoundWritten (take (4 * counts.boxes) boxesExit) (take (2 * counts.plugs) plugsExit) entry (Ok n) exit
      → WrittenBack file entry n exit
