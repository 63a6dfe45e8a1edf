-- `file_records::note_at` meets its contract. A byte is below 256. Assumes nothing.
use Prim.Native.Nat.{◌+◌, ◌<◌}
use native.Mathlib.Omega.{arith}
use borrow.Author.Tests.{lt-ltb}
use lib.ListN.{length}
use Rattle.formats.specs.Format.{byte_at, next_at}
use Rattle.formats.specs.Content.{kind_fault}
use Rattle.file_records.proofs.note_at.Goals as goal

pub returns-then-file-body : goal.returns-then-file-body
unfolding kind_fault next_at
returns-then-file-body c =
    let a = c.args in
    let h : length a.file.now < a.at + 3 + byte_at a.file.now (a.at + 2) = omega arith in
    simp (lt-ltb _ _ h)

pub returns : goal.returns
unfolding kind_fault next_at
returns c = rw c.from.ensures at c.whole.ensures
