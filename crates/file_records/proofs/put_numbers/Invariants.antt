-- `file_records::put_numbers` meets its contract. The invariant: the first k numbers stand over the front of the buffer. Assumes nothing.
use Rattle.file_records.specs.Records.{numbers_at}
use Rattle.file_records.proofs.Over.{WroteAt}
use Rattle.file_records.proofs.put_numbers.Given as goal

abbrev pub invariant-loop-k : goal.invariant-loop-k
invariant-loop-k l = WroteAt l.initial.numbers 0 (numbers_at l.file l.from l.k) l.numbers
