-- `file_records::write_record` meets its contract. The invariant: the mark and the first k numbers are written, and the rest are those from k on.
-- Assumes nothing.
use mathlib.Core.List.{◌++◌, flat_map}
use Prim.Native.Nat.{◌+◌, ◌*◌}
use lib.ListN.{drop}
use Rattle.formats.specs.Format.{mark_length, mark_bytes, number_bytes}
use Rattle.file_records.proofs.Over.{Sofar}
use Rattle.file_records.proofs.write_record.Given as goal

abbrev pub invariant-loop-k : goal.invariant-loop-k
invariant-loop-k l =
    Sofar l.fn.file l.at (mark_bytes l.mark ++ flat_map number_bytes l.numbers) (flat_map number_bytes (drop l.k l.numbers)) (l.at + mark_length + 4 * l.k) l.file
