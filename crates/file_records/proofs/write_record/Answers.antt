-- `file_records::write_record` meets its contract. The invariant: the mark and the first k numbers are written, and the rest are those from k on.
-- Assumes nothing.
use mathlib.Core.Path.{ap}
use mathlib.Core.List.{flat_map}
use Prim.Native.Nat.{◌+◌}
use native.Mathlib.Omega.{arith}
use lib.ListN.{drop_of_length-le}
use Rattle.integers.proofs.Tests.{elem}
use Rattle.formats.specs.Format.{number_bytes}
use Rattle.file_records.proofs.Over.{sofar_all}
use Rattle.file_records.proofs.Writer.{mark_written, number_written}
use Rattle.file_records.proofs.write_record.Goals as goal

pub loop-k-init : goal.loop-k-init
loop-k-init c = mark_written c.args.file.now c.args.at c.args.mark c.args.numbers.now (omega arith) c.write_mark.ensures

pub loop-k-preserved : goal.loop-k-preserved
loop-k-preserved c =
    let numbers = c.args.numbers.now in
    number_written (c.args.at + 2) c.loop-k.k numbers c.loop-k.invariant c.loop-k-test.true c.requires (elem numbers c.loop-k.k c.write_number-arg-1.given) c.write_number.ensures

pub returns : goal.returns
unfolding flat_map
returns c = sofar_all c.loop-k.invariant (ap (flat_map number_bytes) (drop_of_length-le c.args.numbers.now c.loop-k-test.false))
