-- `files::write_plugs` meets its contract. The invariant: the plugs before k are written, and the rest are those from k on. Assumes nothing.
use mathlib.Core.List.{flat_map}
use Prim.Native.Nat.{◌+◌, ◌*◌}
use Rattle.rounds.specs.Boxes.{plugs_of}
use Rattle.formats.specs.Format.{plug_length, plug_record}
use Rattle.file_records.proofs.Over.{Sofar}
use Rattle.file_records.proofs.Writer.{plug_records}
use Rattle.files.proofs.write_plugs.Given as goal

abbrev pub invariant-loop-k : goal.invariant-loop-k
invariant-loop-k l =
    Sofar l.initial.file l.at (flat_map plug_record (plugs_of l.plugs)) (plug_records l.plugs (l.k * 2)) (l.at + l.k * plug_length) l.file
