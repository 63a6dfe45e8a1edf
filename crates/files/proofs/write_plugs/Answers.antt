-- `files::write_plugs` meets its contract. The invariant: the plugs before k are written, and the rest are those from k on. Assumes nothing.
use mathlib.Core.Path.{◌≡◌, ◌∙◌, ap}
use Prim.Native.Nat.{◌+◌, ◌*◌}
use native.Mathlib.Omega.{arith}
use Rattle.formats.specs.Format.{plug_length, plug_record}
use Rattle.file_records.specs.Records.{over}
use Rattle.file_records.proofs.Over.{sofar_none, sofar_all}
use Rattle.file_records.proofs.Writer.{no_plug, plug_encoding, row_turn}
use Rattle.files.proofs.write_plugs.Goals as goal

pub loop-k-init : goal.loop-k-init
loop-k-init c =
    let a = c.args in
    let e : a.at ≡ a.at + 0 = omega arith in
    rw (← e) (sofar_none a.file.now a.at _ (omega arith))

pub loop-k-preserved : goal.loop-k-preserved
loop-k-preserved c =
    let written = c.write_plug.ensures ∙ ap (λ p. over c.loop-k.file (c.args.at + c.loop-k.k * plug_length) (plug_record p)) c.plug_at.ensures in
    row_turn plug_encoding c.args.plugs.now c.loop-k.k c.loop-k.invariant (omega arith) (omega arith) (omega arith) written

pub returns : goal.returns
returns c = sofar_all c.loop-k.invariant (no_plug c.args.plugs.now (c.loop-k.k * 2) (omega arith))
