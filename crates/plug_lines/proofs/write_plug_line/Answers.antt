-- `plug_lines::write_plug_line` meets its contract: the word stands behind the number. Assumes nothing.
use native.Mathlib.Omega.{arith}
use Rattle.texts.specs.Text.{plug_line}
use Rattle.texts.proofs.Writing.{then_wrote}
use Rattle.plug_lines.proofs.write_plug_line.Goals as goal

pub returns : goal.returns
unfolding plug_line
returns c =
    record {
      reply = c.word_of.result;
      word = c.word_of.ensures;
      wrote = then_wrote c.write_decimal-n.ensures (omega (arith, c.requires)) c.write_reply.ensures;
    }
