-- `text_parts::write_counts` meets its contract: each number has up to four digits. Assumes nothing.
use native.Mathlib.Omega.{arith}
use Rattle.texts.specs.Text.{count_line}
use Rattle.texts.proofs.Decimals.{few_digits}
use Rattle.text_parts.proofs.write_counts.Goals as goal

pub write_fields-requires : goal.write_fields-requires
write_fields-requires c =
    omega (arith, c.requires.2, few_digits 3 c.args.boxes (omega (arith, c.requires.0)), few_digits 3 c.args.plugs (omega (arith, c.requires.1)))

pub returns : goal.returns
unfolding count_line
returns c = c.write_fields.ensures
