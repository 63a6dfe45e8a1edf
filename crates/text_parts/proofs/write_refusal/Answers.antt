-- `text_parts::write_refusal` meets its contract: no number has more than twenty digits. Assumes nothing.
use mathlib.Core.Path.{ap}
use native.Mathlib.Omega.{arith}
use Rattle.texts.specs.Text.{refused_line}
use Rattle.texts.proofs.Decimals.{twenty_digits}
use Rattle.texts.proofs.Writing.{wrote_as}
use Rattle.text_parts.proofs.write_refusal.Goals as goal

pub write_fields-requires : goal.write_fields-requires
write_fields-requires c =
    let n = c.from-number in
    omega (arith, c.requires, twenty_digits n.result (omega (arith, n.type_inv)), twenty_digits c.args.refusal.place (omega (arith, c.well_formed)))

pub returns : goal.returns
unfolding refused_line
returns c =
    wrote_as (ap (λ n. refused_line n c.args.refusal.place) c.from-number.ensures) c.write_fields.ensures
