-- `quarters::sort_outside` meets its contract. Assumes nothing.
use mathlib.Core.Path.{◌∙◌}
use native.Mathlib.Omega.{arith}
use lib.Seq.{length-take-le}
use Rattle.halves.proofs.Reordering.{sorted_first}
use Rattle.quarters.proofs.Keeping.{sorted_quarter}
use Rattle.quarters.proofs.sort_outside.Goals as goal

pub returns : goal.returns
returns c =
    let x = c.keep_outside-count in
    sorted_quarter x.new.out _ x.ensures
    (sorted_first x.new.out c.sort_keys.new.keys _ x.result (omega (arith, x.ensures.few, c.requires.0))
    (c.sort_keys.auto.keys ∙ length-take-le x.result x.new.out (omega (arith, x.ensures.few, c.requires.0))) c.sort_keys.ensures)
