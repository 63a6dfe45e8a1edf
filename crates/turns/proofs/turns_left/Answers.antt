-- `turns::turns_left` meets its contract: the signed area is read back as it is. Assumes nothing.
use mathlib.Core.Path.{◌∙◌, ap}
use lib.IntN.{ℤ, pos}
use lib.Signed.{lt_z}
use mir.Syntax.{w64}
use Rattle.integers.proofs.Tests.{lit, ok, ltz}
use Rattle.turns.proofs.turns_left.Goals as goal

pub returns : goal.returns
returns c =
    ltz {w = w64} (lit (pos 0) tt) (ok c.signed_area.result c.signed_area.type_inv) ∙ ap (λ (z : ℤ). lt_z (pos 0) z) c.signed_area.ensures.value
