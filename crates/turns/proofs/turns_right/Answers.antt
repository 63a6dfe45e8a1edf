-- `turns::turns_right` meets its contract: the signed area is read back as it is. Assumes nothing.
use mathlib.Core.Path.{◌∙◌, ap}
use lib.IntN.{ℤ, pos}
use lib.Signed.{lt_z}
use mir.Syntax.{w64}
use Rattle.integers.proofs.Tests.{lit, ok, ltz}
use Rattle.turns.proofs.turns_right.Goals as goal

pub returns : goal.returns
returns c =
    ltz {w = w64} (ok c.signed_area.result c.signed_area.type_inv) (lit (pos 0) tt) ∙ ap (λ (z : ℤ). lt_z z (pos 0)) c.signed_area.ensures.value
