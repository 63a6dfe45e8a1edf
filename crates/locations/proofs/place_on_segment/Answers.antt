-- `locations::place_on_segment` meets its contract: what each test says of the area and of the dot product (proofs/Segments.antt). Assumes nothing.
use mathlib.Core.Path.{refl, sym, ◌∙◌}
use lib.IntN.{pos}
use mir.Syntax.{w32, w64}
use Rattle.integers.proofs.Machine.{lt_z_true, lt_z_false, lt_plain, le_plain}
use Rattle.integers.proofs.Tests.{lit, ok, eqz, nez}
use Rattle.turns.proofs.Bounds.{returned}
use Rattle.locations.proofs.Segments.{segment_beside, segment_beyond, segment_on}
use Rattle.locations.proofs.place_on_segment.Goals as goal

pub returns-then-signed_area-ne0 : goal.returns-then-signed_area-ne0
returns-then-signed_area-ne0 c =
    let x = c.signed_area in
    segment_beside _ _ _ (λ e. nez {w = w64} (ok x.result x.type_inv) (lit (pos 0) tt) c.if-signed_area-ne0.true (x.ensures.value ∙ e))

pub returns-then-dot_product-gt0 : goal.returns-then-dot_product-gt0
returns-then-dot_product-gt0 c =
    let x = c.signed_area in
    let y = c.dot_product in
    segment_beyond _ _ _ (sym x.ensures.value ∙ eqz {w = w64} (ok x.result x.type_inv) (lit (pos 0) tt) c.if-signed_area-ne0.false)
    (lt_plain refl (returned w32 y.type_inv y.ensures.value) (lt_z_true c.if-dot_product-gt0.true))

pub returns : goal.returns
returns c =
    let x = c.signed_area in
    let y = c.dot_product in
    segment_on _ _ _ (sym x.ensures.value ∙ eqz {w = w64} (ok x.result x.type_inv) (lit (pos 0) tt) c.if-signed_area-ne0.false)
    (le_plain (returned w32 y.type_inv y.ensures.value) refl (lt_z_false c.if-dot_product-gt0.false))
