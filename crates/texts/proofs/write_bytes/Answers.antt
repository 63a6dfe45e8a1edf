-- `texts::write_bytes` meets its contract. Assumes nothing.
use mathlib.Core.Path.{◌≡◌, refl, ◌∙◌, ap}
use native.Mathlib.Omega.{arith}
use lib.ListN.{length, set, get_or, length-set}
use lib.Seq.{take_all}
use Rattle.integers.proofs.Parts.{over_more}
use Rattle.texts.proofs.write_bytes.Goals as goal

pub loop-i-preserved : goal.loop-i-preserved
loop-i-preserved c =
    let l = c.loop-i in
    let a = c.args in (
      length-set l.out l.i _ ∙ l.invariant.0,
      ap (λ xs. set xs l.i (get_or a.bytes.now l.i 0)) l.invariant.1 ∙ over_more a.out.now a.bytes.now l.i 0 (omega arith) (omega arith),
    )

pub returns : goal.returns
returns c =
    let l = c.loop-i in
    let a = c.args in
    let e : l.i ≡ length a.bytes.now = omega arith in
    record { counted = refl; bytes = l.invariant.1 ∙ rw (e, take_all (length a.bytes.now) a.bytes.now (omega arith)) }
