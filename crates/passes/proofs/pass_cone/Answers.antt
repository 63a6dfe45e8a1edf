-- `passes::pass_cone` meets its contract: only a line and a wedge are passed on. Assumes nothing.
use mathlib.Core.Path.{◌≡◌, sym, subst}
use Prim.Native.Nat.{ℕ}
use mathlib.Core.List.{List}
use native.Mathlib.Omega.{arith}
use Rattle.rounds.specs.declared.Box.{Box}
use Rattle.rounds.proofs.Rows.{boxes_length}
use Rattle.cones.specs.declared.Cone.{Cone}
use Rattle.passes.specs.declared.CornerSet.{CornerSet}
use Rattle.passes.proofs.Keeping.{Stay, stay_none}
use Rattle.passes.proofs.pass_cone.Goals as goal

-- what is passed of a cone and of a set of corners, once both are known
known_both : {p k r : ℕ} {cone case : Cone} {set one : CornerSet} {bs : List Box} → cone ≡ case → set ≡ one → Stay p case one bs k r → Stay p cone set bs k r
known_both {p} {k} {r} {cone} {case} {set} {one} {bs} e f o = subst (λ x. Stay p x set bs k r) (sym e) (subst (λ x. Stay p case x bs k r) (sym f) o)

pub returns-in-Line-One : goal.returns-in-Line-One
returns-in-Line-One c =
    let e = c.pass_line.ensures in
    let s = known_both c.in-Line-One.is-0 c.in-Line-One.is-1 (record { keeps = e.keeps.keeps c.in-Line-One.field-1-0; passes = e.passes.passes c.in-Line-One.field-1-0 }) in
    record { keeps = s.keeps; passes = s.passes }

pub returns-in_default : goal.returns-in_default
returns-in_default c =
    let s = stay_none c.args.plug c.args.set _ c.args.cone.now c.args.k (omega (arith, c.requires, boxes_length c.args.boxes.numbers.now)) in
    record { keeps = s.keeps; passes = s.passes }

pub returns-in_default-2 : goal.returns-in_default-2
returns-in_default-2 c =
    let s = stay_none c.args.plug c.args.set _ c.args.cone.now c.args.k (omega (arith, c.requires, boxes_length c.args.boxes.numbers.now)) in
    record { keeps = s.keeps; passes = s.passes }
