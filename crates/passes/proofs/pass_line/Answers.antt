-- `passes::pass_line` meets its contract. The invariant: the corners from place k to place i leave the line as it is. Assumes nothing.
use mir.Syntax.{w64}
use mathlib.Core.Path.{◌≡◌, sym, ◌∙◌, subst}
use Prim.Native.Nat.{◌<◌}
use native.Mathlib.Omega.{arith}
use borrow.Author.Rules.{rules}
use lib.IntN.{pos}
use lib.ListN.{length}
use Rattle.integers.proofs.Tests.{lit, ok, eqz}
use Rattle.plane.specs.Members.{none, ◌&◌}
use Rattle.turns.specs.Keys.{point_of}
use Rattle.turns.proofs.Order.{point_injective}
use Rattle.rounds.specs.Boxes.{boxes_of}
use Rattle.rounds.proofs.Rows.{boxes_length}
use Rattle.passes.specs.declared.CornerSet.TheVariants.{One}
use Rattle.passes.proofs.Passing.{corner_of_nth, OnLineApart}
use Rattle.passes.proofs.Keeping.{Stay, stay_none, stay_line, keeps_each, passes_each}
use Rattle.cones.specs.declared.CornerKey.{CornerKey}
use Rattle.cones.specs.declared.Cone.TheVariants.{Line}
use Rattle.passes.proofs.pass_line.Goals as goal

pub loop-i-init : goal.loop-i-init
loop-i-init c b = stay_none _ _ _ _ c.args.k (omega (arith, boxes_length c.args.boxes.numbers.now))

pub loop-i-preserved : goal.loop-i-preserved
loop-i-preserved c b =
    let i = c.loop-i.i in
    let bs = boxes_of c.args.boxes.numbers.now in
    let n : i < length bs = omega (arith, boxes_length c.args.boxes.numbers.now) in
    stay_line c.args.plug (One c.args.corner) bs c.args.a b c.args.k i n c.args.boxes.accepted.in_span
    (subst (OnLineApart (point_of c.args.plug) c.args.a) (c.corner_key-v.ensures.is ∙ corner_of_nth c.args.corner bs i n) (
      sym c.signed_area.ensures.value ∙ eqz {w = w64} (ok _ c.signed_area.type_inv) (lit (pos 0) tt) c.if-signed_area-ne0.false,
      λ e. let n : c.corner_key-v.result ≡ c.args.plug = point_injective _ _ e in search rules,
    )
    & none)
    (c.loop-i.invariant b)

pub returns : goal.returns
returns c =
    let e : c.loop-i.i ≡ c.len.result = omega arith in
    let s = λ (b : CornerKey). subst (Stay c.args.plug (Line c.args.a b) (One c.args.corner) (boxes_of c.args.boxes.numbers.now) c.args.k) e (c.loop-i.invariant b) in
    record { keeps = keeps_each s; passes = passes_each s }
