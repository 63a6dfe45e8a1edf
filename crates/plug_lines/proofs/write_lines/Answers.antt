-- `plug_lines::write_lines` meets its contract. The invariant: the first k lines are written (proofs/Lines.antt). Assumes nothing.
use mathlib.Core.Path.{subst}
use Prim.Native.Nat.{◌+◌, ◌-◌, ◌*◌}
use native.Mathlib.Omega.{arith}
use lib.ListN.{length, take, drop}
use Rattle.plane.specs.declared.Point.{Point}
use Rattle.rounds.specs.Boxes.{plug_at}
use Rattle.plug_lines.specs.Steps.{LineBy}
use Rattle.texts.proofs.Writing.{wrote_as}
use Rattle.plug_lines.proofs.Lines.{sofar_none, sofar_part, sofar_more, sofar_all}
use Rattle.plug_lines.proofs.write_lines.Goals as goal

pub loop-k-init : goal.loop-k-init
loop-k-init c = sofar_none _ _ _ _ _ c.requires

pub write_plug_line-done-requires : goal.write_plug_line-done-requires
write_plug_line-done-requires c = sofar_part _ _ _ _ _ c.requires c.loop-k.invariant c.loop-k-test.true

pub loop-k-preserved : goal.loop-k-preserved
loop-k-preserved c =
    let Line : Point → Type 0 = λ p.
    let a = c.args in
    let l = c.loop-k in
    LineBy a.shapes.polygons.vertices.now a.shapes.polygons.counts (a.before + l.k + 1) p (take (length l.out - l.done) (drop l.done l.out)) c.write_plug_line-done.result c.write_plug_line-done.new.out in
    let line : Line (plug_at c.args.plugs.now (c.loop-k.k * 2)) = subst Line c.plug_at.ensures c.write_plug_line-done.ensures in
    sofar_more _ _ _ _ _ c.requires c.loop-k.invariant c.loop-k-test.true line.word line.wrote

pub returns : goal.returns
returns c =
    record { says = λ bs os f. wrote_as (sofar_all _ _ _ _ _ c.requires c.loop-k.invariant (omega (arith, c.loop-k-test.false)) bs os f) c.loop-k.invariant.wrote }
