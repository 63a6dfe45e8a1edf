-- `checks::check_plugs` meets its contract: the fault is that of the plugs from k on. Assumes nothing.
use mathlib.Core.Path.{◌≡◌, sym, ◌∙◌, ap}
use mathlib.Core.List.{List}
use Prim.Native.Nat.{ℕ, ◌+◌, ◌*◌, ◌/◌, ◌<◌}
use native.Mathlib.Omega.{arith}
use borrow.Author.Tests.{eq-eqb, ne_eqb}
use lib.IntN.{ℤ}
use lib.ListN.{length, drop}
use Rattle.rounds.specs.Boxes.{plugs_of, plug_at}
use Rattle.rounds.specs.Refusals.{Fault, ◌or_else◌, each_plug_fault, plug_fault, plug_list_fault}
use Rattle.rounds.proofs.Exits.{passed_fault}
use Rattle.rounds.proofs.Rows.{plug_step, plug_none}
use Rattle.checks.proofs.check_plugs.Goals as goal

-- the list's fault is that of the plug at k, or that of the plugs after it
turn : (xs : List ℤ) (k : ℕ) {f : Fault} → k < length xs / 2 → plug_list_fault xs ≡ each_plug_fault (k + 1) (plugs_of (drop (k * 2) xs))
    → f ≡ plug_fault (k + 1) (plug_at xs (k * 2)) → plug_list_fault xs ≡ f or_else each_plug_fault (k + 1 + 1) (plugs_of (drop ((k + 1) * 2) xs))
turn xs k n h e = h ∙ plug_step xs (k + 1) (k * 2) ((k + 1) * 2) e (omega arith) (omega arith)

pub returns-then-length-ne0 : goal.returns-then-length-ne0
unfolding plug_list_fault
returns-then-length-ne0 c = simp (ne_eqb _ _ c.if-length-ne0.true)

pub loop-k-init : goal.loop-k-init
unfolding plug_list_fault
loop-k-init c = simp (eq-eqb _ _ c.if-length-ne0.false)

pub returns-in_err-check_plug : goal.returns-in_err-check_plug
returns-in_err-check_plug c =
    let e = c.in_err-check_plug.ensures ∙ ap (plug_fault (c.loop-k.k + 1)) c.plug_at.ensures in
    passed_fault c.from_residual.result c.from_residual.ensures.1 ∙ sym (turn c.args.plugs.now c.loop-k.k c.loop-k-test.true c.loop-k.invariant e)

pub loop-k-preserved : goal.loop-k-preserved
loop-k-preserved c =
    turn c.args.plugs.now c.loop-k.k c.loop-k-test.true c.loop-k.invariant (c.in_ok-check_plug.ensures ∙ ap (plug_fault (c.loop-k.k + 1)) c.plug_at.ensures)

pub returns : goal.returns
returns c = sym (c.loop-k.invariant ∙ plug_none _ _ (c.loop-k.k * 2) (omega arith))
