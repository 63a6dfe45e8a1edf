-- `box_checks::check_boxes` meets its contract: the fault is that of the boxes from k on. Assumes nothing.
use mathlib.Core.Path.{◌≡◌, sym, ◌∙◌, ap}
use mathlib.Core.List.{List}
use Prim.Native.Nat.{ℕ, ◌+◌, ◌*◌, ◌/◌, ◌<◌}
use native.Mathlib.Omega.{arith}
use borrow.Author.Tests.{eq-eqb, ne_eqb, le-ltb, lt-ltb}
use lib.IntN.{ℤ}
use lib.ListN.{length, drop}
use Rattle.rounds.specs.Boxes.{boxes_of, box_at}
use Rattle.rounds.specs.Refusals.{Fault, ◌or_else◌, each_box_fault, box_fault, box_list_fault}
use Rattle.rounds.proofs.Accepted.{accepted}
use Rattle.rounds.proofs.Exits.{passed_fault}
use Rattle.rounds.proofs.Rows.{box_step, box_none}
use Rattle.box_checks.proofs.check_boxes.Goals as goal

-- the list's fault is that of the box at k, or that of the boxes after it
turn : (xs : List ℤ) (k : ℕ) {f : Fault} → k < length xs / 4 → box_list_fault xs ≡ each_box_fault (k + 1) (boxes_of (drop (k * 4) xs))
    → f ≡ box_fault (k + 1) (box_at xs (k * 4)) → box_list_fault xs ≡ f or_else each_box_fault (k + 1 + 1) (boxes_of (drop ((k + 1) * 4) xs))
turn xs k n h e = h ∙ box_step xs (k + 1) (k * 4) ((k + 1) * 4) e (omega arith) (omega arith)

pub returns-then-length-ne0-clause-fault : goal.returns-then-length-ne0-clause-fault
unfolding box_list_fault
returns-then-length-ne0-clause-fault c = simp (ne_eqb _ _ c.if-length-ne0.true)

pub returns-then-length-eq0-clause-fault : goal.returns-then-length-eq0-clause-fault
unfolding box_list_fault
returns-then-length-eq0-clause-fault c = simp (eq-eqb _ _ c.if-length-ne0.false, eq-eqb _ _ c.if-length-eq0.true)

pub returns-then-count-gt-MOST_BOXES-clause-fault : goal.returns-then-count-gt-MOST_BOXES-clause-fault
unfolding box_list_fault
returns-then-count-gt-MOST_BOXES-clause-fault c = simp (eq-eqb _ _ c.if-length-ne0.false, ne_eqb _ _ c.if-length-eq0.false, lt-ltb _ _ c.if-count-gt-MOST_BOXES.true)

pub loop-k-init : goal.loop-k-init
unfolding box_list_fault
loop-k-init c = simp (eq-eqb _ _ c.if-length-ne0.false, ne_eqb _ _ c.if-length-eq0.false, le-ltb _ _ c.if-count-gt-MOST_BOXES.false)

pub returns-in_err-check_box-clause-fault : goal.returns-in_err-check_box-clause-fault
returns-in_err-check_box-clause-fault c =
    let e = c.in_err-check_box.ensures ∙ ap (box_fault (c.loop-k.k + 1)) c.box_at.ensures in
    passed_fault c.from_residual.result c.from_residual.ensures.1 ∙ sym (turn c.args.numbers.now c.loop-k.k c.loop-k-test.true c.loop-k.invariant e)

pub loop-k-preserved : goal.loop-k-preserved
loop-k-preserved c = turn c.args.numbers.now c.loop-k.k c.loop-k-test.true c.loop-k.invariant (c.in_ok-check_box.ensures ∙ ap (box_fault (c.loop-k.k + 1)) c.box_at.ensures)

pub invariant_of-result : goal.invariant_of-result
invariant_of-result c = record { accepted = accepted _ (c.loop-k.invariant ∙ box_none _ _ (c.loop-k.k * 4) (omega arith)) }

pub returns-clause-fault : goal.returns-clause-fault
returns-clause-fault c = sym (c.loop-k.invariant ∙ box_none _ _ (c.loop-k.k * 4) (omega arith))
