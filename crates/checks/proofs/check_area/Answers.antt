-- `checks::check_area` meets its contract: the two checks in their order. Assumes nothing.
use mathlib.Core.Path.{◌≡◌, ◌∙◌, ap}
use Prim.Native.Nat.{ℕ, ◌*◌, ◌/◌}
use native.Mathlib.Omega.{arith}
use lib.ListN.{length}
use Rattle.rounds.specs.Refusals.{Fault, ◌or_else◌, buffer_fault, area_fault}
use Rattle.rounds.proofs.Exits.{passed_fault, in_turn}
use Rattle.checks.proofs.check_area.Goals as goal

-- the buffer's fault, of 8 numbers a box
of_buffer : (n given : ℕ) {f : Fault} → f ≡ buffer_fault (n * 8) given → f ≡ buffer_fault (8 * n) given
of_buffer n given e = let same : n * 8 ≡ 8 * n = omega arith in e ∙ ap (λ m. buffer_fault m given) same

pub returns-in_err-listed-clause-fault : goal.returns-in_err-listed-clause-fault
unfolding area_fault
returns-in_err-listed-clause-fault c =
    passed_fault c.from_residual.result c.from_residual.ensures.1
    ∙ ap (λ f. f or_else buffer_fault (8 * (length c.args.numbers.now / 4)) c.args.given) c.in_err-listed.ensures.fault

pub returns-in_err-check_buffer-clause-fault : goal.returns-in_err-check_buffer-clause-fault
unfolding area_fault
returns-in_err-check_buffer-clause-fault c =
    passed_fault c.from_residual-in_err-check_buffer.result c.from_residual-in_err-check_buffer.ensures.1
    ∙ in_turn c.in_ok-listed.ensures.fault (of_buffer (length c.args.numbers.now / 4) c.args.given c.in_err-check_buffer.ensures)

pub returns-clause-fault : goal.returns-clause-fault
unfolding area_fault
returns-clause-fault c = in_turn c.in_ok-listed.ensures.fault (of_buffer (length c.args.numbers.now / 4) c.args.given c.in_ok-check_buffer.ensures)
