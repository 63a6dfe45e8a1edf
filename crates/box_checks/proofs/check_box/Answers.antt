-- `box_checks::check_box` meets its contract: at each return the tests on the way decide `box_fault`. Assumes nothing.
use mathlib.Core.Path.{◌≡◌, sym, ◌∙◌}
use mathlib.Core.Bool.{Bool, true, false, ◌||◌}
use Prim.Native.Nat.{ℕ}
use native.Mathlib.Omega.{arith}
use Rattle.rounds.specs.Refusals.{box_fault}
use Rattle.std.proofs.lemmas.Bool.{or_parts}
use Rattle.box_checks.proofs.check_box.Goals as goal

-- one of two, and not the first
second : (a b : Bool) → (a || b) ≡ true → a ≡ false → b ≡ true
second true b h e = absurd (cc)
second false b h e = h

pub returns-then-not-beyond-reversed : goal.returns-then-not-beyond-reversed
unfolding box_fault
returns-then-not-beyond-reversed c =
    let x = c.has_edge_beyond-beyond in
    let y = c.is_reversed-reversed in
    let o = or_parts x.result y.result c.if-not-beyond-reversed.true in
    simp (sym x.ensures ∙ o.0, sym y.ensures ∙ o.1)

pub returns-then-beyond : goal.returns-then-beyond
unfolding box_fault
returns-then-beyond c = simp (sym c.has_edge_beyond-beyond.ensures ∙ c.if-beyond.true)

pub returns : goal.returns
unfolding box_fault
returns c =
    let x = c.has_edge_beyond-beyond in
    let y = c.is_reversed-reversed in
    simp (sym x.ensures ∙ c.if-beyond.false, sym y.ensures ∙ second x.result y.result c.if-not-beyond-reversed.false c.if-beyond.false)
