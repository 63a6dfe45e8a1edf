-- `checks::check_plug` meets its contract: both tests, joined, decide `plug_fault`. Assumes nothing.
use mathlib.Core.Path.{◌≡◌, sym, ◌∙◌, ap₂}
use mathlib.Core.Bool.{◌||◌}
use borrow.Author.Rules.{rules}
use Rattle.rounds.specs.Refusals.{beyond, plug_fault}
use Rattle.checks.proofs.check_plug.Goals as goal
use Rattle.checks.proofs.check_plug.Goals.{After-is_beyond-2}

-- what both calls say
joined : (c : After-is_beyond-2) → (c.is_beyond.result || c.is_beyond-2.result) ≡ (beyond c.args.plug.east || beyond c.args.plug.north)
joined c =
    let e : c.is_beyond.result ≡ beyond c.args.plug.east = c.is_beyond.ensures ∙ search rules in
    let n : c.is_beyond-2.result ≡ beyond c.args.plug.north = c.is_beyond-2.ensures ∙ search rules in
    ap₂ ◌||◌ e n

pub returns-then-is_beyond : goal.returns-then-is_beyond
unfolding plug_fault
returns-then-is_beyond c = rw (sym (joined c.before) ∙ c.if-is_beyond.true)

pub returns : goal.returns
unfolding plug_fault
returns c = rw (sym (joined c.before) ∙ c.if-is_beyond.false)
