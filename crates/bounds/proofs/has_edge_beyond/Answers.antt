-- `bounds::has_edge_beyond` meets its contract: the four tests, joined. Assumes nothing.
use mathlib.Core.Path.{◌≡◌, ◌∙◌, ap₂}
use mathlib.Core.Bool.{◌||◌}
use borrow.Author.Rules.{rules}
use Rattle.rounds.specs.Refusals.{beyond, edge_beyond}
use Rattle.bounds.proofs.has_edge_beyond.Goals as goal

pub returns : goal.returns
unfolding edge_beyond
returns c =
    let b = c.args.b in
    let w : c.is_beyond.result ≡ beyond b.west = c.is_beyond.ensures ∙ search rules in
    let s : c.is_beyond-2.result ≡ beyond b.south = c.is_beyond-2.ensures ∙ search rules in
    let e : c.is_beyond-3.result ≡ beyond b.east = c.is_beyond-3.ensures ∙ search rules in
    let n : c.is_beyond-4.result ≡ beyond b.north = c.is_beyond-4.ensures ∙ search rules in
    ap₂ ◌||◌ w (ap₂ ◌||◌ s (ap₂ ◌||◌ e n))
