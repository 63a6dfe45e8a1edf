-- `bounds::is_beyond` meets its contract. Assumes nothing.
use mathlib.Core.Path.{sym, ◌∙◌}
use lib.IntN.{pos, negsuc}
use Rattle.integers.proofs.Tests.{lit, ltz}
use Rattle.rounds.specs.Refusals.{beyond}
use Rattle.bounds.proofs.is_beyond.Goals as goal

pub returns-then-x : goal.returns-then-x
unfolding beyond
returns-then-x c = rw (sym (ltz c.ranges.x (lit (negsuc 15999) tt)) ∙ c.if-x.true) c.if-x.true

pub returns-else-x : goal.returns-else-x
unfolding beyond
returns-else-x c = rw (sym (ltz c.ranges.x (lit (negsuc 15999) tt)) ∙ c.if-x.false) (ltz (lit (pos 16000) tt) c.ranges.x)
