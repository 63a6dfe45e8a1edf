-- `outlines::append_two_outlines` meets its contract: the second polygon is written behind the first. Assumes nothing.
use Rattle.outlines.proofs.Rounds.{two}
use Rattle.outlines.proofs.append_two_outlines.Goals as goal

pub returns : goal.returns
returns c = two c.append_outline-one.ensures c.append_outline-other.ensures
