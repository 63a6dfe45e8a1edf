-- `LinesLeft::of_plugs` meets its contract: no plug has no line. Assumes nothing.
use Rattle.text_parts.proofs.Pieces.{none_from}
use Rattle.text_parts.proofs.lines_left.LinesLeft.of_plugs.Goals as goal

pub returns-then-count-eq0 : goal.returns-then-count-eq0
returns-then-count-eq0 c = none_from c.requires c.if-count-eq0.true
