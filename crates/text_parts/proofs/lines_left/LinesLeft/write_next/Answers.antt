-- `LinesLeft::write_next` meets its contract: the plugs that are read are the next, and their lines are written (proofs/Pieces.antt). Assumes nothing.
use Rattle.text_parts.proofs.Pieces.{piece_lines}
use Rattle.text_parts.proofs.lines_left.LinesLeft.write_next.Goals as goal

pub returns : goal.returns
returns c = piece_lines c.args.self c.min-count.ensures c.read_plugs-next.ensures c.write_lines-bytes.ensures c.of_plugs.ensures
