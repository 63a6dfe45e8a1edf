-- `words::word_in` meets its contract: each answer for the outer polygon gives its word (proofs/Deciding.antt). Assumes nothing.
use Rattle.words.proofs.Deciding.{word_outside, word_on_line, placed}
use Rattle.words.proofs.word_in.Goals as goal

pub returns-in-Off : goal.returns-in-Off
returns-in-Off c = word_outside _ _ _ (placed c.outer.ensures c.in-Off.is c.place_of.ensures)

pub returns-in-OnLine : goal.returns-in-OnLine
returns-in-OnLine c = word_on_line _ _ _ (placed c.outer.ensures c.in-OnLine.is c.place_of.ensures)
