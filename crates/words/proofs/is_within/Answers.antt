-- `words::is_within` meets its contract: each answer for the polygon gives its own (proofs/Deciding.antt). Assumes nothing.
use Rattle.words.proofs.Deciding.{not_within}
use Rattle.words.proofs.is_within.Goals as goal

pub returns-in_default : goal.returns-in_default
returns-in_default c = not_within _ c.in_default.not-Within c.place_of.ensures
