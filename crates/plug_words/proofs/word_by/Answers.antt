-- `plug_words::word_by` meets its contract: the plug's refusal, or its word against the polygons (proofs/Answers.antt). Assumes nothing.
use mathlib.Core.Path.{sym}
use Rattle.rounds.proofs.Accepted.{plug_accepted}
use Rattle.plug_words.proofs.word_by.Goals as goal

pub new-requires : goal.new-requires
new-requires c = plug_accepted 1 c.args.plug (sym c.in_ok-check_plug.ensures)
