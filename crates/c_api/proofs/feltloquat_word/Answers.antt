-- `c_api::feltloquat_word` meets its contract: it gives the word that `verdicts::word_on` promises. Assumes nothing.
use mathlib.Core.Path.{◌≡◌, ◌∙◌, ap}
use mir.Syntax.{w32}
use mir.ValLaws.{to_z-of_z}
use Rattle.plane.specs.Points.{point}
use Rattle.rounds.specs.Replies.{reply_of}
use Rattle.verdicts.specs.Verdicts.{verdict_on}
use Rattle.c_verdicts.specs.Verdicts.{word_struct, word_meant}
use Rattle.c_answers.proofs.Answering.{answered}
use Rattle.c_verdicts.proofs.Verdicts.{word_back}
use Rattle.c_api.proofs.feltloquat_word.Goals as goal

pub returns : goal.returns
returns c =
    let v = c.word_on.result in
    let h = rw (to_z-of_z w32 _ c.ranges.east, to_z-of_z w32 _ c.ranges.north) at c.word_on.ensures in (
      answered word_struct word_meant (λ word. reply_of word ≡ verdict_on c.args.boxes.now (point c.args.east c.args.north)) v c.from.result h.0 (word_back v) c.from.ensures,
      c.from.ensures ∙ ap word_struct h.1,
    )
