-- `sure_boxes::find_sure_box` meets its contract: a plug at each corner that is tried is inside. Assumes nothing.
use Rattle.std.proofs.Common.{Ok, rules}
use Rattle.std.proofs.lemmas.Iterator.{cases_from_all, YieldsList-from_slice}
use Rattle.rounds.specs.Boxes.{corner_of}
use Rattle.rounds.specs.declared.Corner.{Corner}
use Rattle.rounds.specs.declared.Word.TheVariants.{Inside}
use Rattle.plug_words.specs.Plugs.{WordBy}
use Rattle.words.proofs.Tried.{all, each}
use Rattle.sure_boxes.proofs.Sureness.{sure}
use Rattle.sure_boxes.proofs.find_sure_box.Goals as goal

pub returns-then-inside : goal.returns-then-inside
returns-then-inside c =
    let Yes : Corner → Type 0 = λ k. WordBy c.args.polygons.vertices.now c.args.polygons.counts (corner_of k c.between-b.result) (Ok Inside) in
    sure _ _ c.between-b.result
    (each Yes (rw c.if-inside.true at (cases_from_all _ _ _ Yes (λ k. Unit {0}) c.all-inside.ensures.ran (YieldsList-from_slice all c.iter.ensures.rest) (λ x q k. search rules) (λ x q k. tt))))
