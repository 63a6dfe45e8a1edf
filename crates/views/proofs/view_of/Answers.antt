-- `views::view_of` meets its contract: the pass starts with no point seen. Assumes nothing.
use mathlib.Core.Path.{sym, subst}
use Rattle.turns.specs.Keys.{point_of}
use Rattle.rounds.specs.Boxes.{boxes_of}
use Rattle.views.specs.Views.{CornerViewSays}
use Rattle.views.proofs.Viewing.{view_says}
use Rattle.views.proofs.view_of.Goals as goal

pub returns : goal.returns
returns c =
    let bs = boxes_of c.args.boxes.numbers.now in
    let e = c.look_over.ensures.exact in
    record { exact = e; says = subst (CornerViewSays bs c.args.corner (point_of c.args.plug)) (sym e) (view_says c.args.plug bs c.args.boxes.accepted.in_span c.args.corner) }
