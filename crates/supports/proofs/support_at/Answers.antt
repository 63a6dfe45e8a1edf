-- `supports::support_at` meets its contract: three corners round the plug answer as the cone would, or the cone does. Assumes nothing.
use mathlib.Core.Path.{◌∙◌, ap}
use Rattle.rounds.specs.Boxes.{boxes_of}
use Rattle.views.specs.declared.View.{View}
use Rattle.supports.specs.Supporting.{support_of_cone}
use Rattle.supports.proofs.Answering.{corner_surrounds}
use Rattle.supports.proofs.support_at.Goals as goal

pub returns-then-is_in_triangle : goal.returns-then-is_in_triangle
returns-then-is_in_triangle c =
    let s = c.is_in_triangle.ensures.surrounded c.if-is_in_triangle.true in
    record { exact = corner_surrounds c.args.plug c.args.corner (boxes_of c.args.boxes.numbers.now) s c.args.boxes.accepted.in_span; supports = s }

pub returns : goal.returns
returns c =
    record {
      exact = c.support_by.ensures.exact ∙ ap (λ (w : View). support_of_cone c.args.plug w.cone c.args.corner) c.view_of.ensures.exact;
      supports = c.support_by.ensures.supports.says (boxes_of c.args.boxes.numbers.now) c.view_of.ensures.says.of_cone;
    }
