-- `corners::corner_key` meets its contract: the coordinates are those of the corner. Assumes nothing.
use mathlib.Core.Path.{◌≡◌, sym, ◌∙◌, ap, subst}
use Rattle.plane.specs.Points.{InSpan}
use Rattle.turns.specs.Keys.{KeyOf}
use Rattle.rounds.specs.Boxes.{boxes_of, corner_of}
use Rattle.corners.specs.Corners.{nth_corner}
use Rattle.corners.proofs.Places.{nth_corner_lem, nth_in_span}
use Rattle.corners.proofs.corner_key.Goals as goal
use Rattle.corners.proofs.corner_key.Goals.{After-corner}

-- the point that `Key::new` is passed is the corner
is-corner : (c : After-corner) → c.corner.result ≡ nth_corner c.args.corner (boxes_of c.args.boxes.numbers.now) c.args.k
is-corner c = c.corner.ensures ∙ ap (corner_of c.args.corner) c.at.ensures ∙ nth_corner_lem c.args.corner c.args.boxes.numbers.now c.args.k c.requires

pub new-requires : goal.new-requires
new-requires c =
    subst InSpan (sym (is-corner c)) (nth_in_span c.args.corner c.args.boxes.numbers.now c.args.boxes.accepted c.args.k c.requires)

pub returns : goal.returns
returns c = subst (λ q. KeyOf q c.new.result) (is-corner c.before) c.new.ensures
