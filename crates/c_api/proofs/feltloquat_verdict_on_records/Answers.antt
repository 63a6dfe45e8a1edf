-- `c_api::feltloquat_verdict_on_records` meets its contract: it gives the verdict that `records::verdict_on` promises. Assumes nothing.
use mathlib.Core.Path.{◌∙◌, ap}
use mir.Syntax.{w32}
use mir.ValLaws.{to_z-of_z}
use Rattle.plane.specs.Points.{point}
use Rattle.verdicts.specs.Verdicts.{VerdictIs}
use Rattle.records.specs.Records.{edges_of}
use Rattle.c_verdicts.specs.Verdicts.{verdict_struct, verdict_meant}
use Rattle.c_answers.proofs.Answering.{answered}
use Rattle.c_verdicts.proofs.Verdicts.{verdict_back}
use Rattle.c_api.proofs.feltloquat_verdict_on_records.Goals as goal

pub returns : goal.returns
returns c =
    let v = c.verdict_on.result in
    let h = rw (to_z-of_z w32 _ c.ranges.east, to_z-of_z w32 _ c.ranges.north) at c.verdict_on.ensures in (
      answered verdict_struct verdict_meant (VerdictIs (edges_of c.args.boxes.now) (point c.args.east c.args.north)) v c.from.result h.0 (verdict_back v) c.from.ensures,
      c.from.ensures ∙ ap verdict_struct h.1,
    )
