-- `c_api::feltloquat_outer_polygon` meets its contract: it gives the reply that `areas::outer_polygon` promises. Assumes nothing.
use Rattle.c_areas.specs.Areas.{outer_struct, outer_meant}
use Rattle.c_answers.proofs.Answering.{answered}
use Rattle.c_areas.proofs.Areas.{outer_back}
use Rattle.c_api.proofs.feltloquat_outer_polygon.Goals as goal

pub returns : goal.returns
returns c =
    let a = c.outer_polygon.result in
    let h = c.outer_polygon.ensures in
    record {
      promise = answered outer_struct outer_meant _ a c.from.result h.promise (outer_back a) c.from.ensures;
      answered = answered outer_struct outer_meant _ a c.from.result h.answered (outer_back a) c.from.ensures;
    }
