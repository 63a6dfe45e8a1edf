-- `c_api::feltloquat_corner_polygons` meets its contract: it gives the reply that `areas::corner_polygons` promises. Assumes nothing.
use Rattle.c_areas.specs.Areas.{corners_struct, corners_meant}
use Rattle.c_answers.proofs.Answering.{answered}
use Rattle.c_areas.proofs.Areas.{corners_back}
use Rattle.c_api.proofs.feltloquat_corner_polygons.Goals as goal

pub returns : goal.returns
returns c =
    let a = c.corner_polygons.result in
    let h = c.corner_polygons.ensures in
    record {
      promise = answered corners_struct corners_meant _ a c.from.result h.promise (corners_back a) c.from.ensures;
      answered = answered corners_struct corners_meant _ a c.from.result h.answered (corners_back a) c.from.ensures;
    }
