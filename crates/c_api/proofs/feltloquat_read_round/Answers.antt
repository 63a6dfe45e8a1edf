-- `c_api::feltloquat_read_round` meets its contract: it gives the answer that `files::read_round` promises. Assumes nothing.
use Rattle.c_files.specs.Files.{read_struct, read_meant}
use Rattle.c_answers.proofs.Answering.{answered}
use Rattle.c_files.proofs.Files.{read_back}
use Rattle.c_api.proofs.feltloquat_read_round.Goals as goal

pub returns : goal.returns
returns c =
    let a = c.read_round.result in
    let h = c.read_round.ensures in
    answered read_struct read_meant _ a c.from.result h (read_back a) c.from.ensures
