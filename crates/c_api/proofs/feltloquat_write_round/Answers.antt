-- `c_api::feltloquat_write_round` meets its contract: it gives the answer that `files::write_round` promises. Assumes nothing.
use Rattle.c_files.specs.Files.{write_struct, write_meant}
use Rattle.c_answers.proofs.Answering.{answered}
use Rattle.c_files.proofs.Files.{write_back}
use Rattle.c_api.proofs.feltloquat_write_round.Goals as goal

pub returns : goal.returns
returns c =
    let a = c.write_round.result in
    let h = c.write_round.ensures in
    answered write_struct write_meant _ a c.from.result h (write_back a) c.from.ensures
