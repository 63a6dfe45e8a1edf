-- `turns::Keys::at` meets its contract. Assumes nothing.
use Rattle.plane.proofs.Lists.{index_of_all}
use Rattle.turns.proofs.Keys.at.Goals as goal

pub from_code-requires : goal.from_code-requires
from_code-requires c = index_of_all 0 c.args.self.all_keys c.args.i c.requires
