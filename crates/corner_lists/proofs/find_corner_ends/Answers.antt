-- `corner_lists::find_corner_ends` meets its contract: the keys of each call of `put_corner_keys` are those of one corner. Assumes nothing.
use mathlib.Core.Path.{sym, ◌∙◌}
use native.Mathlib.Omega.{arith}
use Rattle.std.proofs.lemmas.List.{map-id}
use Rattle.rounds.specs.declared.Corner.TheVariants.{SouthWest, NorthEast}
use Rattle.corners.proofs.Places.{corners_length}
use Rattle.turns.proofs.Listed.{each_key}
use Rattle.extremes.proofs.Extreme.{first_key, last_key}
use Rattle.corner_lists.proofs.Filling.{keys_listed}
use Rattle.corner_lists.proofs.Ends.{corner_ends, one_held}
use Rattle.corner_lists.proofs.find_corner_ends.Goals as goal

pub from_code-requires : goal.from_code-requires
from_code-requires c =
    first_key (rw map-id at c.find_ends-least.ensures) (each_key (keys_listed (corners_length SouthWest c.args.boxes.numbers.now ∙ sym c.len-n.ensures) c.put_corner_keys.ensures))

pub from_code-requires-2 : goal.from_code-requires-2
from_code-requires-2 c =
    last_key (rw map-id at c.find_ends-most.ensures) (each_key (keys_listed (corners_length NorthEast c.args.boxes.numbers.now ∙ sym c.len-n.ensures) c.put_corner_keys-2.ensures))

pub returns : goal.returns
returns c =
    let l = c.args.boxes.numbers.now in
    let e = c.find_ends-least in
    let f = c.find_ends-most in
    rw (c.from_code.ensures, c.from_code-2.ensures)
    (corner_ends l c.args.boxes.accepted _ _ e.result.first e.result.last f.result.last f.result.first
    (one_held l SouthWest c.len-n.result c.len-n.ensures c.put_corner_keys.new.keys (omega arith) c.put_corner_keys.ensures)
    (one_held l NorthEast c.len-n.result c.len-n.ensures c.put_corner_keys-2.new.keys (omega arith) c.put_corner_keys-2.ensures)
    (rw map-id at e.ensures) (rw map-id at f.ensures))
