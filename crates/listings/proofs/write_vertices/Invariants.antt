-- `listings::write_vertices` meets its contract. The invariant: the numbers of the first k vertices are written over the front. Assumes nothing.
use mathlib.Core.Path.{◌≡◌}
use mathlib.Core.List.{map}
use Prim.Native.Nat.{◌*◌}
use Rattle.turns.specs.Keys.{point_of}
use Rattle.listings.specs.Listings.{flat}
use Rattle.listings.proofs.Writing.{partly}
use Rattle.listings.proofs.write_vertices.Given as goal

abbrev pub invariant-loop-k : goal.invariant-loop-k
invariant-loop-k l = l.answer ≡ partly (flat (map point_of l.keys.codes.now)) l.initial.answer (l.k * 2)
