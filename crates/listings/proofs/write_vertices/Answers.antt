-- `listings::write_vertices` meets its contract. The invariant: the numbers of the first k vertices are written over the front. Assumes nothing.
use mathlib.Core.Path.{◌≡◌, sym, ◌∙◌, ap}
use mathlib.Core.List.{List, map}
use Prim.Native.Nat.{ℕ, ◌+◌, ◌*◌, ◌<◌}
use native.Mathlib.Omega.{arith}
use lib.IntN.{ℤ, pos}
use lib.ListN.{length, get_or, length-map}
use mir.Syntax.{w32}
use mir.Val.{SFits, to_z, of_z}
use mir.ValLaws.{to_z-of_z}
use Rattle.integers.proofs.Tests.{ok}
use Rattle.plane.proofs.Lists.{map_at}
use Rattle.turns.specs.Keys.{point_of}
use Rattle.listings.specs.Listings.{flat}
use Rattle.listings.proofs.Writing.{partly, partly_all, two_more, flat_length, flat_east, flat_north}
use Rattle.listings.proofs.write_vertices.Goals as goal

-- what is stored of a key's point is what stands there in the vertices' numbers
module _ (ks : List ℕ) (i : ℕ) (r : ℤ) (l : i < length ks) (f : SFits w32 r) where
  east_is : r ≡ (point_of (get_or ks i 0)).east → to_z w32 (of_z w32 r) ≡ get_or (flat (map point_of ks)) (i * 2) (pos 0)
  east_is e =
      to_z-of_z w32 r f ∙ e ∙ sym (flat_east (point_of 0) (map point_of ks) i (omega (arith, length-map ks point_of)) ∙ ap (λ q. q.east) (map_at point_of 0 (point_of 0) ks i l))

  north_is : r ≡ (point_of (get_or ks i 0)).north → to_z w32 (of_z w32 r) ≡ get_or (flat (map point_of ks)) (i * 2 + 1) (pos 0)
  north_is e =
      to_z-of_z w32 r f ∙ e ∙ sym (flat_north (point_of 0) (map point_of ks) i (omega (arith, length-map ks point_of)) ∙ ap (λ q. q.north) (map_at point_of 0 (point_of 0) ks i l))

pub loop-k-preserved : goal.loop-k-preserved
loop-k-preserved c =
    let l = c.loop-k in
    let e = c.east in
    let n = c.north in
    let ks = c.args.keys.codes.now in
    let vs = map point_of ks in
    let twice : length (flat vs) ≡ length ks * 2 = flat_length vs ∙ ap (λ m. m * 2) (length-map ks point_of) in
    let next : l.k * 2 + 1 + 1 ≡ (l.k + 1) * 2 = omega arith in
    let read = c.at-key.ensures in
    let east = east_is ks l.k e.result (omega arith) (ok e.result e.type_inv) (e.ensures.value ∙ ap (λ k. (point_of k).east) read) in
    let north = north_is ks l.k n.result (omega arith) (ok n.result n.type_inv) (n.ensures.value ∙ ap (λ k. (point_of k).north) read) in
    two_more (flat vs) c.args.answer.now l.answer (l.k * 2) _ _ (omega arith) (omega arith) l.invariant east north ∙ ap (partly (flat vs) c.args.answer.now) next

pub returns : goal.returns
returns c =
    let l = c.loop-k in
    let vs = map point_of c.args.keys.codes.now in
    l.invariant ∙ partly_all (flat vs) c.args.answer.now (l.k * 2) (omega (arith, flat_length vs, length-map c.args.keys.codes.now point_of))
