-- `quarters::upper_list` meets its contract. Assumes nothing.
use mathlib.Core.Path.{◌≡◌}
use mathlib.Core.Logic.{⊎_elim}
use mathlib.Core.List.{List}
use Prim.Native.Nat.{ℕ, ◌+◌, ◌-◌, ◌≤◌}
use native.Mathlib.Omega.{arith}
use lib.ListN.{length, drop}
use Rattle.quarters.specs.Quarters.{PeakPut, SortedQuarter}
use Rattle.quarters.proofs.Joining.{joined, whole_before, whole_after, rest_length}
use Rattle.quarters.proofs.upper_list.Goals as goal

-- it is put
few : {first p last n m k : ℕ} {old new : List ℕ} → n ≤ k → PeakPut first p last old n new m → m ≤ k + 1
few h q = ⊎_elim (λ z. omega (arith, z.0)) (λ z. omega (arith, z.0)) q.put

-- of the two keys that a way was made of
between : {keys out : List ℕ} {from to from' to' n : ℕ} → from' ≡ from → to' ≡ to → SortedQuarter keys from' to' out n → SortedQuarter keys from to out n
between f t q = rw (← f, ← t) q

pub returns : goal.returns
returns c =
    let x = c.sort_outside in
    let y = c.sort_outside-count in
    let r = c.requires in
    let o = c.put_peak-at.new.out in
    let at = c.put_peak-at.result in
    let left = c.args.before.codes.now in
    let right = c.args.behind.codes.now in
    let put : at ≤ length left + 1 = few y.ensures.quarter.few c.put_peak-at.ensures in
    let room : at ≤ length o = omega (arith, r.out_room) in
    joined left right y.new.out o x.new.out _ c.args.ends.now.first c.northmost-peak.result c.args.ends.now.last y.result at x.result
    r.left_ends r.right_ends c.northmost-peak.ensures (between c.new.ensures.from c.new.ensures.to y.ensures) c.put_peak-at.ensures
    (between c.new-2.ensures.from c.new-2.ensures.to x.ensures)
    (whole_before at o x.new.out (drop (length o - at) (drop at o)) room)
    (λ i h. whole_after at o x.new.out (drop (length o - at) (drop at o)) room i (omega (arith, x.auto.out, rest_length at o room, r.out_room, x.ensures.quarter.few)))
