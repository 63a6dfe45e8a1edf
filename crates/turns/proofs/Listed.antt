-- A list of keys: what is known of each of its numbers. Assumes nothing.
use mathlib.Core.List.{List}
use mathlib.Core.Path.{sym, subst}
use Prim.Native.Nat.{ℕ, ◌<◌}
use native.Mathlib.Omega.{arith}
use lib.ListN.{get_or, length, take, length-take}
use lib.Seq.{get_or-take}
use Rattle.plane.specs.Members.{All}
use Rattle.plane.proofs.Lists.{all_by_index, index_of_all}
use Rattle.turns.specs.Keys.{IsKey, AllKeys}

-- each number is a key
pub listed : {l : List ℕ} → AllKeys (λ i. get_or l i 0) (length l) → All IsKey l
listed {l} ks = all_by_index 0 l ks.key

pub each_key : {l : List ℕ} → All IsKey l → AllKeys (λ i. get_or l i 0) (length l)
each_key ks = record { key = λ i h. index_of_all 0 ks i h }

-- the first m numbers are, or all, if they are no more
pub front_listed : (l : List ℕ) (m : ℕ) → AllKeys (λ i. get_or l i 0) m → All IsKey (take m l)
front_listed l m ks =
    all_by_index 0 (take m l) (λ i o. let e : i < m = omega (arith, length-take m l) in subst IsKey (sym (get_or-take m l i 0 e)) (ks.key i e))
