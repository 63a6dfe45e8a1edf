-- The least and the greatest of some keys are keys. Assumes nothing.
use mathlib.Core.List.{List}
use mathlib.Core.Path.{sym, subst}
use Prim.Native.Nat.{ℕ}
use lib.ListN.{length}
use Rattle.orders.specs.Order.{get}
use Rattle.turns.specs.Keys.{IsKey, AllKeys}
use Rattle.extremes.specs.Inner.{EndsOf}

module _ {keys : List ℕ} {first last : ℕ} (ends : EndsOf keys first last) (ks : AllKeys (get keys) (length keys)) where
  pub first_key : IsKey first
  first_key = let r = ends.first_in in subst IsKey (sym r.2) (ks.key r.0 r.1)

  pub last_key : IsKey last
  last_key = let r = ends.last_in in subst IsKey (sym r.2) (ks.key r.0 r.1)
