-- `balances::balance_in_triangle` meets its contract: none of the three areas is less than 0. Assumes nothing.
use Rattle.std.specs.Prelude.{Some}
use mathlib.Core.Path.{◌≡◌, ap}
use Prim.Native.Nat.{ℕ}
use lib.IntN.{nat_abs}
use Rattle.integers.proofs.Order.{<→≤}
use Rattle.cones.specs.Cones.{entry_of}
use Rattle.cones.specs.declared.CornerKey.{CornerKey}
use Rattle.balances.specs.Balances.{entries}
use Rattle.balances.specs.Balancing.{among_three}
use Rattle.balances.proofs.Answering.{three_says}
use Rattle.balances.proofs.balance_in_triangle.Goals as goal

pub positive_area-at_a-requires : goal.positive_area-at_a-requires
positive_area-at_a-requires c = <→≤ c.requires.of_b_c

pub returns : goal.returns
returns c =
    let e : Some (entries c.entry_of.result c.entry_of-2.result c.entry_of-3.result) ≡ among_three c.args.plug c.args.a c.args.b c.args.c =
    rw (c.entry_of.ensures, c.entry_of-2.ensures, c.entry_of-3.ensures) (weighed c.args.a c.args.b c.args.c (ap nat_abs c.positive_area-at_a.ensures) (ap nat_abs c.positive_area-at_b.ensures) (ap nat_abs c.positive_area-at_c.ensures)) in
    record { exact = e; balances = three_says c.args.plug c.args.a c.args.b c.args.c c.requires e }
  where
    -- equal weights
    weighed : (u v w : CornerKey) {l m n l' m' n' : ℕ} → l ≡ l' → m ≡ m' → n ≡ n' → Some (entries (entry_of u l) (entry_of v m) (entry_of w n)) ≡ Some (entries (entry_of u l') (entry_of v m') (entry_of w n'))
    weighed u v w e f g = λ i. Some (entries (entry_of u (e i)) (entry_of v (f i)) (entry_of w (g i)))
