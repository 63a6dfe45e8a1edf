-- `balances::balance_between` meets its contract: neither dot product is less than 0. Assumes nothing.
use Rattle.std.specs.Prelude.{Some}
use mathlib.Core.Path.{◌≡◌, ap, ap₂}
use lib.IntN.{nat_abs}
use Rattle.cones.specs.Cones.{entry_of}
use Rattle.balances.specs.Balances.{entries}
use Rattle.balances.specs.Balancing.{between_two}
use Rattle.balances.proofs.Answering.{past_a, past_b, two_says}
use Rattle.balances.proofs.balance_between.Goals as goal

pub positive_dot_product-at_a-requires : goal.positive_dot_product-at_a-requires
positive_dot_product-at_a-requires c = past_b _ _ _ c.requires

pub positive_dot_product-at_b-requires : goal.positive_dot_product-at_b-requires
positive_dot_product-at_b-requires c = past_a _ _ _ c.requires

pub returns : goal.returns
returns c =
    let e : Some (entries c.entry_of.result c.entry_of-2.result c.entry_of-3.result) ≡ between_two c.args.plug c.args.a c.args.b =
    rw (c.entry_of.ensures, c.entry_of-2.ensures, c.entry_of-3.ensures)
    (ap₂ (λ m n. Some (entries (entry_of c.args.a m) (entry_of c.args.b n) (entry_of c.args.a 0))) (ap nat_abs c.positive_dot_product-at_a.ensures) (ap nat_abs c.positive_dot_product-at_b.ensures)) in
    record { exact = e; balances = two_says c.args.plug c.args.a c.args.b c.requires e }
