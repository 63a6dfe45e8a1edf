-- `texts::write_fields` meets its contract: the second field stands behind the first, and the line feed behind both. Assumes nothing.
use mathlib.Core.Path.{sym, ap}
use mathlib.Core.List.{List, ◌++◌, append_assoc}
use Prim.Native.Nat.{ℕ, ◌+◌, ◌-◌, ◌≤◌}
use native.Mathlib.Omega.{arith}
use lib.ListN.{length, take, drop, length-append}
use Rattle.texts.specs.Decimals.{decimal}
use Rattle.texts.specs.Text.{ascii, Wrote}
use Rattle.texts.proofs.Writing.{then_wrote, wrote_as}
use Rattle.texts.proofs.write_fields.Goals as goal

-- there is room for two fields and a line feed
room : (one a two b : List ℕ) {n : ℕ} → length one + length a + length two + length b + 1 ≤ n → length (one ++ a) + length (two ++ b) + 1 ≤ n
room one a two b h = omega (arith, length-append one a, length-append two b)

module _ {one two xs ys zs : List ℕ} {n m : ℕ} (r : length one + length two + 1 ≤ length xs) (f : Wrote one xs n ys)
    (g : Wrote two (take (length ys - n) (drop n ys)) m zs) where
  -- both fields
  both : Wrote (one ++ two) xs (n + m) (take n ys ++ (zs ++ drop (length ys - n) (drop n ys)))
  both = then_wrote f (omega arith) g

  -- they leave room for the line feed
  both_room : length (one ++ two) + 1 ≤ length xs
  both_room = omega (arith, length-append one two)

pub returns : goal.returns
returns c =
    let one = c.args.first.now ++ decimal c.args.a in
    let r = room c.args.first.now (decimal c.args.a) c.args.second.now (decimal c.args.b) c.requires in
    let w = c.write_field-n.ensures in
    let l = both_room r w c.write_field.ensures in
    wrote_as (ap (λ t. t ++ ascii "\n") (sym (append_assoc one c.args.second.now (decimal c.args.b))))
    (then_wrote (both r w c.write_field.ensures) (omega arith) c.write_bytes.ensures)
