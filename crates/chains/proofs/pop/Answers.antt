-- `chains::pop` meets its contract. The invariant: at least one vertex is left, and no side that went turns right to r. Assumes nothing.
use mathlib.Core.List.{List}
use mathlib.Core.Path.{◌≡◌}
use Prim.Native.Nat.{ℕ, suc, ◌+◌, ◌-◌, ◌≤◌, ◌<◌}
use native.Mathlib.Decide.{dec_lt}
use native.Mathlib.Omega.{arith}
use lib.IntN.{pos}
use lib.ListN.{length}
use lib.Signed.{◌≤ℤ◌, ◌<ℤ◌}
use Rattle.chains.specs.Chains.{turn}
use Rattle.orders.specs.Order.{get}
use Rattle.chains.proofs.Turning.{right_if, not_right_if}
use Rattle.chains.proofs.pop.Goals as goal

-- the code reads at n - 1 - 1 and n - 1, the specs at j and suc j
at_top : (s : List ℕ) (r n j x y : ℕ) → x ≡ get s (n - 1 - 1) → y ≡ get s (n - 1) → suc (suc j) ≡ n - 1 + 1 → 1 < n → turn x y r <ℤ pos 0 → turn (get s j) (get s (suc j)) r <ℤ pos 0
at_top s r n j x y p q e l h =
    let a : n - 1 - 1 ≡ j = omega arith in
    let b : n - 1 ≡ suc j = omega arith in
    rw (p, q, a, b) at h

-- one more side went
at-gone : (s : List ℕ) (r k n x y : ℕ) → x ≡ get s (n - 1 - 1) → y ≡ get s (n - 1) → ((j : ℕ) → n ≤ suc j → suc j < k → pos 0 ≤ℤ turn (get s j) (get s (suc j)) r)
    → pos 0 ≤ℤ turn x y r → (j : ℕ) → n - 1 ≤ suc j → suc j < k → pos 0 ≤ℤ turn (get s j) (get s (suc j)) r
at-gone s r k n x y p q f h j l o = go (dec_lt (suc j) n)
  where
    go : Dec (suc j < n) → pos 0 ≤ℤ turn (get s j) (get s (suc j)) r
    go (yes z) =
        let a : n - 1 - 1 ≡ j = omega arith in
        let b : n - 1 ≡ suc j = omega arith in
        rw (p, q, a, b) at h
    go (no z) = f j (omega arith) o

pub returns-then-turns_right : goal.returns-then-turns_right
returns-then-turns_right c =
    let l = c.loop-n in
    let s = c.args.stack.codes.now in
    record {
      some = omega arith;
      most = omega arith;
      bend = λ j e. at_top s c.args.r l.n j _ _ c.at-a.ensures c.at-b.ensures e (omega arith) (right_if _ _ _ _ c.turns_right.ensures c.if-turns_right.true);
      gone = λ j e h. l.invariant.1 j (omega arith) h;
    }

pub loop-n-preserved : goal.loop-n-preserved
loop-n-preserved c =
    let l = c.loop-n in
    let s = c.args.stack.codes.now in
    (omega arith, at-gone s c.args.r (length s) l.n _ _ c.at-a.ensures c.at-b.ensures l.invariant.1 (not_right_if _ _ _ _ c.turns_right.ensures c.if-turns_right.false))
