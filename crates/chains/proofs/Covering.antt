-- Keys that are not above others (`Under` of specs/Chains). Assumes nothing.
use mathlib.Core.Path.{◌≡◌, refl}
use mathlib.Core.Logic.{⊎_elim}
use Prim.Native.Nat.{ℕ, ◌≤◌, ◌<◌}
use native.Mathlib.Decide.{dec_lt}
use native.Mathlib.Omega.{arith}
use lib.IntN.{pos}
use lib.Signed.{◌≤ℤ◌, ◌<ℤ◌}
use Rattle.integers.proofs.Expr.{◌⊖◌, ⊝◌, #◌, ◌≐◌, ◌≼◌, ◌≺◌, ◌⟹◌, bot}
use Rattle.integers.proofs.Cert.{cert, hyp, eqn, ◌⊞◌, ◌⊠◌, ◌∵◌}
use Rattle.integers.proofs.Order.{<→≤, ≡→≤, lt_or_ge}
use Rattle.plane.proofs.Twins.{signed_areaᴱ}
use Rattle.plane.proofs.Angular.{Up, ahead, above}
use Rattle.turns.specs.Keys.{point_of, north_part}
use Rattle.turns.proofs.Order.{up}
use Rattle.turns.proofs.Parts.{north_less}
use Rattle.chains.specs.Chains.{turn, Under}
use Rattle.chains.proofs.Turning.{place, step, cover}

module _ {first : ℕ} {out : ℕ → ℕ} {u last : ℕ} where
  -- neither of the ends, and none of the others
  pub under_first : {k : ℕ} → k ≡ first → Under first out u last k
  under_first e = record { right = λ a b h f g l. rw e f }

  pub under_last : {k : ℕ} → k ≡ last → Under first out u last k
  under_last e = record { right = λ a b h f g l. rw e l }

  pub under_among : {k : ℕ} (j : ℕ) → j < u → k ≡ out j → Under first out u last k
  under_among j o e = record { right = λ a b h f g l. rw e (g j o) }

  -- none that is between two of them in order and right of the line from the one to the other or on it
  pub under_between : {f l k : ℕ} → Under first out u last f → Under first out u last l → f ≤ k → k ≤ l → turn f l k ≤ℤ pos 0 → Under first out u last k
  under_between {f} {l} {k} x y p q t = record { right = λ a b h c g d. go h (x.right a b h c g d) (y.right a b h c g d) (dec_lt f k) (dec_lt k l) }
    where
      go : {a b : ℕ} → a < b → turn a b f ≤ℤ pos 0 → turn a b l ≤ℤ pos 0 → Dec (f < k) → Dec (k < l) → turn a b k ≤ℤ pos 0
      go h c d (yes o) (yes n) = cover o n h t c d
      go h c d (no o) n = let e : k ≡ f = omega arith in rw e c
      go h c d (yes o) (no n) = let e : k ≡ l = omega arith in rw e d

-- ---- the coordinates of keys

-- a key that is not less lies as far east or further
pub east_from : {a b : ℕ} → a ≤ b → (point_of a).east ≤ℤ (point_of b).east
east_from {a} {b} h = go (dec_lt a b)
  where
    by_way : Up (step a b) → (point_of a).east ≤ℤ (point_of b).east
    by_way (ahead o) = cert 2 0 (λ a b. # 0 ≺ b.0 ⊖ a.0 ⟹ a.0 ≼ b.0 ∵ hyp 0) tt (place a) (place b) o
    by_way (above e o) = cert 2 0 (λ a b. b.0 ⊖ a.0 ≐ # 0 ⟹ a.0 ≼ b.0 ∵ eqn 0 (⊝ # 1)) tt (place a) (place b) e

    go : Dec (a < b) → (point_of a).east ≤ℤ (point_of b).east
    go (yes o) = by_way (up o)
    go (no o) = let e : b ≡ a = omega arith in rw e (≡→≤ refl)

-- a key whose north part is not less lies as far north or further
pub north_from : (a b : ℕ) → north_part a ≤ north_part b → (point_of a).north ≤ℤ (point_of b).north
unfolding point_of
north_from a b h = go (dec_lt (north_part a) (north_part b))
  where
    go : Dec (north_part a < north_part b) → (point_of a).north ≤ℤ (point_of b).north
    go (yes o) = <→≤ (north_less a b o)
    go (no o) = let e : north_part b ≡ north_part a = omega arith in rw e (≡→≤ refl)

-- nor is a key above others of which one is as far west and north or further, and one as far east and north or further
module _ {first : ℕ} {out : ℕ → ℕ} {u last : ℕ} where
  pub under_wider : {f g k : ℕ} → Under first out u last f → Under first out u last g → (point_of f).east ≤ℤ (point_of k).east → (point_of k).north ≤ℤ (point_of f).north
      → (point_of k).east ≤ℤ (point_of g).east → (point_of k).north ≤ℤ (point_of g).north → Under first out u last k
  unfolding turn
  under_wider {f} {g} {k} x y fe fn ge gn = record { right = λ a b h c o d. go a b h (x.right a b h c o d) (y.right a b h c o d) }
    where
      go : (a b : ℕ) → a < b → turn a b f ≤ℤ pos 0 → turn a b g ≤ℤ pos 0 → turn a b k ≤ℤ pos 0
      go a b h c d = ⊎_elim falling rising (lt_or_ge (point_of b).north (point_of a).north)
        where
          on : (point_of a).east ≤ℤ (point_of b).east
          on = east_from (omega arith)

          falling : (point_of b).north <ℤ (point_of a).north → turn a b k ≤ℤ pos 0
          falling l =
              cert 4 0 (λ a b g k. a.0 ≼ b.0 ⟹ b.1 ≺ a.1 ⟹ k.0 ≼ g.0 ⟹ k.1 ≼ g.1 ⟹ signed_areaᴱ a b g ≼ # 0 ⟹ signed_areaᴱ a b k ≼ # 0
              ∵ hyp 4 ⊞ hyp 0 ⊠ hyp 3 ⊞ hyp 1 ⊠ hyp 2) tt (place a) (place b) (place g) (place k) on l ge gn d

          rising : (point_of a).north ≤ℤ (point_of b).north → turn a b k ≤ℤ pos 0
          rising l =
              cert 4 0 (λ a b f k. a.0 ≼ b.0 ⟹ a.1 ≼ b.1 ⟹ f.0 ≼ k.0 ⟹ k.1 ≼ f.1 ⟹ signed_areaᴱ a b f ≼ # 0 ⟹ signed_areaᴱ a b k ≼ # 0
              ∵ hyp 4 ⊞ hyp 0 ⊠ hyp 3 ⊞ hyp 1 ⊠ hyp 2) tt (place a) (place b) (place f) (place k) on l fe fn c

-- a key that lies as far east and as far north or further is not less
pub order_from : (a b : ℕ) → (point_of a).east ≤ℤ (point_of b).east → (point_of a).north ≤ℤ (point_of b).north → a ≤ b
order_from a b e n = go (dec_lt b a)
  where
    not_up : Up (step b a) → ⊥
    not_up (ahead o) = cert 2 0 (λ a b. a.0 ≼ b.0 ⟹ # 0 ≺ a.0 ⊖ b.0 ⟹ bot ∵ hyp 0 ⊞ hyp 1) tt (place a) (place b) e o
    not_up (above z o) = cert 2 0 (λ a b. a.1 ≼ b.1 ⟹ # 0 ≺ a.1 ⊖ b.1 ⟹ bot ∵ hyp 0 ⊞ hyp 1) tt (place a) (place b) n o

    go : Dec (b < a) → a ≤ b
    go (yes o) = absurd (not_up (up o))
    go (no o) = omega arith
