-- Each tool of the library once or twice, as it is called. Assumes nothing.
use mathlib.Core.Path.{◌≡◌}
use mathlib.Core.List.{[], ◌∷◌}
use native.Mathlib.Omega.{arith}
use lib.IntN.{ℤ, pos, ◌+ℤ◌, ◌*ℤ◌, ◌-ℤ◌, neg_ℤ}
use lib.Signed.{◌≤ℤ◌, ◌<ℤ◌}
use Rattle.integers.proofs.Expr.{E, ◌⊕◌, ◌⊖◌, ◌⊗◌, ⊝◌, #◌, ◌≼◌, ◌≺◌, ◌≐◌, ◌⟹◌, bot, Pt, PtE, Thm}
use Rattle.integers.proofs.Lin.{lin, by_lin}
use Rattle.std.proofs.lemmas.Int.{ints}
use Rattle.integers.proofs.Ring.{ring, by_ring}
use Rattle.integers.proofs.Cert.{cert, hyp, sq, ◌⊞◌, ◌⊠◌, less, eqn, ◌∵◌, ◌∵◌÷◌}
use Rattle.integers.proofs.Poly.{poly, ◌from◌, mixed}
use Rattle.integers.proofs.Order.{◌≤ᶻ◌}

-- ---- an operation on points, and the same on expressions for the solvers (with ᴱ)

abbrev area : Pt → Pt → Pt → ℤ
area a b c = (b.0 -ℤ a.0) *ℤ (c.1 -ℤ a.1) -ℤ (b.1 -ℤ a.1) *ℤ (c.0 -ℤ a.0)

abbrev areaᴱ : PtE → PtE → PtE → E
areaᴱ a b c = (b.0 ⊖ a.0) ⊗ (c.1 ⊖ a.1) ⊖ (b.1 ⊖ a.1) ⊗ (c.0 ⊖ a.0)

abbrev dot : Pt → Pt → ℤ
dot u v = u.0 *ℤ v.0 +ℤ u.1 *ℤ v.1

abbrev dotᴱ : PtE → PtE → E
dotᴱ u v = u.0 ⊗ v.0 ⊕ u.1 ⊗ v.1

abbrev sub : Pt → Pt → Pt
sub a p = (a.0 -ℤ p.0, a.1 -ℤ p.1)

abbrev subᴱ : PtE → PtE → PtE
subᴱ a p = (a.0 ⊖ p.0, a.1 ⊖ p.1)

-- ---- ring: p points, n numbers, the equation, `tt`

square : (a b : ℤ) → (a +ℤ b) *ℤ (a -ℤ b) ≡ a *ℤ a -ℤ b *ℤ b
square = ring 0 2 (λ a b. (a ⊕ b) ⊗ (a ⊖ b) ≐ a ⊗ a ⊖ b ⊗ b) tt

cyclic : (a b c : Pt) → area a b c ≡ area b c a
cyclic = ring 3 0 (λ a b c. areaᴱ a b c ≐ areaᴱ b c a) tt

grassmann : (a b c d e : Pt) → area a b c *ℤ area a d e -ℤ area a b d *ℤ area a c e +ℤ area a b e *ℤ area a c d ≡ pos 0
grassmann = ring 5 0 (λ a b c d e. areaᴱ a b c ⊗ areaᴱ a d e ⊖ areaᴱ a b d ⊗ areaᴱ a c e ⊕ areaᴱ a b e ⊗ areaᴱ a c d ≐ # 0) tt

-- stated once; used as `swap.at a b c`
swap : Thm 3 0 (λ a b c. areaᴱ a b c ≐ ⊝ areaᴱ b a c)
swap = by_ring tt

swapped : (a b c : Pt) → area a b c ≡ neg_ℤ (area b a c)
swapped a b c = swap.at a b c

-- ---- lin: orders and equations that are linear, and a little more; `omega` finds the proof

next : (a b c : ℤ) → a <ℤ b → b ≤ℤ c → a +ℤ pos 1 ≤ᶻ c
next = lin 0 3 (λ a b c. a ≺ b ⟹ b ≼ c ⟹ a ⊕ # 1 ≼ c) (omega arith)

-- any term can stand for a number, and `_` where a hypothesis shows it
opaque : (a b c d : Pt) → area a b c <ℤ area a b d → area a b d ≤ℤ pos 7 → area a b c ≤ℤ pos 6
opaque a b c d h k = lin 0 2 (λ x y. x ≺ y ⟹ y ≼ # 7 ⟹ x ≼ # 6) (omega arith) _ _ h k

odd : Thm 0 2 (λ a b. # 2 ⊗ a ≐ # 2 ⊗ b ⊕ # 1 ⟹ bot)
odd = by_lin (omega arith)

-- ---- the library's `ints`: nothing to restate

between : (a b c : ℤ) → a <ℤ b → b ≤ℤ c → c ≤ℤ a → ⊥
between a b c h k l = omega (arith, ints)

one_more : (a b : ℤ) → a <ℤ b → a +ℤ pos 1 ≤ᶻ b
one_more a b h = omega (arith, ints)

-- ---- cert: the certificate is written, and computed

grows : (a b : ℤ) → pos 0 ≤ℤ a → pos 0 <ℤ b → a ≤ᶻ a *ℤ b
grows = cert 0 2 (λ a b. # 0 ≼ a ⟹ # 0 ≺ b ⟹ a ≼ a ⊗ b ∵ hyp 0 ⊠ less (hyp 1)) tt

cauchy : (a b : Pt) → dot a b *ℤ dot a b ≤ᶻ dot a a *ℤ dot b b
cauchy = cert 2 0 (λ a b. dotᴱ a b ⊗ dotᴱ a b ≼ dotᴱ a a ⊗ dotᴱ b b ∵ sq (a.0 ⊗ b.1 ⊖ a.1 ⊗ b.0)) tt

-- a positive factor is cancelled
cancel : (a b c : ℤ) → pos 0 <ℤ c → c *ℤ a ≤ᶻ c *ℤ b → a ≤ℤ b
cancel = cert 0 3 (λ a b c. # 0 ≺ c ⟹ c ⊗ a ≼ c ⊗ b ⟹ a ≼ b ∵ hyp 1 ÷ hyp 0) tt

-- an equation from equations: each is multiplied by an expression
product : (a b c d : ℤ) → a ≡ b → c ≡ d → a *ℤ c ≡ b *ℤ d
product = cert 0 4 (λ a b c d. a ≐ b ⟹ c ≐ d ⟹ a ⊗ c ≐ b ⊗ d ∵ eqn 0 c ⊞ eqn 1 b) tt

-- absurd: a value that is more than 0, and is 0
clash : (a b : ℤ) → a <ℤ b → b <ℤ a → ⊥
clash = cert 0 2 (λ a b. a ≺ b ⟹ b ≺ a ⟹ bot ∵ hyp 0 ⊞ hyp 1) tt

-- ---- poly: orders between polynomials; `omega` finds the combination, of the hypotheses and of the products named

covered : (a b c d : Pt) → area a b d ≤ℤ pos 0 → area b c d ≤ℤ pos 0 → area c a d ≤ℤ pos 0 → area a b c ≤ℤ pos 0
covered = poly 4 0 (λ a b c d. areaᴱ a b d ≼ # 0 ⟹ areaᴱ b c d ≼ # 0 ⟹ areaᴱ c a d ≼ # 0 ⟹ areaᴱ a b c ≼ # 0 from []) tt (omega arith)

mean : (a b : ℤ) → pos 2 *ℤ (a *ℤ b) ≤ᶻ a *ℤ a +ℤ b *ℤ b
mean = poly 0 2 (λ a b. # 2 ⊗ (a ⊗ b) ≼ a ⊗ a ⊕ b ⊗ b from (sq (a ⊖ b) ∷ [])) tt (omega arith)

-- the clockwise order is transitive in a half-plane, by the three products and not their sum: hyp 5 is the goal's negation
turn : (u p a b c : Pt) → pos 0 <ℤ dot u (sub a p) → pos 0 <ℤ dot u (sub b p) → pos 0 <ℤ dot u (sub c p)
    → area p a b <ℤ pos 0 → area p b c <ℤ pos 0 → area p a c <ℤ pos 0
turn = poly 5 0 (λ u p a b c.
    # 0 ≺ dotᴱ u (subᴱ a p) ⟹ # 0 ≺ dotᴱ u (subᴱ b p) ⟹ # 0 ≺ dotᴱ u (subᴱ c p)
    ⟹ areaᴱ p a b ≺ # 0 ⟹ areaᴱ p b c ≺ # 0 ⟹ areaᴱ p a c ≺ # 0
    from (hyp 0 ⊠ hyp 4 ∷ hyp 2 ⊠ hyp 3 ∷ hyp 1 ⊠ hyp 5 ∷ [])) tt (omega arith)

-- with p at the origin there are few enough monomials to name every mixed product
turn₀ : (u a b c : Pt) → pos 0 <ℤ dot u a → pos 0 <ℤ dot u b → pos 0 <ℤ dot u c
    → area (pos 0, pos 0) a b <ℤ pos 0 → area (pos 0, pos 0) b c <ℤ pos 0 → area (pos 0, pos 0) a c <ℤ pos 0
turn₀ = poly 4 0 (λ u a b c.
    # 0 ≺ dotᴱ u a ⟹ # 0 ≺ dotᴱ u b ⟹ # 0 ≺ dotᴱ u c
    ⟹ areaᴱ (# 0, # 0) a b ≺ # 0 ⟹ areaᴱ (# 0, # 0) b c ≺ # 0 ⟹ areaᴱ (# 0, # 0) a c ≺ # 0
    from (mixed (0 ∷ 1 ∷ 2 ∷ []) (3 ∷ 4 ∷ 5 ∷ []))) tt (omega arith)
