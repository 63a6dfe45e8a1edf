-- `lin`: linear arithmetic over the integers, by `omega`. For some natural N each variable is y − N, with a natural y, and so is each expression a difference of
-- two naturals (module Diff). A statement over the integers so becomes one over ℕ, which `omega arith` proves:
--     lin 0 3 (λ a b c. a ≺ b ⟹ b ≼ c ⟹ a ⊕ # 1 ≼ c) (omega arith) : (a b c : ℤ) → a <ℤ b → b ≤ℤ c → (a +ℤ pos 1) ≤ℤ c
-- The first number is how many points are bound, and the second how many numbers. Any term can be handed over for a variable, as `cross a b c`.
-- Products are multiplied out, and each monomial in N and the y is an unknown to `omega`, which takes 64 of them: for more, see Poly, Cert and Ring.
-- Assumes nothing.
use mathlib.Core.Path.{◌≡◌, refl, ap, fun_ext, subst}
use mathlib.Core.List.{List, [], ◌∷◌}
use Prim.Native.Nat.{ℕ, zero, suc, ◌+◌, ◌-◌, ◌*◌, ◌<◌, ◌≤◌}
use native.Mathlib.Omega.{arith}
use lib.IntN.{ℤ, pos, negsuc}
use borrow.Author.Differences.{up, down}
use Rattle.integers.proofs.Diff.{Is, is_self, is_add, is_sub, is_mul, is_neg, is_eq, eq_is, le_is, is_le, lt_is, is_lt}
use Rattle.integers.proofs.Expr.{E, var, lit, ◌⊕◌, ◌⊖◌, ◌⊗◌, ⊝◌, nth, den, St, ◌≼◌, ◌≺◌, ◌≐◌, ◌⟹◌, ◌&◌, bot, Holds, Fun, bind, Alls, All, Thm}

-- the two parts of each variable's value
abbrev pub Parts : Type 0
Parts = ℕ → ℕ × ℕ

-- the two parts of an expression's value
abbrev mutual
  pub upᴱ : E → Parts → ℕ
  upᴱ (var i) σ = (σ i).0
  upᴱ (lit k) σ = up k
  upᴱ (a ⊕ b) σ = upᴱ a σ + upᴱ b σ
  upᴱ (a ⊖ b) σ = upᴱ a σ + downᴱ b σ
  upᴱ (a ⊗ b) σ = upᴱ a σ * upᴱ b σ + downᴱ a σ * downᴱ b σ
  upᴱ (⊝ a) σ = downᴱ a σ

  pub downᴱ : E → Parts → ℕ
  downᴱ (var i) σ = (σ i).1
  downᴱ (lit k) σ = down k
  downᴱ (a ⊕ b) σ = downᴱ a σ + downᴱ b σ
  downᴱ (a ⊖ b) σ = downᴱ a σ + upᴱ b σ
  downᴱ (a ⊗ b) σ = upᴱ a σ * downᴱ b σ + downᴱ a σ * upᴱ b σ
  downᴱ (⊝ a) σ = upᴱ a σ

-- the statement over ℕ
abbrev pub Nat : St → Parts → Type 0
Nat (a ≼ b) σ = upᴱ a σ + downᴱ b σ ≤ upᴱ b σ + downᴱ a σ
Nat (a ≺ b) σ = upᴱ a σ + downᴱ b σ < upᴱ b σ + downᴱ a σ
Nat (a ≐ b) σ = upᴱ a σ + downᴱ b σ ≡ upᴱ b σ + downᴱ a σ
Nat (s ⟹ t) σ = Nat s σ → Nat t σ
Nat (s & t) σ = Nat s σ × Nat t σ
Nat bot σ = ⊥

-- ---- it says the same

-- N, at some integers: the sum of what they lie below 0
abbrev pub depth : List ℤ → ℕ
depth [] = zero
depth (x ∷ ρ) = down x + depth ρ

abbrev pub parts : List ℤ → Parts
parts ρ i = (up (nth ρ i) + (depth ρ - down (nth ρ i)), depth ρ)

nth_depth : (ρ : List ℤ) (i : ℕ) → down (nth ρ i) ≤ depth ρ
nth_depth [] i = omega arith
nth_depth (x ∷ ρ) zero = omega arith
nth_depth (x ∷ ρ) (suc i) = omega (arith, nth_depth ρ i)

nth_is : (ρ : List ℤ) (i : ℕ) → Is (nth ρ i) (parts ρ i).0 (parts ρ i).1
nth_is ρ i = record { is = omega (arith, nth_depth ρ i) }

den_is : (e : E) (ρ : List ℤ) → Is (den e ρ) (upᴱ e (parts ρ)) (downᴱ e (parts ρ))
den_is (var i) ρ = nth_is ρ i
den_is (lit k) ρ = is_self k
den_is (a ⊕ b) ρ = is_add (den_is a ρ) (den_is b ρ)
den_is (a ⊖ b) ρ = is_sub (den_is a ρ) (den_is b ρ)
den_is (a ⊗ b) ρ = is_mul (den_is a ρ) (den_is b ρ)
den_is (⊝ a) ρ = is_neg (den_is a ρ)

mutual
  to-ℕ : (s : St) (ρ : List ℤ) → Holds s ρ → Nat s (parts ρ)
  to-ℕ (a ≼ b) ρ h = le_is (den_is a ρ) (den_is b ρ) h
  to-ℕ (a ≺ b) ρ h = lt_is (den_is a ρ) (den_is b ρ) h
  to-ℕ (a ≐ b) ρ h = eq_is (den_is a ρ) (den_is b ρ) h
  to-ℕ (s ⟹ t) ρ h = λ x. to-ℕ t ρ (h (of-ℕ s ρ x))
  to-ℕ (s & t) ρ h = (to-ℕ s ρ h.0, to-ℕ t ρ h.1)
  to-ℕ bot ρ h = h

  of-ℕ : (s : St) (ρ : List ℤ) → Nat s (parts ρ) → Holds s ρ
  of-ℕ (a ≼ b) ρ h = is_le (den_is a ρ) (den_is b ρ) h
  of-ℕ (a ≺ b) ρ h = is_lt (den_is a ρ) (den_is b ρ) h
  of-ℕ (a ≐ b) ρ h = is_eq (den_is a ρ) (den_is b ρ) h
  of-ℕ (s ⟹ t) ρ h = λ x. of-ℕ t ρ (h (to-ℕ s ρ x))
  of-ℕ (s & t) ρ h = (of-ℕ s ρ h.0, of-ℕ t ρ h.1)
  of-ℕ bot ρ h = h

-- ---- what `omega` is handed. It takes goals at most 32 arguments deep, so the naturals y come as one nested pair, and so do the hypotheses

-- h₁ × (h₂ × … Unit) of a statement h₁ ⟹ h₂ ⟹ … ⟹ g, and g
abbrev pub Given : St → Parts → Type 0
Given (a ≼ b) σ = Unit {0}
Given (a ≺ b) σ = Unit {0}
Given (a ≐ b) σ = Unit {0}
Given (s ⟹ t) σ = Nat s σ × Given t σ
Given (s & t) σ = Unit {0}
Given bot σ = Unit {0}

abbrev pub Goal : St → Parts → Type 0
Goal (a ≼ b) σ = Nat (a ≼ b) σ
Goal (a ≺ b) σ = Nat (a ≺ b) σ
Goal (a ≐ b) σ = Nat (a ≐ b) σ
Goal (s ⟹ t) σ = Goal t σ
Goal (s & t) σ = Nat (s & t) σ
Goal bot σ = ⊥

curried : (s : St) (σ : Parts) → (Given s σ → Goal s σ) → Nat s σ
curried (a ≼ b) σ f = f tt
curried (a ≺ b) σ f = f tt
curried (a ≐ b) σ f = f tt
curried (s ⟹ t) σ f = λ h. curried t σ (λ hs. f (h, hs))
curried (s & t) σ f = f tt
curried bot σ f = f tt

-- n naturals, and the parts that they are with N
abbrev pub Tuple : ℕ → Type 0
Tuple zero = Unit {0}
Tuple (suc n) = ℕ × Tuple n

abbrev pub pick : (n : ℕ) → ℕ → Tuple n → Parts
pick zero N t i = (N, N)
pick (suc n) N t zero = (t.0, N)
pick (suc n) N t (suc i) = pick n N t.1 i

abbrev pub Asks : ℕ → St → Type 0
Asks n s = (N : ℕ) (t : Tuple n) → Given s (pick n N t) → Goal s (pick n N t)

-- those of a list of integers
abbrev pub len : List ℤ → ℕ
len [] = zero
len (x ∷ ρ) = suc (len ρ)

abbrev tuple : ℕ → (ρ : List ℤ) → Tuple (len ρ)
tuple N [] = tt
tuple N (x ∷ ρ) = (up x + (N - down x), tuple N ρ)

pick_is : (N : ℕ) (ρ : List ℤ) (i : ℕ) → pick (len ρ) N (tuple N ρ) i ≡ (up (nth ρ i) + (N - down (nth ρ i)), N)
pick_is N [] i = ap (λ n. (n, N)) (zero_is N)
  where
    zero_is : (N : ℕ) → N ≡ zero + (N - zero)
    zero_is N = omega arith
pick_is N (x ∷ ρ) zero = refl
pick_is N (x ∷ ρ) (suc i) = pick_is N ρ i

pub asked : (s : St) (ρ : List ℤ) → Asks (len ρ) s → Holds s ρ
asked s ρ c = of-ℕ s ρ (curried s (parts ρ) (subst (λ σ. Given s σ → Goal s σ) (fun_ext (pick_is (depth ρ) ρ)) (c (depth ρ) (tuple (depth ρ) ρ))))

-- ---- `omega` reads a statement's parts again and again, and antt computes a call again where it is read again. So the number and the statement are
-- computed first, down to numerals and constructors: `forced s F` is F s, to be read once

abbrev pub forcedℕ : ℕ → (ℕ → Type 0) → Type 0
forcedℕ zero F = F zero
forcedℕ (suc n) F = F (suc n)

abbrev pub forcedᴱ : E → (E → Type 0) → Type 0
forcedᴱ (var i) F = forcedℕ i (λ i. F (var i))
forcedᴱ (lit (pos n)) F = forcedℕ n (λ n. F (lit (pos n)))
forcedᴱ (lit (negsuc n)) F = forcedℕ n (λ n. F (lit (negsuc n)))
forcedᴱ (a ⊕ b) F = forcedᴱ a (λ a. forcedᴱ b (λ b. F (a ⊕ b)))
forcedᴱ (a ⊖ b) F = forcedᴱ a (λ a. forcedᴱ b (λ b. F (a ⊖ b)))
forcedᴱ (a ⊗ b) F = forcedᴱ a (λ a. forcedᴱ b (λ b. F (a ⊗ b)))
forcedᴱ (⊝ a) F = forcedᴱ a (λ a. F (⊝ a))

abbrev pub forced : St → (St → Type 0) → Type 0
forced (a ≼ b) F = forcedᴱ a (λ a. forcedᴱ b (λ b. F (a ≼ b)))
forced (a ≺ b) F = forcedᴱ a (λ a. forcedᴱ b (λ b. F (a ≺ b)))
forced (a ≐ b) F = forcedᴱ a (λ a. forcedᴱ b (λ b. F (a ≐ b)))
forced (s ⟹ t) F = forced s (λ s. forced t (λ t. F (s ⟹ t)))
forced (s & t) F = forced s (λ s. forced t (λ t. F (s & t)))
forced bot F = F bot

freeℕ : (n : ℕ) (F : ℕ → Type 0) → forcedℕ n F → F n
freeℕ zero F x = x
freeℕ (suc n) F x = x

freeᴱ : (e : E) (F : E → Type 0) → forcedᴱ e F → F e
freeᴱ (var i) F x = freeℕ i (λ i. F (var i)) x
freeᴱ (lit (pos n)) F x = freeℕ n (λ n. F (lit (pos n))) x
freeᴱ (lit (negsuc n)) F x = freeℕ n (λ n. F (lit (negsuc n))) x
freeᴱ (a ⊕ b) F x = freeᴱ b (λ b. F (a ⊕ b)) (freeᴱ a (λ a. forcedᴱ b (λ b. F (a ⊕ b))) x)
freeᴱ (a ⊖ b) F x = freeᴱ b (λ b. F (a ⊖ b)) (freeᴱ a (λ a. forcedᴱ b (λ b. F (a ⊖ b))) x)
freeᴱ (a ⊗ b) F x = freeᴱ b (λ b. F (a ⊗ b)) (freeᴱ a (λ a. forcedᴱ b (λ b. F (a ⊗ b))) x)
freeᴱ (⊝ a) F x = freeᴱ a (λ a. F (⊝ a)) x

free : (s : St) (F : St → Type 0) → forced s F → F s
free (a ≼ b) F x = freeᴱ b (λ b. F (a ≼ b)) (freeᴱ a (λ a. forcedᴱ b (λ b. F (a ≼ b))) x)
free (a ≺ b) F x = freeᴱ b (λ b. F (a ≺ b)) (freeᴱ a (λ a. forcedᴱ b (λ b. F (a ≺ b))) x)
free (a ≐ b) F x = freeᴱ b (λ b. F (a ≐ b)) (freeᴱ a (λ a. forcedᴱ b (λ b. F (a ≐ b))) x)
free (s ⟹ t) F x = free t (λ t. F (s ⟹ t)) (free s (λ s. forced t (λ t. F (s ⟹ t))) x)
free (s & t) F x = free t (λ t. F (s & t)) (free s (λ s. forced t (λ t. F (s & t))) x)
free bot F x = x

abbrev pub Asked : ℕ → St → Type 0
Asked n s = forcedℕ n (λ n. forced s (λ s. Asks n s))

pub freed : (n : ℕ) (s : St) → Asked n s → Asks n s
freed n s x = free s (Asks n) (freeℕ n (λ n. forced s (λ s. Asks n s)) x)

-- ---- the solver

-- how many numbers p points and n numbers are
abbrev pub count : ℕ → ℕ → ℕ
count zero n = n
count (suc p) n = suc (suc (count p n))

-- what holds of every list of that length
alls' : (n : ℕ) (B : List ℤ → Type 0) (L : ℕ → Type 0) → ((ρ : List ℤ) → L (len ρ) → B ρ) → L n → Alls n B
alls' zero B L f c = f [] c
alls' (suc n) B L f c = λ x. alls' n (λ ρ. B (x ∷ ρ)) (λ k. L (suc k)) (λ ρ. f (x ∷ ρ)) c

all' : (p n : ℕ) (B : List ℤ → Type 0) (L : ℕ → Type 0) → ((ρ : List ℤ) → L (len ρ) → B ρ) → L (count p n) → All p n B
all' zero n B L f c = alls' n B L f c
all' (suc p) n B L f c = λ a. all' p n (λ ρ. B (a.0 ∷ a.1 ∷ ρ)) (λ k. L (suc (suc k))) (λ ρ. f (a.0 ∷ a.1 ∷ ρ)) c

pub lin : (p n : ℕ) (f : Fun p n St) → Asked (count p n) (bind p n 0 f) → All p n (Holds (bind p n 0 f))
lin p n f c =
    let s = bind p n 0 f in
    all' p n (Holds s) (λ k. Asks k s) (asked s) (freed (count p n) s c)

pub by_lin : {p n : ℕ} {f : Fun p n St} → Asked (count p n) (bind p n 0 f) → Thm p n f
by_lin {p} {n} {f} c = record { at = lin p n f c }
