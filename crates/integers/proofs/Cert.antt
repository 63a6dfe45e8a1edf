-- `cert`: an order, an equation or an absurdity, from a certificate. Where `lin` finds a proof by itself, but only of what is linear in the
-- monomials, `cert` is told how the hypotheses are to be multiplied and added, and only computes that it comes out:
--     cert 0 2 (λ a b. # 0 ≼ a ⟹ # 0 ≺ b ⟹ a ≼ a ⊗ b ∵ hyp 0 ⊠ less (hyp 1)) tt : (a b : ℤ) → pos 0 ≤ℤ a → pos 0 <ℤ b → a ≤ℤ (a *ℤ b)
-- In `s ∵ c` the statement s is h₀ ⟹ h₁ ⟹ … ⟹ goal, and the certificate c is a sum of products whose value is known to be at least 0:
--     hyp i     b − a, where hypothesis i is a ≼ b or a ≺ b (more than 0 for ≺) or a ≐ b
--     num n     the number n
--     sq e      e · e
--     c ⊞ d, c ⊠ d   the sum and the product
--     less c    c − 1, where c is more than 0
--     eqn i e   (b − a) · e for any e, where hypothesis i is a ≐ b: it is 0
-- For a goal a ≼ b the value must be b − a by `ring`; for a ≺ b too, and c more than 0; for a ≐ b too, with c made of `eqn`; for bot it must be 0, and c more than 0.
-- In `s ∵ c ÷ m` it must be m · (b − a), with m a certificate of more than 0: so a positive factor is cancelled.
-- Assumes nothing.
use mathlib.Core.Path.{◌≡◌, refl, sym, ◌∙◌, ap, ap₂, subst}
use mathlib.Core.Bool.{Bool, true, false, ◌&&◌, ◌||◌}
use mathlib.Core.Logic.{⊎_elim}
use mathlib.Core.List.{List, [], ◌∷◌}
use Prim.Native.Nat.{ℕ, zero, suc}
use native.Mathlib.Omega.{arith}
use lib.Dec.{T, lt→ltb}
use lib.IntN.{ℤ, pos, ◌+ℤ◌, ◌*ℤ◌, ◌-ℤ◌, *ℤ-zero}
use lib.Signed.{◌≤ℤ◌, ◌<ℤ◌, ≤ℤ_refl, <ℤ_irrefl}
use mir.Facts.{and_yes, or_yes}
use Rattle.integers.proofs.Expr.{E, ◌⊕◌, ◌⊖◌, ◌⊗◌, #◌, den, St, ◌≼◌, ◌≺◌, ◌≐◌, ◌⟹◌, ◌&◌, bot, Holds, Fun, bind, All, all}
use Rattle.integers.proofs.Lin.{lin}
use Rattle.integers.proofs.Ring.{Null, null_is, same_is}
use Rattle.integers.proofs.Order.{≤→nn, <→pos, <→≤, ≡→≤, add_nn, add_pos_nn, add_nn_pos, mul_nn, mul_pos, sq_nn, pos_nn, nn_of_mul, pos_of_mul, zero_of_mul, nn→≤, pos→<}

infixl 76 ◌⊞◌
infixl 77 ◌⊠◌
pub data C : Type 0 where
  hyp : ℕ → C
  num : ℕ → C
  sq : E → C
  ◌⊞◌ : C → C → C
  ◌⊠◌ : C → C → C
  less : C → C
  eqn : ℕ → E → C

infix 2 ◌∵◌ ◌∵◌÷◌
pub data Claim : Type 0 where
  ◌∵◌ : St → C → Claim
  ◌∵◌÷◌ : St → C → C → Claim

-- ---- a certificate's value, and what is known of it

abbrev pub pick : List St → ℕ → St
pick [] i = bot
pick (s ∷ H) zero = s
pick (s ∷ H) (suc i) = pick H i

abbrev pub gap : St → E
gap (a ≼ b) = b ⊖ a
gap (a ≺ b) = b ⊖ a
gap (a ≐ b) = b ⊖ a
gap (s ⟹ t) = # 0
gap (s & t) = # 0
gap bot = # 0

abbrev pub strict : St → Bool
strict (a ≼ b) = false
strict (a ≺ b) = true
strict (a ≐ b) = false
strict (s ⟹ t) = false
strict (s & t) = false
strict bot = false

-- b − a of an equation, and 0 of any other statement
abbrev pub gap₀ : St → E
gap₀ (a ≼ b) = # 0
gap₀ (a ≺ b) = # 0
gap₀ (a ≐ b) = b ⊖ a
gap₀ (s ⟹ t) = # 0
gap₀ (s & t) = # 0
gap₀ bot = # 0

-- c is more than 0
abbrev pub more : List St → C → Bool
more H (hyp i) = strict (pick H i)
more H (num zero) = false
more H (num (suc n)) = true
more H (sq e) = false
more H (c ⊞ d) = more H c || more H d
more H (c ⊠ d) = more H c && more H d
more H (less c) = false
more H (eqn i e) = false

-- c is 0
abbrev pub flat : C → Bool
flat (hyp i) = false
flat (num zero) = true
flat (num (suc n)) = false
flat (sq e) = false
flat (c ⊞ d) = flat c && flat d
flat (c ⊠ d) = flat c || flat d
flat (less c) = false
flat (eqn i e) = true

abbrev pub lessᴱ : Bool → E → E
lessᴱ true e = e ⊖ # 1
lessᴱ false e = # 0

abbrev pub val : List St → C → E
val H (hyp i) = gap (pick H i)
val H (num n) = # n
val H (sq e) = e ⊗ e
val H (c ⊞ d) = val H c ⊕ val H d
val H (c ⊠ d) = val H c ⊗ val H d
val H (less c) = lessᴱ (more H c) (val H c)
val H (eqn i e) = gap₀ (pick H i) ⊗ e

-- every hypothesis holds
pub data Hold (ρ : List ℤ) : List St → Type 0 where
  none : Hold ρ []
  also : {s : St} {H : List St} → Holds s ρ → Hold ρ H → Hold ρ (s ∷ H)

gap_nn : (s : St) (ρ : List ℤ) → Holds s ρ → pos 0 ≤ℤ den (gap s) ρ
gap_nn (a ≼ b) ρ h = ≤→nn h
gap_nn (a ≺ b) ρ h = ≤→nn (<→≤ h)
gap_nn (a ≐ b) ρ h = ≤→nn (≡→≤ h)
gap_nn (s ⟹ t) ρ h = ≤ℤ_refl _
gap_nn (s & t) ρ h = ≤ℤ_refl _
gap_nn bot ρ h = absurd h

gap_pos : (s : St) (ρ : List ℤ) → Holds s ρ → T (strict s) → pos 0 <ℤ den (gap s) ρ
gap_pos (a ≼ b) ρ h t = absurd t
gap_pos (a ≺ b) ρ h t = <→pos h
gap_pos (a ≐ b) ρ h t = absurd t
gap_pos (s ⟹ u) ρ h t = absurd t
gap_pos (s & u) ρ h t = absurd t
gap_pos bot ρ h t = absurd t

a_eqn : (a b c : ℤ) → a ≡ b → (b -ℤ a) *ℤ c ≡ pos 0
a_eqn a b c e = ap (λ t. (b -ℤ t) *ℤ c) e ∙ lin 0 2 (λ b c. (b ⊖ b) ⊗ c ≐ # 0) (omega arith) b c

a_null : (c : ℤ) → pos 0 *ℤ c ≡ pos 0
a_null = lin 0 1 (λ c. # 0 ⊗ c ≐ # 0) (omega arith)

gap₀-is : (s : St) (e : E) (ρ : List ℤ) → Holds s ρ → den (gap₀ s) ρ *ℤ den e ρ ≡ pos 0
gap₀-is (a ≼ b) e ρ h = a_null (den e ρ)
gap₀-is (a ≺ b) e ρ h = a_null (den e ρ)
gap₀-is (a ≐ b) e ρ h = a_eqn (den a ρ) (den b ρ) (den e ρ) h
gap₀-is (s ⟹ t) e ρ h = a_null (den e ρ)
gap₀-is (s & t) e ρ h = a_null (den e ρ)
gap₀-is bot e ρ h = a_null (den e ρ)

-- what holds of each hypothesis, and of `bot` where there is none, holds of the i-th
at : {ρ : List ℤ} {H : List St} (Q : St → Type 0) → Q bot → ((s : St) → Holds s ρ → Q s) → Hold ρ H → (i : ℕ) → Q (pick H i)
at Q z f none i = z
at Q z f (also {s = s} h hs) zero = f s h
at Q z f (also h hs) (suc i) = at Q z f hs i

less_nn : (b : Bool) (e : E) (ρ : List ℤ) → (T b → pos 0 <ℤ den e ρ) → pos 0 ≤ℤ den (lessᴱ b e) ρ
less_nn true e ρ f = lin 0 1 (λ a. # 0 ≺ a ⟹ # 0 ≼ a ⊖ # 1) (omega arith) (den e ρ) (f tt)
less_nn false e ρ f = ≤ℤ_refl _

num_pos : (n : ℕ) → pos 0 <ℤ pos (suc n)
num_pos n = record { lt = lt→ltb 0 (suc n) (omega arith) }

module _ (ρ : List ℤ) (H : List St) (hs : Hold ρ H) where
  mutual
    pub val_nn : (c : C) → pos 0 ≤ℤ den (val H c) ρ
    val_nn (hyp i) = at (λ s. pos 0 ≤ℤ den (gap s) ρ) (≤ℤ_refl _) (λ s h. gap_nn s ρ h) hs i
    val_nn (num n) = pos_nn n
    val_nn (sq e) = sq_nn (den e ρ)
    val_nn (c ⊞ d) = add_nn (val_nn c) (val_nn d)
    val_nn (c ⊠ d) = mul_nn (val_nn c) (val_nn d)
    val_nn (less c) = less_nn (more H c) (val H c) ρ (val_pos c)
    val_nn (eqn i e) = ≡→≤ (sym (at (λ s. den (gap₀ s) ρ *ℤ den e ρ ≡ pos 0) (a_null (den e ρ)) (λ s h. gap₀-is s e ρ h) hs i))

    pub val_pos : (c : C) → T (more H c) → pos 0 <ℤ den (val H c) ρ
    val_pos (hyp i) = at (λ s. T (strict s) → pos 0 <ℤ den (gap s) ρ) (λ t. absurd t) (λ s h. gap_pos s ρ h) hs i
    val_pos (num zero) = λ t. absurd t
    val_pos (num (suc n)) = λ t. num_pos n
    val_pos (sq e) = λ t. absurd t
    val_pos (c ⊞ d) = λ t. ⊎_elim (λ t. add_pos_nn (val_pos c t) (val_nn d)) (λ t. add_nn_pos (val_nn c) (val_pos d t)) (or_yes (more H c) (more H d) t)
    val_pos (c ⊠ d) = λ t. mul_pos (val_pos c (and_yes (more H c) (more H d) t).0) (val_pos d (and_yes (more H c) (more H d) t).1)
    val_pos (less c) = λ t. absurd t
    val_pos (eqn i e) = λ t. absurd t

  val_flat : (c : C) → T (flat c) → den (val H c) ρ ≡ pos 0
  val_flat (hyp i) t = absurd t
  val_flat (num zero) t = refl
  val_flat (num (suc n)) t = absurd t
  val_flat (sq e) t = absurd t
  val_flat (c ⊞ d) t = ap₂ ◌+ℤ◌ (val_flat c (and_yes (flat c) (flat d) t).0) (val_flat d (and_yes (flat c) (flat d) t).1)
  val_flat (c ⊠ d) t =
      ⊎_elim
      (λ u. ap (λ x. x *ℤ den (val H d) ρ) (val_flat c u) ∙ a_null (den (val H d) ρ))
      (λ u. ap (λ x. den (val H c) ρ *ℤ x) (val_flat d u) ∙ *ℤ-zero (den (val H c) ρ))
      (or_yes (flat c) (flat d) t)
  val_flat (less c) t = absurd t
  val_flat (eqn i e) t = at (λ s. den (gap₀ s) ρ *ℤ den e ρ ≡ pos 0) (a_null (den e ρ)) (λ s h. gap₀-is s e ρ h) hs i

-- ---- the check, and the solver

abbrev pub hyps : St → List St
hyps (a ≼ b) = []
hyps (a ≺ b) = []
hyps (a ≐ b) = []
hyps (s ⟹ t) = s ∷ hyps t
hyps (s & t) = []
hyps bot = []

-- what the check computes to where it fails, beside `Left-over` of Ring: so the refusal of `tt` says why
pub data Not-positive : Type 0 where

pub data Divisor-not-positive : Type 0 where

pub data Not-made-of-equations : Type 0 where

pub data Not-a-goal : Type 0 where

abbrev pub Then : Bool → Type 0 → Type 0 → Type 0
Then true X Y = Y
Then false X Y = X

then_l : (b : Bool) {X : Type 0} (Y : Type 0) → (X → ⊥) → Then b X Y → T b
then_l true Y f t = tt
then_l false Y f t = f t

then_r : (b : Bool) {X : Type 0} (Y : Type 0) → (X → ⊥) → Then b X Y → Y
then_r true Y f t = t
then_r false Y f t = absurd (f t)

-- the certificates c and m show the goal, under the hypotheses H
abbrev pub Shows : List St → C → C → St → Type 0
Shows H c m (a ≼ b) = Then (more H m) Divisor-not-positive (Null (val H m ⊗ (b ⊖ a) ⊖ val H c))
Shows H c m (a ≺ b) = Then (more H m) Divisor-not-positive (Then (more H c) Not-positive (Null (val H m ⊗ (b ⊖ a) ⊖ val H c)))
Shows H c m (a ≐ b) = Then (more H m) Divisor-not-positive (Then (flat c) Not-made-of-equations (Null (val H m ⊗ (b ⊖ a) ⊖ val H c)))
Shows H c m (s ⟹ t) = Shows H c m t
Shows H c m (s & t) = Not-a-goal
Shows H c m bot = Then (more H c) Not-positive (Null (val H c))

abbrev pub Valid : Claim → Type 0
Valid (s ∵ c) = Shows (hyps s) c (num 1) s
Valid (s ∵ c ÷ m) = Shows (hyps s) c m s

abbrev pub Says : Claim → List ℤ → Type 0
Says (s ∵ c) ρ = Holds s ρ
Says (s ∵ c ÷ m) ρ = Holds s ρ

-- one goal, where all the hypotheses hold
module _ (ρ : List ℤ) (H : List St) (hs : Hold ρ H) (c m : C) (a b : E) where
  -- the identity that `Null` checked
  abbrev Made : Type 0
  Made = Null (val H m ⊗ (b ⊖ a) ⊖ val H c)

  made : Made → den (val H m) ρ *ℤ den (b ⊖ a) ρ ≡ den (val H c) ρ
  made t = same_is (val H m ⊗ (b ⊖ a)) (val H c) ρ t

  goal-≼ : T (more H m) → Made → den a ρ ≤ℤ den b ρ
  goal-≼ k t = nn→≤ (nn_of_mul (den (b ⊖ a) ρ) (val_pos ρ H hs m k) (subst (λ x. pos 0 ≤ℤ x) (sym (made t)) (val_nn ρ H hs c)))

  goal-≺ : T (more H m) → T (more H c) → Made → den a ρ <ℤ den b ρ
  goal-≺ k l t = pos→< (pos_of_mul (den (b ⊖ a) ρ) (val_pos ρ H hs m k) (subst (λ x. pos 0 <ℤ x) (sym (made t)) (val_pos ρ H hs c l)))

  goal-≐ : T (more H m) → T (flat c) → Made → den a ρ ≡ den b ρ
  goal-≐ k l t = a_diff (den a ρ) (den b ρ) (zero_of_mul (den (b ⊖ a) ρ) (val_pos ρ H hs m k) (made t ∙ val_flat ρ H hs c l))
    where
      a_diff : (a b : ℤ) → b -ℤ a ≡ pos 0 → a ≡ b
      a_diff = lin 0 2 (λ a b. b ⊖ a ≐ # 0 ⟹ a ≐ b) (omega arith)

shown : (ρ : List ℤ) (H : List St) (c m : C) (s : St) → Shows H c m s → (Hold ρ (hyps s) → Hold ρ H) → Holds s ρ
shown ρ H c m (a ≼ b) t r = goal-≼ ρ H (r none) c m a b (then_l (more H m) _ (λ x. elim x [ ]) t) (then_r (more H m) _ (λ x. elim x [ ]) t)
shown ρ H c m (a ≺ b) t r =
    let t' = then_r (more H m) _ (λ x. elim x [ ]) t in
    goal-≺ ρ H (r none) c m a b (then_l (more H m) _ (λ x. elim x [ ]) t) (then_l (more H c) _ (λ x. elim x [ ]) t') (then_r (more H c) _ (λ x. elim x [ ]) t')
shown ρ H c m (a ≐ b) t r =
    let t' = then_r (more H m) _ (λ x. elim x [ ]) t in
    goal-≐ ρ H (r none) c m a b (then_l (more H m) _ (λ x. elim x [ ]) t) (then_l (flat c) _ (λ x. elim x [ ]) t') (then_r (flat c) _ (λ x. elim x [ ]) t')
shown ρ H c m (s ⟹ u) t r = λ h. shown ρ H c m u t (λ hs. r (also h hs))
shown ρ H c m (s & u) t r = elim t [ ]
shown ρ H c m bot t r =
    <ℤ_irrefl (subst (λ x. pos 0 <ℤ x) (null_is (val H c) ρ (then_r (more H c) _ (λ x. elim x [ ]) t)) (val_pos ρ H (r none) c (then_l (more H c) _ (λ x. elim x [ ]) t)))

says : (k : Claim) (ρ : List ℤ) → Valid k → Says k ρ
says (s ∵ c) ρ t = shown ρ (hyps s) c (num 1) s t (λ hs. hs)
says (s ∵ c ÷ m) ρ t = shown ρ (hyps s) c m s t (λ hs. hs)

pub cert : (p n : ℕ) (f : Fun p n Claim) → Valid (bind p n 0 f) → All p n (Says (bind p n 0 f))
cert p n f t = all p n (Says (bind p n 0 f)) (λ ρ. says (bind p n 0 f) ρ t)
