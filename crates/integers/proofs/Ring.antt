-- `ring`: an identity of integers, by computing. Both sides are brought to a normal form, and the check is that their difference is 0:
--     ring 0 2 (λ a b. (a ⊕ b) ⊗ (a ⊖ b) ≐ a ⊗ a ⊖ b ⊗ b) tt : (a b : ℤ) → (a +ℤ b) *ℤ (a -ℤ b) ≡ a *ℤ a -ℤ b *ℤ b
-- The first number is how many points are bound, and the second how many numbers.
-- The normal form is sparse Horner's: `p ▷ q` is p + x · q, with x the first variable, p over the other variables and q over all.
-- So a sum compares no monomials. Assumes nothing.
use mathlib.Core.Path.{◌≡◌, refl, sym, ◌∙◌, ap, ap₂}
use mathlib.Core.Bool.{Bool, true, false, ◌&&◌}
use mathlib.Core.List.{List, [], ◌∷◌}
use Prim.Native.Nat.{ℕ, zero, suc}
use native.Mathlib.Omega.{arith}
use lib.Dec.{T}
use lib.IntN.{ℤ, pos, negsuc, ◌+ℤ◌, ◌*ℤ◌, ◌-ℤ◌, neg_ℤ, +ℤ_assoc, +ℤ_comm}
use mir.Facts.{and_yes}
use Rattle.integers.proofs.Expr.{E, var, lit, ◌⊕◌, ◌⊖◌, ◌⊗◌, ⊝◌, #◌, nth, den, St, ◌≼◌, ◌≺◌, ◌≐◌, ◌⟹◌, ◌&◌, bot, Holds, Fun, bind, All, all, Thm}
use Rattle.integers.proofs.Lin.{lin}

-- ---- the normal form
infixr 5 ◌▷◌
pub data P : Type 0 where
  con : ℤ → P
  ◌▷◌ : P → P → P

abbrev pub ev : P → List ℤ → ℤ
ev (con k) ρ = k
ev (p ▷ q) [] = ev p []
ev (p ▷ q) (x ∷ ρ) = ev p ρ +ℤ x *ℤ ev q (x ∷ ρ)

abbrev pub isz : ℤ → Bool
isz (pos zero) = true
isz (pos (suc n)) = false
isz (negsuc n) = false

-- `p ▷ q`, where a constant beside a zero stays a constant
abbrev pub mk : P → P → P
mk (con a) (con (pos zero)) = con a
mk (con a) (con (pos (suc n))) = con a ▷ con (pos (suc n))
mk (con a) (con (negsuc n)) = con a ▷ con (negsuc n)
mk (con a) (q ▷ r) = con a ▷ (q ▷ r)
mk (p ▷ q) r = (p ▷ q) ▷ r

abbrev pub addc : ℤ → P → P
addc k (con a) = con (k +ℤ a)
addc k (p ▷ q) = addc k p ▷ q

abbrev pub add : P → P → P
add (con a) r = addc a r
add (p ▷ q) (con b) = addc b p ▷ q
add (p ▷ q) (p' ▷ q') = mk (add p p') (add q q')

abbrev pub scale : ℤ → P → P
scale k (con a) = con (k *ℤ a)
scale k (p ▷ q) = scale k p ▷ scale k q

abbrev pub mulc : ℤ → P → P
mulc (pos zero) r = con (pos zero)
mulc (pos (suc n)) r = scale (pos (suc n)) r
mulc (negsuc n) r = scale (negsuc n) r

-- f, a product by a polynomial in the other variables, at a polynomial in all of them
abbrev pub below : (P → P) → P → P
below f (con b) = mk (f (con b)) (con (pos zero))
below f (p ▷ q) = mk (f p) (below f q)

abbrev pub mul : P → P → P
mul (con a) r = mulc a r
mul (p ▷ q) r = add (below (mul p) r) (mk (con (pos zero)) (mul q r))

abbrev pub X : ℕ → P
X zero = con (pos zero) ▷ con (pos (suc zero))
X (suc i) = X i ▷ con (pos zero)

abbrev pub norm : E → P
norm (var i) = X i
norm (lit k) = con k
norm (a ⊕ b) = add (norm a) (norm b)
norm (a ⊖ b) = add (norm a) (scale (negsuc zero) (norm b))
norm (a ⊗ b) = mul (norm a) (norm b)
norm (⊝ a) = scale (negsuc zero) (norm a)

abbrev pub is_zero : P → Bool
is_zero (con k) = isz k
is_zero (p ▷ q) = is_zero p && is_zero q

-- ---- it is right. The identities of the integers that this needs are `lin`'s
a_swap : (a b c d x : ℤ) → (a +ℤ b) +ℤ x *ℤ (c +ℤ d) ≡ (a +ℤ x *ℤ c) +ℤ (b +ℤ x *ℤ d)
a_swap = lin 0 5 (λ a b c d x. (a ⊕ b) ⊕ x ⊗ (c ⊕ d) ≐ (a ⊕ x ⊗ c) ⊕ (b ⊕ x ⊗ d)) (omega arith)

a_scale : (k a b x : ℤ) → k *ℤ a +ℤ x *ℤ (k *ℤ b) ≡ k *ℤ (a +ℤ x *ℤ b)
a_scale = lin 0 4 (λ k a b x. k ⊗ a ⊕ x ⊗ (k ⊗ b) ≐ k ⊗ (a ⊕ x ⊗ b)) (omega arith)

a_zero : (a x : ℤ) → a +ℤ x *ℤ pos zero ≡ a
a_zero = lin 0 2 (λ a x. a ⊕ x ⊗ # 0 ≐ a) (omega arith)

a_mul : (a b c x : ℤ) → a *ℤ c +ℤ (pos zero +ℤ x *ℤ (b *ℤ c)) ≡ (a +ℤ x *ℤ b) *ℤ c
a_mul = lin 0 4 (λ a b c x. a ⊗ c ⊕ (# 0 ⊕ x ⊗ (b ⊗ c)) ≐ (a ⊕ x ⊗ b) ⊗ c) (omega arith)

a_mul0 : (a c : ℤ) → a *ℤ c +ℤ pos zero ≡ a *ℤ c
a_mul0 = lin 0 2 (λ a c. a ⊗ c ⊕ # 0 ≐ a ⊗ c) (omega arith)

a_one : (x : ℤ) → pos zero +ℤ x *ℤ pos (suc zero) ≡ x
a_one = lin 0 1 (λ x. # 0 ⊕ x ⊗ # 1 ≐ x) (omega arith)

a_neg : (x : ℤ) → negsuc zero *ℤ x ≡ neg_ℤ x
a_neg = lin 0 1 (λ x. lit (negsuc zero) ⊗ x ≐ ⊝ x) (omega arith)

a_null : (x : ℤ) → pos zero ≡ pos zero *ℤ x
a_null = lin 0 1 (λ x. # 0 ≐ # 0 ⊗ x) (omega arith)

a_diff : (a b : ℤ) → a -ℤ b ≡ pos zero → a ≡ b
a_diff = lin 0 2 (λ a b. a ⊖ b ≐ # 0 ⟹ a ≐ b) (omega arith)

-- ev of p ▷ q, at either environment
ev_mk : (p q : P) (ρ : List ℤ) → ev (mk p q) ρ ≡ ev (p ▷ q) ρ
ev_mk (con a) (con (pos zero)) [] = refl
ev_mk (con a) (con (pos zero)) (x ∷ ρ) = sym (a_zero a x)
ev_mk (con a) (con (pos (suc n))) ρ = refl
ev_mk (con a) (con (negsuc n)) ρ = refl
ev_mk (con a) (q ▷ r) ρ = refl
ev_mk (p ▷ q) r ρ = refl

ev_addc : (k : ℤ) (p : P) (ρ : List ℤ) → ev (addc k p) ρ ≡ k +ℤ ev p ρ
ev_addc k (con a) ρ = refl
ev_addc k (p ▷ q) [] = ev_addc k p []
ev_addc k (p ▷ q) (x ∷ ρ) = ap (λ t. t +ℤ x *ℤ ev q (x ∷ ρ)) (ev_addc k p ρ) ∙ +ℤ_assoc k (ev p ρ) (x *ℤ ev q (x ∷ ρ))

ev_add : (p q : P) (ρ : List ℤ) → ev (add p q) ρ ≡ ev p ρ +ℤ ev q ρ
ev_add (con a) r ρ = ev_addc a r ρ
ev_add (p ▷ q) (con b) ρ = ev_addc b (p ▷ q) ρ ∙ +ℤ_comm b (ev (p ▷ q) ρ)
ev_add (p ▷ q) (p' ▷ q') [] = ev_mk (add p p') (add q q') [] ∙ ev_add p p' []
ev_add (p ▷ q) (p' ▷ q') (x ∷ ρ) =
    ev_mk (add p p') (add q q') (x ∷ ρ)
    ∙ ap₂ (λ s t. s +ℤ x *ℤ t) (ev_add p p' ρ) (ev_add q q' (x ∷ ρ))
    ∙ a_swap (ev p ρ) (ev p' ρ) (ev q (x ∷ ρ)) (ev q' (x ∷ ρ)) x

ev_scale : (k : ℤ) (p : P) (ρ : List ℤ) → ev (scale k p) ρ ≡ k *ℤ ev p ρ
ev_scale k (con a) ρ = refl
ev_scale k (p ▷ q) [] = ev_scale k p []
ev_scale k (p ▷ q) (x ∷ ρ) =
    ap₂ (λ s t. s +ℤ x *ℤ t) (ev_scale k p ρ) (ev_scale k q (x ∷ ρ)) ∙ a_scale k (ev p ρ) (ev q (x ∷ ρ)) x

ev_mulc : (k : ℤ) (p : P) (ρ : List ℤ) → ev (mulc k p) ρ ≡ k *ℤ ev p ρ
ev_mulc (pos zero) r ρ = a_null (ev r ρ)
ev_mulc (pos (suc n)) r ρ = ev_scale (pos (suc n)) r ρ
ev_mulc (negsuc n) r ρ = ev_scale (negsuc n) r ρ

ev_below : (f : P → P) (u x : ℤ) (ρ : List ℤ) → ((r : P) → ev (f r) ρ ≡ u *ℤ ev r ρ) → (r : P) → ev (below f r) (x ∷ ρ) ≡ u *ℤ ev r (x ∷ ρ)
ev_below f u x ρ h (con b) = ev_mk (f (con b)) (con (pos zero)) (x ∷ ρ) ∙ a_zero (ev (f (con b)) ρ) x ∙ h (con b)
ev_below f u x ρ h (p ▷ q) =
    ev_mk (f p) (below f q) (x ∷ ρ)
    ∙ ap₂ (λ s t. s +ℤ x *ℤ t) (h p) (ev_below f u x ρ h q)
    ∙ a_scale u (ev p ρ) (ev q (x ∷ ρ)) x

ev_below0 : (f : P → P) (u : ℤ) → ((r : P) → ev (f r) [] ≡ u *ℤ ev r []) → (r : P) → ev (below f r) [] ≡ u *ℤ ev r []
ev_below0 f u h (con b) = ev_mk (f (con b)) (con (pos zero)) [] ∙ h (con b)
ev_below0 f u h (p ▷ q) = ev_mk (f p) (below f q) [] ∙ h p

ev_mul : (p q : P) (ρ : List ℤ) → ev (mul p q) ρ ≡ ev p ρ *ℤ ev q ρ
ev_mul (con a) r ρ = ev_mulc a r ρ
ev_mul (p ▷ q) r [] =
    ev_add (below (mul p) r) (mk (con (pos zero)) (mul q r)) []
    ∙ ap₂ ◌+ℤ◌ (ev_below0 (mul p) (ev p []) (λ s. ev_mul p s []) r) (ev_mk (con (pos zero)) (mul q r) [])
    ∙ a_mul0 (ev p []) (ev r [])
ev_mul (p ▷ q) r (x ∷ ρ) =
    ev_add (below (mul p) r) (mk (con (pos zero)) (mul q r)) (x ∷ ρ)
    ∙ ap₂ ◌+ℤ◌
    (ev_below (mul p) (ev p ρ) x ρ (λ s. ev_mul p s ρ) r)
    (ev_mk (con (pos zero)) (mul q r) (x ∷ ρ) ∙ ap (λ t. pos zero +ℤ x *ℤ t) (ev_mul q r (x ∷ ρ)))
    ∙ a_mul (ev p ρ) (ev q (x ∷ ρ)) (ev r (x ∷ ρ)) x

ev_X : (i : ℕ) (ρ : List ℤ) → ev (X i) ρ ≡ nth ρ i
ev_X zero [] = refl
ev_X zero (x ∷ ρ) = a_one x
ev_X (suc i) [] = ev_X i [] ∙ nth_nil i
  where
    nth_nil : (i : ℕ) → nth [] i ≡ pos zero
    nth_nil i = refl
ev_X (suc i) (x ∷ ρ) = a_zero (ev (X i) ρ) x ∙ ev_X i ρ

pub sound : (e : E) (ρ : List ℤ) → ev (norm e) ρ ≡ den e ρ
sound (var i) ρ = ev_X i ρ
sound (lit k) ρ = refl
sound (a ⊕ b) ρ = ev_add (norm a) (norm b) ρ ∙ ap₂ ◌+ℤ◌ (sound a ρ) (sound b ρ)
sound (a ⊖ b) ρ =
    ev_add (norm a) (scale (negsuc zero) (norm b)) ρ
    ∙ ap₂ ◌+ℤ◌ (sound a ρ) (ev_scale (negsuc zero) (norm b) ρ ∙ a_neg (ev (norm b) ρ) ∙ ap neg_ℤ (sound b ρ))
sound (a ⊗ b) ρ = ev_mul (norm a) (norm b) ρ ∙ ap₂ ◌*ℤ◌ (sound a ρ) (sound b ρ)
sound (⊝ a) ρ = ev_scale (negsuc zero) (norm a) ρ ∙ a_neg (ev (norm a) ρ) ∙ ap neg_ℤ (sound a ρ)

isz_is : (k : ℤ) → T (isz k) → k ≡ pos zero
isz_is (pos zero) t = refl
isz_is (pos (suc n)) t = absurd t
isz_is (negsuc n) t = absurd t

ev_zero : (p : P) (ρ : List ℤ) → T (is_zero p) → ev p ρ ≡ pos zero
ev_zero (con k) ρ t = isz_is k t
ev_zero (p ▷ q) [] t = ev_zero p [] (and_yes (is_zero p) (is_zero q) t).0
ev_zero (p ▷ q) (x ∷ ρ) t =
    ap₂ (λ u v. u +ℤ x *ℤ v) (ev_zero p ρ (and_yes (is_zero p) (is_zero q) t).0) (ev_zero q (x ∷ ρ) (and_yes (is_zero p) (is_zero q) t).1)
    ∙ a_zero (pos zero) x

-- ---- the check. It computes to `Unit`, whose proof is `tt`, where the expression is 0; else to an empty type that shows the monomials left over,
-- each with its coefficient and its variables by number (a point's are two), so that the refusal of `tt` prints them

abbrev pub keep : ℤ → List ℕ → List (ℤ × List ℕ) → List (ℤ × List ℕ)
keep (pos zero) m ms = ms
keep (pos (suc n)) m ms = (pos (suc n), m) ∷ ms
keep (negsuc n) m ms = (negsuc n, m) ∷ ms

-- those of p, whose first variable is i, times the monomial m, before ms
abbrev pub mons : P → ℕ → List ℕ → List (ℤ × List ℕ) → List (ℤ × List ℕ)
mons (con k) i m ms = keep k m ms
mons (p ▷ q) i m ms = mons p (suc i) m (mons q i (i ∷ m) ms)

pub data Left-over (ms : List (ℤ × List ℕ)) : Type 0 where

abbrev pub check : Bool → P → Type 0
check true p = Unit {0}
check false p = Left-over (mons p 0 [] [])

-- an expression is 0, whatever its variables
abbrev pub Null : E → Type 0
Null e = check (is_zero (norm e)) (norm e)

checked : (b : Bool) (p : P) → check b p → T b
checked true p t = tt
checked false p t = elim t [ ]

pub ev_null : (e : E) (ρ : List ℤ) → T (is_zero (norm e)) → den e ρ ≡ pos zero
ev_null e ρ t = sym (sound e ρ) ∙ ev_zero (norm e) ρ t

pub null_is : (e : E) (ρ : List ℤ) → Null e → den e ρ ≡ pos zero
null_is e ρ t = ev_null e ρ (checked (is_zero (norm e)) (norm e) t)

pub same_is : (a b : E) (ρ : List ℤ) → Null (a ⊖ b) → den a ρ ≡ den b ρ
same_is a b ρ t = a_diff (den a ρ) (den b ρ) (null_is (a ⊖ b) ρ t)

-- ---- the solver. Hypotheses are not looked at; a pair of equations is proved by `(tt, tt)`

pub data Not-an-equation : Type 0 where

abbrev pub Ok : St → Type 0
Ok (a ≐ b) = Null (a ⊖ b)
Ok (a ≼ b) = Not-an-equation
Ok (a ≺ b) = Not-an-equation
Ok (s ⟹ t) = Ok t
Ok (s & t) = Ok s × Ok t
Ok bot = Not-an-equation

ok : (s : St) (ρ : List ℤ) → Ok s → Holds s ρ
ok (a ≐ b) ρ t = same_is a b ρ t
ok (a ≼ b) ρ t = elim t [ ]
ok (a ≺ b) ρ t = elim t [ ]
ok (s ⟹ u) ρ t = λ h. ok u ρ t
ok (s & u) ρ t = (ok s ρ t.0, ok u ρ t.1)
ok bot ρ t = elim t [ ]

pub ring : (p n : ℕ) (f : Fun p n St) → Ok (bind p n 0 f) → All p n (Holds (bind p n 0 f))
ring p n f t = all p n (Holds (bind p n 0 f)) (λ ρ. ok (bind p n 0 f) ρ t)

pub by_ring : {p n : ℕ} {f : Fun p n St} → Ok (bind p n 0 f) → Thm p n f
by_ring {p} {n} {f} t = record { at = ring p n f t }
