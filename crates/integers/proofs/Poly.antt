-- `poly`: orders between polynomials, found by `omega`. Each side is brought to its normal form (module Ring), each monomial counts as one unknown
-- integer, and `omega arith` looks for the linear combination of the hypotheses that proves the goal. Unlike `cert` it needs no certificate:
--     poly 4 0 (λ a b c d. signedAreaᴱ a b d ≼ # 0 ⟹ signedAreaᴱ b c d ≼ # 0 ⟹ signedAreaᴱ c a d ≼ # 0 ⟹ signedAreaᴱ a b c ≼ # 0 from []) tt (omega arith)
-- The list after `from` names products to take besides, as certificates of Cert: `hyp 0 ⊠ hyp 2 ∷ sq a ∷ []`. The goal's negation is a hypothesis too,
-- after the others, so a factor of the goal is cancelled by a product with it. `omega` takes about 60 monomials.
-- Assumes nothing.
use mathlib.Core.Path.{◌≡◌, refl, sym, ◌∙◌, ap, ap₂, subst}
use mathlib.Core.Bool.{Bool, true, false, ◌&&◌}
use mathlib.Core.List.{List, [], ◌∷◌}
use Prim.Native.Nat.{ℕ, zero, suc}
use native.Mathlib.Omega.{arith}
use lib.Dec.{T, eqb}
use lib.IntN.{ℤ, pos, ◌+ℤ◌, ◌*ℤ◌, ◌-ℤ◌, neg_ℤ}
use lib.Signed.{◌≤ℤ◌, ◌<ℤ◌}
use Rattle.integers.proofs.Expr.{E, var, lit, ◌⊕◌, ◌⊖◌, ◌⊗◌, ⊝◌, #◌, nth, den, St, ◌≼◌, ◌≺◌, ◌≐◌, ◌⟹◌, ◌&◌, bot, Holds, Fun, bind, All, all}
use Rattle.integers.proofs.Lin.{lin, len, Asks, Asked, asked, freed}
use Rattle.integers.proofs.Ring.{P, norm, is_zero, mons, Left-over, ev_null}
use Rattle.integers.proofs.Order.{not-≤, not-<, ≤→nn, nn→≤, <→pos, pos→<}
use Rattle.integers.proofs.Cert.{C, hyp, ◌⊠◌, val, more, hyps, Hold, none, also, val_nn, val_pos}

-- ---- the monomials of a statement, as its variables in falling order

abbrev pub Mono : Type 0
Mono = List ℕ

abbrev pub eq_m : Mono → Mono → Bool
eq_m [] [] = true
eq_m [] (j ∷ n) = false
eq_m (i ∷ m) [] = false
eq_m (i ∷ m) (j ∷ n) = eqb i j && eq_m m n

-- M with m, where it is not there yet
abbrev pub enter : Mono → List Mono → List Mono
enter m [] = m ∷ []
enter m (n ∷ M) = elim (eq_m m n) [ true ↦ n ∷ M | false ↦ n ∷ enter m M ]

-- with those of some terms, but for the constant's
abbrev pub enters : List (ℤ × Mono) → List Mono → List Mono
enters [] M = M
enters (t ∷ ts) M = enter1 t.1 (enters ts M)
  where
    enter1 : Mono → List Mono → List Mono
    enter1 [] M = M
    enter1 (i ∷ m) M = enter (i ∷ m) M

abbrev pub terms : E → List (ℤ × Mono)
terms e = mons (norm e) 0 [] []

abbrev pub gather : St → List Mono → List Mono
gather (a ≼ b) M = enters (terms (b ⊖ a)) M
gather (a ≺ b) M = enters (terms (b ⊖ a)) M
gather (a ≐ b) M = enters (terms (b ⊖ a)) M
gather (s ⟹ t) M = gather s (gather t M)
gather (s & t) M = gather s (gather t M)
gather bot M = M

-- ---- the statement over the monomials as unknowns

abbrev pub place : List Mono → Mono → ℕ
place [] m = zero
place (n ∷ M) m = elim (eq_m m n) [ true ↦ zero | false ↦ suc (place M m) ]

abbrev pub times : ℤ → List Mono → Mono → E
times k M [] = lit k
times k M (i ∷ m) = lit k ⊗ var (place M (i ∷ m))

abbrev pub total : List Mono → List (ℤ × Mono) → E
total M [] = # 0
total M (t ∷ ts) = times t.0 M t.1 ⊕ total M ts

abbrev pub lower : List Mono → St → St
lower M (a ≼ b) = # 0 ≼ total M (terms (b ⊖ a))
lower M (a ≺ b) = # 0 ≺ total M (terms (b ⊖ a))
lower M (a ≐ b) = # 0 ≐ total M (terms (b ⊖ a))
lower M (s ⟹ t) = lower M s ⟹ lower M t
lower M (s & t) = lower M s & lower M t
lower M bot = bot

-- ---- the two say the same. That is not proved for all statements but checked at each, by `ring`: the check computes to K where it passes

abbrev pub mono_e : Mono → E
mono_e [] = # 1
mono_e (i ∷ m) = var i ⊗ mono_e m

abbrev pub look : List Mono → ℕ → E
look [] i = # 0
look (m ∷ M) zero = mono_e m
look (m ∷ M) (suc i) = look M i

abbrev pub plug : List Mono → E → E
plug M (var i) = look M i
plug M (lit k) = lit k
plug M (a ⊕ b) = plug M a ⊕ plug M b
plug M (a ⊖ b) = plug M a ⊖ plug M b
plug M (a ⊗ b) = plug M a ⊗ plug M b
plug M (⊝ a) = ⊝ plug M a

abbrev pub check' : Bool → P → Type 0 → Type 0
check' true p K = K
check' false p K = Left-over (mons p 0 [] [])

abbrev pub off : List Mono → E → E → P
off M a b = norm ((b ⊖ a) ⊖ plug M (total M (terms (b ⊖ a))))

abbrev pub Agree : List Mono → St → Type 0 → Type 0
Agree M (a ≼ b) K = check' (is_zero (off M a b)) (off M a b) K
Agree M (a ≺ b) K = check' (is_zero (off M a b)) (off M a b) K
Agree M (a ≐ b) K = check' (is_zero (off M a b)) (off M a b) K
Agree M (s ⟹ t) K = Agree M s (Agree M t K)
Agree M (s & t) K = Agree M s (Agree M t K)
Agree M bot K = K

-- the monomials' values
abbrev vals : List Mono → List ℤ → List ℤ
vals [] ρ = []
vals (m ∷ M) ρ = den (mono_e m) ρ ∷ vals M ρ

look_is : (M : List Mono) (ρ : List ℤ) (i : ℕ) → den (look M i) ρ ≡ nth (vals M ρ) i
look_is [] ρ i = refl
look_is (m ∷ M) ρ zero = refl
look_is (m ∷ M) ρ (suc i) = look_is M ρ i

plug_is : (M : List Mono) (e : E) (ρ : List ℤ) → den (plug M e) ρ ≡ den e (vals M ρ)
plug_is M (var i) ρ = look_is M ρ i
plug_is M (lit k) ρ = refl
plug_is M (a ⊕ b) ρ = ap₂ ◌+ℤ◌ (plug_is M a ρ) (plug_is M b ρ)
plug_is M (a ⊖ b) ρ = ap₂ ◌-ℤ◌ (plug_is M a ρ) (plug_is M b ρ)
plug_is M (a ⊗ b) ρ = ap₂ ◌*ℤ◌ (plug_is M a ρ) (plug_is M b ρ)
plug_is M (⊝ a) ρ = ap neg_ℤ (plug_is M a ρ)

passed : (b : Bool) (p : P) (K : Type 0) → check' b p K → T b × K
passed true p K k = (tt, k)
passed false p K k = elim k [ ]

-- b − a, over the monomials
same : (M : List Mono) (a b : E) (ρ : List ℤ) → T (is_zero (off M a b)) → den b ρ -ℤ den a ρ ≡ den (total M (terms (b ⊖ a))) (vals M ρ)
same M a b ρ t =
    lin 0 2 (λ x y. x ⊖ y ≐ # 0 ⟹ x ≐ y) (omega arith) _ _ (ev_null ((b ⊖ a) ⊖ plug M (total M (terms (b ⊖ a)))) ρ t)
    ∙ plug_is M (total M (terms (b ⊖ a))) ρ

-- both ways, and what stands behind the check
pub record Both (A B : Type 0) (K : Type 0) : Type 0 where
  pub there : A → B
  pub back : B → A
  pub rest : K

agree : (M : List Mono) (s : St) (ρ : List ℤ) (K : Type 0) → Agree M s K → Both (Holds s ρ) (Holds (lower M s) (vals M ρ)) K
agree M (a ≼ b) ρ K k =
    let r = passed (is_zero (off M a b)) (off M a b) K k in
    let e = same M a b ρ r.0 in
    record { there = λ h. subst (λ x. pos 0 ≤ℤ x) e (≤→nn h); back = λ h. nn→≤ (subst (λ x. pos 0 ≤ℤ x) (sym e) h); rest = r.1 }
agree M (a ≺ b) ρ K k =
    let r = passed (is_zero (off M a b)) (off M a b) K k in
    let e = same M a b ρ r.0 in
    record { there = λ h. subst (λ x. pos 0 <ℤ x) e (<→pos h); back = λ h. pos→< (subst (λ x. pos 0 <ℤ x) (sym e) h); rest = r.1 }
agree M (a ≐ b) ρ K k =
    let r = passed (is_zero (off M a b)) (off M a b) K k in
    let e = same M a b ρ r.0 in
    record {
      there = λ h. lin 0 2 (λ x y. x ≐ y ⟹ # 0 ≐ y ⊖ x) (omega arith) _ _ h ∙ e;
      back = λ h. lin 0 2 (λ x y. # 0 ≐ y ⊖ x ⟹ x ≐ y) (omega arith) _ _ (h ∙ sym e);
      rest = r.1;
    }
agree M (s ⟹ t) ρ K k =
    let r = agree M s ρ (Agree M t K) k in
    let q = agree M t ρ K r.rest in
    record { there = λ f h. q.there (f (r.back h)); back = λ f h. q.back (f (r.there h)); rest = q.rest }
agree M (s & t) ρ K k =
    let r = agree M s ρ (Agree M t K) k in
    let q = agree M t ρ K r.rest in
    record { there = λ h. (r.there h.0, q.there h.1); back = λ h. (r.back h.0, q.back h.1); rest = q.rest }
agree M bot ρ K k = record { there = λ h. h; back = λ h. h; rest = k }

-- ---- the goal's negation as a hypothesis, and the products named

abbrev pub refuted : St → St
refuted (a ≼ b) = b ≺ a ⟹ bot
refuted (a ≺ b) = b ≼ a ⟹ bot
refuted (a ≐ b) = a ≐ b
refuted (s ⟹ t) = s ⟹ refuted t
refuted (s & t) = s & t
refuted bot = bot

unrefuted : (s : St) (ρ : List ℤ) → Holds (refuted s) ρ → Holds s ρ
unrefuted (a ≼ b) ρ h = not-< h
unrefuted (a ≺ b) ρ h = not-≤ h
unrefuted (a ≐ b) ρ h = h
unrefuted (s ⟹ t) ρ h = λ x. unrefuted t ρ (h x)
unrefuted (s & t) ρ h = h
unrefuted bot ρ h = h

abbrev pub sign : Bool → E → St
sign true e = # 0 ≺ e
sign false e = # 0 ≼ e

abbrev pub hints : List St → List C → St → St
hints H [] g = g
hints H (c ∷ cs) g = sign (more H c) (val H c) ⟹ hints H cs g

abbrev pub hinted : List St → List C → St → St
hinted H cs (a ≼ b) = hints H cs (a ≼ b)
hinted H cs (a ≺ b) = hints H cs (a ≺ b)
hinted H cs (a ≐ b) = hints H cs (a ≐ b)
hinted H cs (s ⟹ t) = s ⟹ hinted H cs t
hinted H cs (s & t) = hints H cs (s & t)
hinted H cs bot = hints H cs bot

sign_is : (b : Bool) (e : E) (ρ : List ℤ) → (T b → pos 0 <ℤ den e ρ) → pos 0 ≤ℤ den e ρ → Holds (sign b e) ρ
sign_is true e ρ f g = f tt
sign_is false e ρ f g = g

unhints : (ρ : List ℤ) (H : List St) (cs : List C) (g : St) → Hold ρ H → Holds (hints H cs g) ρ → Holds g ρ
unhints ρ H [] g hs h = h
unhints ρ H (c ∷ cs) g hs h = unhints ρ H cs g hs (h (sign_is (more H c) (val H c) ρ (val_pos ρ H hs c) (val_nn ρ H hs c)))

unhinted : (ρ : List ℤ) (H : List St) (cs : List C) (s : St) → (Hold ρ (hyps s) → Hold ρ H) → Holds (hinted H cs s) ρ → Holds s ρ
unhinted ρ H cs (a ≼ b) r h = unhints ρ H cs (a ≼ b) (r none) h
unhinted ρ H cs (a ≺ b) r h = unhints ρ H cs (a ≺ b) (r none) h
unhinted ρ H cs (a ≐ b) r h = unhints ρ H cs (a ≐ b) (r none) h
unhinted ρ H cs (s ⟹ t) r h = λ x. unhinted ρ H cs t (λ hs. r (also x hs)) (h x)
unhinted ρ H cs (s & t) r h = unhints ρ H cs (s & t) (r none) h
unhinted ρ H cs bot r h = unhints ρ H cs bot (r none) h

-- every product of a hypothesis of one list, by its number, and one of the other, for `from`: `mixed (0 ∷ 1 ∷ []) (2 ∷ 3 ∷ [])`
abbrev pub mixed : List ℕ → List ℕ → List C
mixed [] js = []
mixed (i ∷ is) js = row js (mixed is js)
  where
    row : List ℕ → List C → List C
    row [] cs = cs
    row (j ∷ js) cs = hyp i ⊠ hyp j ∷ row js cs

-- ---- the solver

infix 2 ◌from◌
pub data Hinted : Type 0 where
  ◌from◌ : St → List C → Hinted

abbrev pub stated : Hinted → St
stated (s from cs) = s

abbrev pub worked : Hinted → St
worked (s from cs) = hinted (hyps (refuted s)) cs (refuted s)

abbrev pub table : Hinted → List Mono
table h = gather (worked h) []

unworked : (h : Hinted) (ρ : List ℤ) → Holds (worked h) ρ → Holds (stated h) ρ
unworked (s from cs) ρ x = unrefuted s ρ (unhinted ρ (hyps (refuted s)) cs (refuted s) (λ hs. hs) x)

abbrev pub size : List Mono → ℕ
size [] = zero
size (m ∷ M) = suc (size M)

size_is : (M : List Mono) (ρ : List ℤ) → size M ≡ len (vals M ρ)
size_is [] ρ = refl
size_is (m ∷ M) ρ = ap suc (size_is M ρ)

solve : (h : Hinted) (ρ : List ℤ) → Agree (table h) (worked h) (Unit {0}) → Asks (size (table h)) (lower (table h) (worked h)) → Holds (stated h) ρ
solve h ρ k c =
    unworked h ρ
    ((agree (table h) (worked h) ρ (Unit {0}) k).back
    (asked (lower (table h) (worked h)) (vals (table h) ρ)
    (subst (λ m. Asks m (lower (table h) (worked h))) (size_is (table h) ρ) c)))

pub poly : (p n : ℕ) (f : Fun p n Hinted) → Agree (table (bind p n 0 f)) (worked (bind p n 0 f)) (Unit {0})
    → Asked (size (table (bind p n 0 f))) (lower (table (bind p n 0 f)) (worked (bind p n 0 f))) → All p n (Holds (stated (bind p n 0 f)))
poly p n f k c =
    let h = bind p n 0 f in
    all p n (Holds (stated h)) (λ ρ. solve h ρ k (freed (size (table h)) (lower (table h) (worked h)) c))
