-- Every element of a list, and what stands in a list. Assumes nothing.
use Prim.Native.Nat.{ℕ, zero, suc, ◌<◌}
use mathlib.Core.Path.{◌≡◌, refl, sym, ap, subst}
use mathlib.Core.Logic.{◌⊎◌, inl, inr, ⊎_elim}
use mathlib.Core.List.{List, [], ◌∷◌, ◌++◌, map}
use native.Mathlib.Omega.{arith}
use lib.ListN.{length, get_or}
use Rattle.std.proofs.lemmas.List.{get_or-map}
use Rattle.plane.specs.Members.{All, none, ◌&◌, ◌∈◌, here, there}

pub first : {A : Type 0} {P : A → Type 0} {x : A} {l : List A} → All P (x ∷ l) → P x
first (h & k) = h

pub rest : {A : Type 0} {P : A → Type 0} {x : A} {l : List A} → All P (x ∷ l) → All P l
rest (h & k) = k

pub all_at : {A : Type 0} {P : A → Type 0} {x : A} {l : List A} → All P l → x ∈ l → P x
all_at {P = P} (h & k) (here e) = subst P (sym e) h
all_at (h & k) (there m) = all_at k m
all_at {A = A} {P = P} none x4 = elim x4 [ ]

pub all_of : {A : Type 0} {P : A → Type 0} (l : List A) → ((x : A) → x ∈ l → P x) → All P l
all_of [] f = none
all_of (y ∷ l) f = f y (here refl) & all_of l (λ x m. f x (there m))

pub all_imp : {A : Type 0} {P Q : A → Type 0} {l : List A} → ((x : A) → P x → Q x) → All P l → All Q l
all_imp f none = none
all_imp f (◌&◌ {x = x} h k) = f x h & all_imp f k

pub all_both : {A : Type 0} {P Q R : A → Type 0} {l : List A} → ((x : A) → P x → Q x → R x) → All P l → All Q l → All R l
all_both f none k = none
all_both f (◌&◌ {x = x} h hs) (k & ks) = f x h k & all_both f hs ks

pub all_map : {A B : Type 0} {P : B → Type 0} (f : A → B) {l : List A} → All (λ x. P (f x)) l → All P (map f l)
all_map f none = none
all_map f (h & k) = h & all_map f k

pub all_unmap : {A B : Type 0} {P : B → Type 0} (f : A → B) (l : List A) → All P (map f l) → All (λ x. P (f x)) l
all_unmap f [] h = none
all_unmap f (y ∷ l) (h & k) = h & all_unmap f l k

pub all_append : {A : Type 0} {P : A → Type 0} {l m : List A} → All P l → All P m → All P (l ++ m)
all_append none k = k
all_append (h & h') k = h & all_append h' k

pub all_left : {A : Type 0} {P : A → Type 0} (l m : List A) → All P (l ++ m) → All P l
all_left [] m h = none
all_left (y ∷ l) m (h & k) = h & all_left l m k

pub all_right : {A : Type 0} {P : A → Type 0} (l m : List A) → All P (l ++ m) → All P m
all_right [] m h = h
all_right (y ∷ l) m (h & k) = all_right l m k

-- every element has the one property, or some element has the other
pub all_or : {A : Type 0} {P Q : A → Type 0} (l : List A) → ((x : A) → x ∈ l → P x ⊎ Q x) → All P l ⊎ ((x : A) × (x ∈ l) × Q x)
all_or [] f = inl none
all_or {A} {P} {Q} (x ∷ l) f = go (f x (here refl)) (all_or l (λ y m. f y (there m)))
  where
    go : P x ⊎ Q x → All P l ⊎ ((y : A) × (y ∈ l) × Q y) → All P (x ∷ l) ⊎ ((y : A) × (y ∈ (x ∷ l)) × Q y)
    go (inl h) (inl k) = inl (h & k)
    go (inl h) (inr r) = inr (r.0, there r.1, r.2)
    go (inr h) k = inr (x, here refl, h)

pub in_map : {A B : Type 0} {x : A} {l : List A} (f : A → B) → x ∈ l → f x ∈ map f l
in_map f (here e) = here (ap f e)
in_map f (there m) = there (in_map f m)

-- an element of a mapped list, whatever stands for those past the end
pub map_at : {A B : Type 0} (f : A → B) (d : A) (e : B) (l : List A) (i : ℕ) → i < length l → get_or (map f l) i e ≡ f (get_or l i d)
map_at f d e l i h = get_or-map f l i d e h

-- in which of two lists
pub in_append : {A : Type 0} {x : A} (l m : List A) → x ∈ (l ++ m) → (x ∈ l) ⊎ (x ∈ m)
in_append [] m h = inr h
in_append (y ∷ l) m (here e) = inl (here e)
in_append (y ∷ l) m (there h) = ⊎_elim (λ k. inl (there k)) inr (in_append l m h)

-- in two lists, if in either
pub in_left : {A : Type 0} {x : A} (l m : List A) → x ∈ l → x ∈ (l ++ m)
in_left (y ∷ l) m (here e) = here e
in_left (y ∷ l) m (there h) = there (in_left l m h)
in_left {A = A} [] m x'' = elim x'' [ ]

pub in_right : {A : Type 0} {x : A} (l m : List A) → x ∈ m → x ∈ (l ++ m)
in_right [] m h = h
in_right (y ∷ l) m h = there (in_right l m h)

-- ---- by index, as loops over slices know a list

pub all_by_index : {A : Type 0} {P : A → Type 0} (d : A) (l : List A) → ((i : ℕ) → i < length l → P (get_or l i d)) → All P l
all_by_index d [] f = none
all_by_index d (x ∷ l) f = f 0 (omega arith) & all_by_index d l (λ i h. f (suc i) (omega arith))

pub index_of_all : {A : Type 0} {P : A → Type 0} (d : A) {l : List A} → All P l → (i : ℕ) → i < length l → P (get_or l i d)
index_of_all d none i h = absurd (omega arith)
index_of_all d (p & ps) zero h = p
index_of_all d (p & ps) (suc i) h = index_of_all d ps i (omega arith)

pub in_by_index : {A : Type 0} (d : A) (l : List A) (i : ℕ) → i < length l → get_or l i d ∈ l
in_by_index d [] i h = absurd (omega arith)
in_by_index d (x ∷ l) zero h = here refl
in_by_index d (x ∷ l) (suc i) h = there (in_by_index d l i (omega arith))

pub index_of_in : {A : Type 0} {x : A} (d : A) {l : List A} → x ∈ l → (i : ℕ) × (i < length l) × (x ≡ get_or l i d)
index_of_in d (here e) = (0, omega arith, e)
index_of_in d (there m) = let r = index_of_in d m in (suc r.0, omega (arith, r.1), r.2)
