-- Tests that compute, each with what it shows: for rounds that are written out in numbers, the proof of a word is then `tt`. Assumes nothing.
use mathlib.Core.Bool.{Bool, true, false, not, ◌&&◌, ◌||◌}
use mathlib.Core.Path.{◌≡◌, sym, subst, subst₂}
use mathlib.Core.List.{List, [], ◌∷◌, map}
use mathlib.Core.Logic.{◌⊎◌, inl, inr, ⊎_elim}
use mir.Facts.{and_yes, yes_and, or_yes}
use lib.Dec.{T, leb, ltb, leb→le, ltb→lt, T_not}
use lib.IntN.{ℤ, pos}
use lib.Signed.{◌<ℤ◌, le_z, lt_z, le_z_yes, lt_z_yes, ≤ℤ_refl}
use lib.ListN.{length}
use Rattle.integers.proofs.Order.{≤-antisym}
use Rattle.plane.specs.Points.{signed_area}
use Rattle.plane.specs.declared.Point.{Point}
use Rattle.plane.specs.Members.{All, none, ◌&◌, ◌∈◌, here, there}
use Rattle.plane.specs.Vectors.{from, along, total, weighted, Supported}
use Rattle.plane.specs.Polygons.{AllRight, Steps, Distinct, Polygon}
use Rattle.plane.proofs.Sides.{point_ext}
use Rattle.plane.proofs.Winding.{winding_within}
use Rattle.plane.proofs.PolygonFacts.{Turns, polygon}
use Rattle.rounds.specs.Boxes.{Ordered, corners_of, all_corners}
use Rattle.rounds.specs.declared.Box.{Box}
use Rattle.rounds.specs.Reasons.{FirstReason, corner_at, SecondReason}
use Rattle.rounds.specs.declared.Entry.{Entry}
use Rattle.rounds.specs.Words.{Means}
use Rattle.rounds.specs.declared.Word.TheVariants.{Inside, Outside, Undecided}
use Rattle.rounds.specs.declared.Corner.{Corner}
use Rattle.rounds.specs.declared.Corner.TheVariants.{SouthWest, SouthEast, NorthEast, NorthWest}
use Rattle.rounds.proofs.Corners.{inside_by_corners, outside_by_corners}
use Rattle.rounds.proofs.Words.{undecided_by}

-- ---- lists

abbrev pub allb : {A : Type 0} → (A → Bool) → List A → Bool
allb f [] = true
allb f (x ∷ l) = f x && allb f l

pub all_yes : {A : Type 0} {P : A → Type 0} (f : A → Bool) → ((x : A) → T (f x) → P x) → (l : List A) → T (allb f l) → All P l
all_yes f g [] t = none
all_yes f g (x ∷ l) t = g x (and_yes (f x) (allb f l) t).0 & all_yes f g l (and_yes (f x) (allb f l) t).1

abbrev pub same_z : ℤ → ℤ → Bool
same_z x y = le_z x y && le_z y x

same_z_yes : (x y : ℤ) → T (same_z x y) → x ≡ y
same_z_yes x y t = ≤-antisym (le_z_yes (and_yes (le_z x y) (le_z y x) t).0) (le_z_yes (and_yes (le_z x y) (le_z y x) t).1)

abbrev pub same : Point → Point → Bool
same p q = same_z p.east q.east && same_z p.north q.north

same_yes : (p q : Point) → T (same p q) → p ≡ q
same_yes p q t = point_ext (same_z_yes _ _ (and_yes (same_z p.east q.east) _ t).0) (same_z_yes _ _ (and_yes (same_z p.east q.east) _ t).1)

same_no : (p q : Point) → (p ≡ q) → T (same p q)
same_no p q e = subst (λ r. T (same p r)) e (yes_and (same_z p.east p.east) _ (refl_yes p.east) (refl_yes p.north))
  where
    refl_yes : (x : ℤ) → T (same_z x x)
    refl_yes x = yes_and (le_z x x) (le_z x x) (≤ℤ_refl x).le (≤ℤ_refl x).le

abbrev pub is_in : Point → List Point → Bool
is_in p [] = false
is_in p (q ∷ qs) = same p q || is_in p qs

is_in_yes : (p : Point) (qs : List Point) → T (is_in p qs) → p ∈ qs
is_in_yes p [] t = absurd t
is_in_yes p (q ∷ qs) t = ⊎_elim (λ s. here (same_yes p q s)) (λ s. there (is_in_yes p qs s)) (or_yes (same p q) (is_in p qs) t)

or_of : (b c : Bool) → T b ⊎ T c → T (b || c)
or_of true c h = tt
or_of false c h = ⊎_elim absurd (λ t. t) h

is_in_no : (p : Point) (qs : List Point) → p ∈ qs → T (is_in p qs)
is_in_no p (q ∷ qs) (here e) = or_of (same p q) (is_in p qs) (inl (same_no p q e))
is_in_no p (q ∷ qs) (there m) = or_of (same p q) (is_in p qs) (inr (is_in_no p qs m))
is_in_no p [] x' = elim x' [ ]

-- ---- listings

abbrev pub stepsb : (Point → Point → Bool) → Point → List Point → Bool
stepsb R f [] = true
stepsb R f (a ∷ []) = R a f
stepsb R f (a ∷ b ∷ vs) = R a b && stepsb R f (b ∷ vs)

steps_yes : (R : Point → Point → Bool) (S : Point → Point → Type 0) → ((a b : Point) → T (R a b) → S a b) → (f : Point) (vs : List Point) → T (stepsb R f vs) → Steps S f vs
steps_yes R S g f [] t = tt
steps_yes R S g f (a ∷ []) t = g a f t
steps_yes R S g f (a ∷ b ∷ vs) t = (g a b (and_yes (R a b) (stepsb R f (b ∷ vs)) t).0, steps_yes R S g f (b ∷ vs) (and_yes (R a b) (stepsb R f (b ∷ vs)) t).1)

-- the plug is strictly right of every side
abbrev pub windsb : Point → List Point → Bool
windsb p [] = false
windsb p (v ∷ vs) = stepsb (λ a b. lt_z (signed_area a b p) (pos 0)) v (v ∷ vs)

winds_not_supported : (p : Point) (vs qs : List Point) → T (windsb p vs && allb (λ v. is_in v qs) vs) → Supported (map (from 1 p) qs) → ⊥
winds_not_supported p [] qs t = absurd t
winds_not_supported p (v ∷ vs) qs t =
    winding_within p v vs qs
    (steps_yes (λ a b. lt_z (signed_area a b p) (pos 0)) (λ a b. signed_area a b p <ℤ pos 0) (λ a b s. lt_z_yes s) v (v ∷ vs) (and_yes (windsb p (v ∷ vs)) (allb (λ v. is_in v qs) (v ∷ vs)) t).0)
    (all_yes (λ v. is_in v qs) (λ v s. is_in_yes v qs s) (v ∷ vs) (and_yes (windsb p (v ∷ vs)) (allb (λ v. is_in v qs) (v ∷ vs)) t).1)

-- ---- words

abbrev pub insideb : List Box → Point → (Corner → List Point) → Corner → Bool
insideb bs p vs c = windsb p (vs c) && allb (λ v. is_in v (corners_of c bs)) (vs c)

-- a listing of each corner name's corners winds around the plug
pub inside_yes : (bs : List Box) (p : Point) (vs : Corner → List Point)
    → T (insideb bs p vs SouthWest) → T (insideb bs p vs SouthEast) → T (insideb bs p vs NorthEast) → T (insideb bs p vs NorthWest) → Means bs p Inside
inside_yes bs p vs sw se ne nw = inside_by_corners p (λ c. winds_not_supported p (vs c) (corners_of c bs) (at c))
  where
    at : (c : Corner) → T (insideb bs p vs c)
    at SouthWest = sw
    at SouthEast = se
    at NorthEast = ne
    at NorthWest = nw

-- the direction (a, b) has every corner strictly behind it
pub outside_yes : (bs : List Box) (p : Point) (a b : ℤ) → T (allb (λ v. lt_z (along a b v) (pos 0)) (map (from 1 p) (all_corners bs))) → Means bs p Outside
outside_yes bs p a b t = outside_by_corners p (record { a = a; b = b; behind = all_yes (λ v. lt_z (along a b v) (pos 0)) (λ v s. lt_z_yes s) (map (from 1 p) (all_corners bs)) t })

abbrev pub orderedb : Box → Bool
orderedb b = le_z b.west b.east && le_z b.south b.north

pub ordered_yes : (bs : List Box) → T (allb orderedb bs) → All Ordered bs
ordered_yes bs t =
    all_yes orderedb
    (λ b s. record { across = le_z_yes (and_yes (le_z b.west b.east) (le_z b.south b.north) s).0; upward = le_z_yes (and_yes (le_z b.west b.east) (le_z b.south b.north) s).1 })
    bs t

pub first_yes : (bs : List Box) (p : Point) (c : Corner) (a b : ℤ) → T (not (same_z a (pos 0) && same_z b (pos 0))) → T (allb (λ v. le_z (along a b v) (pos 0)) (map (from 1 p) (corners_of c bs))) → FirstReason bs p c a b
first_yes bs p c a b n t =
    record {
      nonzero = λ z. T_not (same_z a (pos 0) && same_z b (pos 0)) n (subst₂ (λ x y. T (same_z x (pos 0) && same_z y (pos 0))) (sym z.0) (sym z.1) tt);
      behind = all_yes (λ v. le_z (along a b v) (pos 0)) (λ v s. le_z_yes s) (map (from 1 p) (corners_of c bs)) t;
    }

pub second_yes : (bs : List Box) (p : Point) (es : List Entry) → T (allb (λ e. leb 1 e.number && leb e.number (length bs)) es) → T (ltb 0 (total (map (λ e. e.weight) es)))
    → T (same_z (weighted (λ v. v.east) (map (λ e. e.weight) es) (map (λ e. from 1 p (corner_at 1 bs e)) es)) (pos 0))
    → T (same_z (weighted (λ v. v.north) (map (λ e. e.weight) es) (map (λ e. from 1 p (corner_at 1 bs e)) es)) (pos 0)) → SecondReason bs p es
second_yes bs p es n w e f =
    record {
      named = all_yes (λ e. leb 1 e.number && leb e.number (length bs)) (λ e s. (
        leb→le 1 e.number (and_yes (leb 1 e.number) (leb e.number (length bs)) s).0,
        leb→le e.number (length bs) (and_yes (leb 1 e.number) (leb e.number (length bs)) s).1,
      )) es n;
      some_weight = ltb→lt 0 (total (map (λ e. e.weight) es)) w;
      east_sum = same_z_yes (weighted (λ v. v.east) (map (λ e. e.weight) es) (map (λ e. from 1 p (corner_at 1 bs e)) es)) (pos 0) e;
      north_sum = same_z_yes (weighted (λ v. v.north) (map (λ e. e.weight) es) (map (λ e. from 1 p (corner_at 1 bs e)) es)) (pos 0) f;
    }

-- a corner name and a direction serve the first driver, and the entries the second
pub undecided_yes : (bs : List Box) (p : Point) (c : Corner) (a b : ℤ) (es : List Entry) → T (allb orderedb bs)
    → T (not (same_z a (pos 0) && same_z b (pos 0))) → T (allb (λ v. le_z (along a b v) (pos 0)) (map (from 1 p) (corners_of c bs)))
    → T (allb (λ e. leb 1 e.number && leb e.number (length bs)) es) → T (ltb 0 (total (map (λ e. e.weight) es)))
    → T (same_z (weighted (λ v. v.east) (map (λ e. e.weight) es) (map (λ e. from 1 p (corner_at 1 bs e)) es)) (pos 0))
    → T (same_z (weighted (λ v. v.north) (map (λ e. e.weight) es) (map (λ e. from 1 p (corner_at 1 bs e)) es)) (pos 0)) → Means bs p Undecided
undecided_yes bs p c a b es o n t m w e f = undecided_by p (ordered_yes bs o) c a b es (first_yes bs p c a b n t) (second_yes bs p es m w e f)

-- ---- polygons

abbrev pub distinctb : List Point → Bool
distinctb [] = true
distinctb (p ∷ ps) = not (is_in p ps) && distinctb ps

distinct_yes : (ps : List Point) → T (distinctb ps) → Distinct ps
distinct_yes [] t = tt
distinct_yes (p ∷ ps) t = (λ m. T_not (is_in p ps) (and_yes (not (is_in p ps)) (distinctb ps) t).0 (is_in_no p ps m), distinct_yes ps (and_yes (not (is_in p ps)) (distinctb ps) t).1)

abbrev pub turnsb : Point → Point → List Point → Bool
turnsb f g [] = true
turnsb f g (a ∷ []) = lt_z (signed_area a f g) (pos 0)
turnsb f g (a ∷ b ∷ []) = lt_z (signed_area a b f) (pos 0) && turnsb f g (b ∷ [])
turnsb f g (a ∷ b ∷ c ∷ vs) = lt_z (signed_area a b c) (pos 0) && turnsb f g (b ∷ c ∷ vs)

turns_yes : (f g : Point) (vs : List Point) → T (turnsb f g vs) → Turns f g vs
turns_yes f g [] t = tt
turns_yes f g (a ∷ []) t = lt_z_yes t
turns_yes f g (a ∷ b ∷ []) t = (lt_z_yes (and_yes (lt_z (signed_area a b f) (pos 0)) (turnsb f g (b ∷ [])) t).0, turns_yes f g (b ∷ []) (and_yes (lt_z (signed_area a b f) (pos 0)) (turnsb f g (b ∷ [])) t).1)
turns_yes f g (a ∷ b ∷ c ∷ vs) t = (lt_z_yes (and_yes (lt_z (signed_area a b c) (pos 0)) (turnsb f g (b ∷ c ∷ vs)) t).0, turns_yes f g (b ∷ c ∷ vs) (and_yes (lt_z (signed_area a b c) (pos 0)) (turnsb f g (b ∷ c ∷ vs)) t).1)

-- every point is right of the side from a to b, or on it
abbrev pub sideb : List Point → Point → Point → Bool
sideb qs a b = allb (λ q. le_z (signed_area a b q) (pos 0)) qs

pub polygon_yes : (qs : List Point) (f a b : Point) (vs : List Point) → T (allb (λ v. is_in v qs) (f ∷ a ∷ b ∷ vs)) → T (distinctb (f ∷ a ∷ b ∷ vs))
    → T (stepsb (sideb qs) f (f ∷ a ∷ b ∷ vs)) → T (turnsb f a (f ∷ a ∷ b ∷ vs)) → Polygon qs (f ∷ a ∷ b ∷ vs)
polygon_yes qs f a b vs m d s t =
    polygon f a b vs
    (all_yes (λ v. is_in v qs) (λ v i. is_in_yes v qs i) (f ∷ a ∷ b ∷ vs) m)
    (distinct_yes (f ∷ a ∷ b ∷ vs) d)
    (steps_yes (sideb qs) (AllRight qs) (λ a b i. all_yes (λ q. le_z (signed_area a b q) (pos 0)) (λ q j. le_z_yes j) qs i) f (f ∷ a ∷ b ∷ vs) s)
    (turns_yes f a (f ∷ a ∷ b ∷ vs) t)
