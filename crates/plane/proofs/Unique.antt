-- A polygon's listing is one but for its start: two polygons of the same points that begin at the same vertex are equal. After a vertex l comes the one point that has all
-- others right of l → x, or on it, and is extreme: two such would be in line with l. Assumes nothing.
use Prim.Native.Nat.{◌≤◌}
use mathlib.Core.Path.{◌≡◌, refl, sym, ◌∙◌, ap, ap₂, subst}
use mathlib.Core.Logic.{◌⊎◌, inl, inr, ⊎_elim}
use mathlib.Core.List.{List, [], ◌∷◌, ◌++◌}
use native.Mathlib.Omega.{arith}
use lib.ListN.{length, length-append}
use lib.Signed.{◌≤ℤ◌, ◌<ℤ◌}
use Rattle.integers.proofs.Expr.{#◌, ◌≼◌, ◌≺◌, ◌≐◌, ◌⟹◌, bot}
use Rattle.integers.proofs.Lin.{lin}
use Rattle.std.proofs.lemmas.Int.{ints}
use Rattle.integers.proofs.Cert.{cert, hyp, ◌∵◌}
use Rattle.integers.proofs.Order.{≤-antisym}
use Rattle.plane.specs.declared.Point.{Point}
use Rattle.plane.specs.Members.{All, none, ◌&◌, ◌∈◌, here, there}
use Rattle.plane.specs.Polygons.{AllRight, Extreme, Distinct, Steps, Clockwise, Polygon}
use Rattle.plane.proofs.Twins.{signed_areaᴱ, pt}
use Rattle.plane.proofs.Lists.{first, rest, all_at, all_of, all_append, in_append}
use Rattle.plane.proofs.Sides.{point_ext}
use Rattle.plane.proofs.PolygonFacts.{same_point}
use Rattle.plane.proofs.Reading.{not_in_line}

same_next : {qs : List Point} {l x y : Point} → Extreme qs l → Extreme qs x → Extreme qs y → (l ≡ x → ⊥) → (l ≡ y → ⊥) → AllRight qs l x → AllRight qs l y → x ≡ y
same_next {l = l} {x = x} {y = y} xl xx xy nx ny hx hy = go (same_point x y)
  where
    go : Dec (x ≡ y) → x ≡ y
    go (yes e) = e
    go (no ne) =
        absurd (not_in_line l x y xl xx xy nx ne ny (≤-antisym (all_at hx xy.listed)
        (cert 3 0 (λ l x y. signed_areaᴱ l y x ≼ # 0 ⟹ # 0 ≼ signed_areaᴱ l x y ∵ hyp 0) tt (pt l) (pt x) (pt y) (all_at hy xx.listed))))

-- the listings go on alike after l, and come to f
go_on : {qs : List Point} {f : Point} (l : Point) (vs ws : List Point) → Extreme qs f → Extreme qs l → (l ≡ f → ⊥) → All (Extreme qs) vs → All (Extreme qs) ws
    → Distinct (l ∷ vs) → Distinct (l ∷ ws) → All (λ v. v ≡ f → ⊥) vs → All (λ v. v ≡ f → ⊥) ws → Steps (AllRight qs) f (l ∷ vs) → Steps (AllRight qs) f (l ∷ ws) → vs ≡ ws
go_on l [] [] xf xl lf xv xw dv dw nv nw sv sw = refl
go_on l [] (w ∷ ws) xf xl lf xv (xw & xs) dv dw nv (nw & ns) sv sw = absurd (nw (sym (same_next xl xf xw lf (λ e. dw.0 (here e)) sv sw.0)))
go_on l (v ∷ vs) [] xf xl lf (xv & xs) xw dv dw (nv & ns) nw sv sw = absurd (nv (same_next xl xv xf (λ e. dv.0 (here e)) lf sv.0 sw))
go_on {qs} {f} l (v ∷ vs) (w ∷ ws) xf xl lf (xv & xvs) (xw & xws) dv dw (nv & nvs) (nw & nws) sv sw =
    let e : v ≡ w = same_next xl xv xw (λ e. dv.0 (here e)) (λ e. dw.0 (here e)) sv.0 sw.0 in
    ap₂ (λ x y. x ∷ y) e
    (go_on v vs ws xf xv nv xvs xws dv.1 (subst (λ x. Distinct (x ∷ ws)) (sym e) dw.1) nvs nws sv.1 (subst (λ x. Steps (AllRight qs) f (x ∷ ws)) (sym e) sw.1))

-- ---- fewer than three

-- distinct points that are all among v and w, and none is v
at_most_two : (v w : Point) (ws : List Point) → Distinct (v ∷ ws) → All (λ x. x ∈ (v ∷ w ∷ [])) ws → (ws ≡ []) ⊎ (ws ≡ (w ∷ []))
at_most_two v w [] d h = inl refl
at_most_two v w (x ∷ []) d (here e & none) = absurd (d.0 (here (sym e)))
at_most_two v w (x ∷ []) d (there (here e) & none) = inr (ap (λ y. y ∷ []) e)
at_most_two v w (x ∷ y ∷ ws) d h = absurd (clash (all_at h (here refl)) (all_at h (there (here refl))))
  where
    clash : x ∈ (v ∷ w ∷ []) → y ∈ (v ∷ w ∷ []) → ⊥
    clash (here e) m = d.0 (here (sym e))
    clash (there (here e)) (here g) = d.0 (there (here (sym g)))
    clash (there (here e)) (there (here g)) = d.1.0 (here (e ∙ sym g))
    clash (there (there x12)) m = elim x12 [ ]
    clash (there (here e)) (there (there x14)) = elim x14 [ ]
at_most_two v w (x ∷ []) d (there (there x23) & _) = elim x23 [ ]

module _ {qs : List Point} (f : Point) where
  -- each vertex of one listing is a vertex of the other
  shared : (vs ws : List Point) → Polygon qs (f ∷ vs) → Polygon qs (f ∷ ws) → All (λ x. x ∈ (f ∷ vs)) ws
  shared vs ws P Q = all_of ws (λ x m. P.every_extreme x (all_at Q.only_extreme (there m)))

  few : (vs ws : List Point) → length vs ≤ 1 → Polygon qs (f ∷ vs) → Polygon qs (f ∷ ws) → vs ≡ ws
  few [] ws n P Q = none_more ws (shared [] ws P Q) Q.once_each
    where
      none_more : (ws : List Point) → All (λ x. x ∈ (f ∷ [])) ws → Distinct (f ∷ ws) → [] ≡ ws
      none_more [] h d = refl
      none_more (x ∷ ws) (here e & h) d = absurd (d.0 (here (sym e)))
      none_more (x ∷ ws) (there x12 & h) d = elim x12 [ ]
  few (v ∷ []) ws n P Q = go (at_most_two f v ws Q.once_each (shared (v ∷ []) ws P Q))
    where
      only_f : (x : Point) → x ∈ (f ∷ []) → f ≡ x
      only_f x (here e) = sym e
      only_f x (there x8) = elim x8 [ ]

      go : (ws ≡ []) ⊎ (ws ≡ (v ∷ [])) → (v ∷ []) ≡ ws
      go (inr e) = sym e
      go (inl e) = absurd (P.once_each.0 (here (only_f v (subst (λ l. v ∈ (f ∷ l)) e (Q.every_extreme v (first (rest P.only_extreme)))))))
  few (v ∷ w ∷ vs) ws n P Q = absurd (omega arith)

-- the same start, the same listing
pub polygon_unique : {qs : List Point} (f : Point) (vs ws : List Point) → Polygon qs (f ∷ vs) → Polygon qs (f ∷ ws) → vs ≡ ws
polygon_unique f [] ws P Q = few f [] ws (omega arith) P Q
polygon_unique f (v ∷ []) ws P Q = few f (v ∷ []) ws (omega arith) P Q
polygon_unique f (v ∷ w ∷ vs) [] P Q = sym (few f [] (v ∷ w ∷ vs) (omega arith) Q P)
polygon_unique f (v ∷ w ∷ vs) (x ∷ []) P Q = sym (few f (x ∷ []) (v ∷ w ∷ vs) (omega arith) Q P)
polygon_unique {qs} f (v ∷ w ∷ vs) (x ∷ y ∷ ws) P Q = go P.only_extreme Q.only_extreme P.once_each Q.once_each (P.clockwise (omega arith)) (Q.clockwise (omega arith))
  where
    apart : {l : List Point} → (f ∈ l → ⊥) → All (λ v. v ≡ f → ⊥) l
    apart {l} n = all_of l (λ v m e. n (subst (λ z. z ∈ l) e m))

    go : All (Extreme qs) (f ∷ v ∷ w ∷ vs) → All (Extreme qs) (f ∷ x ∷ y ∷ ws) → Distinct (f ∷ v ∷ w ∷ vs) → Distinct (f ∷ x ∷ y ∷ ws)
        → Clockwise qs (f ∷ v ∷ w ∷ vs) → Clockwise qs (f ∷ x ∷ y ∷ ws) → (v ∷ w ∷ vs) ≡ (x ∷ y ∷ ws)
    go (xf & xv & xvs) (xf' & xx & xxs) dp dq sp sq =
        let e : v ≡ x = same_next xf xv xx (λ e. dp.0 (here e)) (λ e. dq.0 (here e)) sp.0 sq.0 in
        ap₂ (λ a l. a ∷ l) e
        (go_on v (w ∷ vs) (y ∷ ws) xf xv (λ e. dp.0 (here (sym e))) xvs xxs dp.1 (subst (λ z. Distinct (z ∷ y ∷ ws)) (sym e) dq.1)
        (apart (λ m. dp.0 (there m))) (apart (λ m. dq.0 (there m))) sp.1 (subst (λ z. Steps (AllRight qs) f (z ∷ y ∷ ws)) (sym e) sq.1))

-- ---- the start fixed: the westmost vertex, the southmost of those

-- f is west of v, or as far west and not north of it
abbrev pub WestOf : Point → Point → Type 0
WestOf f v = (f.east <ℤ v.east) ⊎ ((f.east ≡ v.east) × (f.north ≤ℤ v.north))

west_antisym : (f g : Point) → WestOf f g → WestOf g f → f ≡ g
west_antisym f g (inl h) (inl k) = absurd (omega (arith, ints))
west_antisym f g (inl h) (inr k) = absurd (lin 0 2 (λ x y. x ≺ y ⟹ y ≐ x ⟹ bot) (omega arith) _ _ h k.0)
west_antisym f g (inr h) (inl k) = absurd (lin 0 2 (λ x y. x ≺ y ⟹ y ≐ x ⟹ bot) (omega arith) _ _ k h.0)
west_antisym f g (inr h) (inr k) = point_ext h.0 (≤-antisym h.1 k.1)

-- so there is one permitted listing
pub west_unique : {qs : List Point} (f g : Point) (vs ws : List Point) → Polygon qs (f ∷ vs) → Polygon qs (g ∷ ws) → All (WestOf f) vs → All (WestOf g) ws → (f ∷ vs) ≡ (g ∷ ws)
west_unique {qs} f g vs ws P Q hf hg = finish (start (Q.every_extreme f (first P.only_extreme)) (P.every_extreme g (first Q.only_extreme)))
  where
    start : f ∈ (g ∷ ws) → g ∈ (f ∷ vs) → f ≡ g
    start (here e) n = e
    start (there m) (here e) = sym e
    start (there m) (there n) = west_antisym f g (all_at hf n) (all_at hg m)

    finish : f ≡ g → (f ∷ vs) ≡ (g ∷ ws)
    finish e = ap₂ (λ x l. x ∷ l) e (polygon_unique f vs ws P (subst (λ x. Polygon qs (x ∷ ws)) (sym e) Q))

-- ---- the start is open: the first vertex moved to the end

in_rotated : {x : Point} (f : Point) (vs : List Point) → x ∈ (f ∷ vs) → x ∈ (vs ++ (f ∷ []))
in_rotated f [] m = m
in_rotated f (v ∷ vs) (here e) = there (in_rotated f vs (here e))
in_rotated f (v ∷ vs) (there (here e)) = here e
in_rotated f (v ∷ vs) (there (there m)) = there (in_rotated f vs (there m))

distinct_rotated : (f : Point) (vs : List Point) → Distinct (f ∷ vs) → Distinct (vs ++ (f ∷ []))
distinct_rotated f [] d = d
distinct_rotated f (v ∷ vs) d = (
  λ m. ⊎_elim d.1.0 (λ k. elim k [ here e ↦ d.0 (here (sym e)) | there m ↦ elim m [ ] ]) (in_append vs (f ∷ []) m),
  distinct_rotated f vs (λ m. d.0 (there m), d.1.1),
)

steps_rotated : (R : Point → Point → Type 0) (f g v : Point) (vs : List Point) → R f g → Steps R f (v ∷ vs) → Steps R g ((v ∷ vs) ++ (f ∷ []))
steps_rotated R f g v [] h s = (s, h)
steps_rotated R f g v (w ∷ vs) h s = (s.0, steps_rotated R f g w vs h s.1)

pub polygon_rotated : {qs : List Point} (f : Point) (vs : List Point) → Polygon qs (f ∷ vs) → Polygon qs (vs ++ (f ∷ []))
polygon_rotated {qs} f vs P =
    record {
      only_extreme = all_append (rest P.only_extreme) (first P.only_extreme & none);
      every_extreme = λ p x. in_rotated f vs (P.every_extreme p x);
      once_each = distinct_rotated f vs P.once_each;
      clockwise = λ n. sides vs (P.clockwise (omega (arith, simp length-append at n)));
    }
  where
    sides : (vs : List Point) → Clockwise qs (f ∷ vs) → Clockwise qs (vs ++ (f ∷ []))
    sides [] s = s
    sides (v ∷ vs) s = steps_rotated (AllRight qs) f v v vs s.0 s.1
