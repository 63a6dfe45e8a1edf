-- The view that the code finds, step by step: a corner, the end of a box, boxes that are passed over. Assumes nothing.
use Rattle.std.specs.Prelude.{Option, Some}
use mathlib.Core.Path.{◌≡◌, refl, sym, ◌∙◌, ap, ap₂}
use mathlib.Core.Bool.{false, cond}
use mathlib.Core.List.{List, [], ◌∷◌}
use Prim.Native.Nat.{ℕ, zero, suc, ◌+◌, ◌-◌, ◌<◌, ◌≤◌}
use native.Mathlib.Omega.{arith}
use lib.ListN.{length, drop, drop_of_length-le, length-map}
use lib.Seq.{drop-cons}
use Rattle.plane.specs.Members.{All, none, ◌&◌}
use Rattle.plane.proofs.Lists.{map_at}
use Rattle.rounds.specs.declared.Box.{Box}
use Rattle.rounds.specs.declared.Corner.TheVariants.{SouthWest}
use Rattle.cones.specs.Wider.{numbered, is_around}
use Rattle.cones.specs.declared.CornerKey.{CornerKey}
use Rattle.cones.specs.declared.Cone.{Cone}
use Rattle.cones.specs.declared.Cone.TheVariants.{Nothing, Ray, Line, Wedge, Half, Around}
use Rattle.passes.specs.Passes.{nth_box, names_in}
use Rattle.passes.specs.Keeping.{keys_in, Keeps, KeepsBox, KeepsBoxes}
use Rattle.passes.specs.declared.CornerSet.{CornerSet}
use Rattle.views.specs.Views.{nth_name}
use Rattle.views.specs.Looking.{view_with, view_with_all, looked_over}
use Rattle.views.specs.declared.View.{View}

abbrev pub seen : Cone → Option CornerKey → View
seen cone met = record { cone = cone; met = met }

-- what is found from the view after the box with the number n on
abbrev pub after : ℕ → CornerSet → ℕ → View → List Box → View
after plug set n view bs = cond (is_around view.cone) view (looked_over plug set (suc n) view bs)

-- what is found from corner j of the first of the boxes on
abbrev pub rest : ℕ → CornerSet → ℕ → ℕ → View → List Box → View
rest plug set n j view [] = view
rest plug set n j view (b ∷ bs) = after plug set n (view_with_all plug view (drop j (keys_in set n b))) bs

-- a cone that is none of the other cases
pub not_around : (cone : Cone) → ((a b c : CornerKey) → cone ≡ Around a b c → ⊥) → is_around cone ≡ false
not_around Nothing h = refl
not_around (Ray a) h = refl
not_around (Line a b) h = refl
not_around (Wedge a b) h = refl
not_around (Half a b) h = refl
not_around (Around a b c) h = absurd (h a b c refl)

module _ (plug : ℕ) (set : CornerSet) where
  pub rest_all : (n : ℕ) (view : View) (bs : List Box) → rest plug set n 0 view bs ≡ looked_over plug set n view bs
  rest_all n view [] = refl
  rest_all n view (b ∷ bs) = refl

  -- ---- boxes that are passed over

  keeps_corner : (view : View) (v : CornerKey) → Keeps plug view.cone v → view_with plug view v ≡ view
  keeps_corner view v h = ap₂ seen h.same (ap (λ t. cond t (Some v) view.met) h.apart)

  keeps_corners : (view : View) (vs : List CornerKey) → All (Keeps plug view.cone) vs → view_with_all plug view vs ≡ view
  keeps_corners view [] none = refl
  keeps_corners view (v ∷ vs) (h & hs) = ap (λ w. view_with_all plug w vs) (keeps_corner view v h) ∙ keeps_corners view vs hs

  keeps_box : (n : ℕ) (view : View) (b : Box) (bs : List Box) → KeepsBox plug view.cone set n b → looked_over plug set n view (b ∷ bs) ≡ looked_over plug set (suc n) view bs
  keeps_box n view b bs h =
      ap (λ w. after plug set n w bs) (keeps_corners view (keys_in set n b) h.corners)
      ∙ ap (λ t. cond t view (looked_over plug set (suc n) view bs)) h.onward

  module _ (bs : List Box) (view : View) where
    pub passes_on : (k r : ℕ) → KeepsBoxes plug view.cone set bs k r → looked_over plug set (suc k) view (drop k bs) ≡ looked_over plug set (suc r) view (drop r bs)
    passes_on k r o = go (r - k) k (omega (arith, o.from)) (omega arith)
      where
        go : (m i : ℕ) → i + m ≡ r → k ≤ i → looked_over plug set (suc i) view (drop i bs) ≡ looked_over plug set (suc r) view (drop r bs)
        go zero i e l = let z : i ≡ r = omega arith in ap (λ x. looked_over plug set (suc x) view (drop x bs)) z
        go (suc m) i e l =
            let h : i < length bs = omega (arith, o.upto) in
            ap (λ x. looked_over plug set (suc i) view x) (drop-cons bs i (nth_box [] 0) h)
            ∙ keeps_box (suc i) view (nth_box bs i) (drop (suc i) bs) (o.keeps i l (omega arith))
            ∙ go m (suc i) (omega arith) (omega arith)

    -- ---- the box at k

    module _ (k j : ℕ) (h : k < length bs) where
      from_box : (i : ℕ) (w : View) → rest plug set (suc k) i w (drop k bs) ≡ after plug set (suc k) (view_with_all plug w (drop i (keys_in set (suc k) (nth_box bs k)))) (drop (suc k) bs)
      from_box i w = ap (rest plug set (suc k) i w) (drop-cons bs k (nth_box [] 0) h)

      keys_count : length (keys_in set (suc k) (nth_box bs k)) ≡ length (names_in set)
      keys_count = length-map (names_in set) (numbered (suc k) (nth_box bs k))

      -- its corner j
      pub takes_corner : j < length (names_in set)
          → rest plug set (suc k) j view (drop k bs) ≡ rest plug set (suc k) (j + 1) (view_with plug view (numbered (suc k) (nth_box bs k) (nth_name set j))) (drop k bs)
      takes_corner l =
          let b = nth_box bs k in
          let vs = keys_in set (suc k) b in
          let d = numbered (suc k) b SouthWest in
          let e : suc j ≡ j + 1 = omega arith in
          let m : j < length vs = omega (arith, keys_count) in
          from_box j view
          ∙ ap (λ l. after plug set (suc k) (view_with_all plug view l) (drop (suc k) bs)) (drop-cons vs j d m)
          ∙ ap₂ (λ v i. after plug set (suc k) (view_with_all plug (view_with plug view v) (drop i vs)) (drop (suc k) bs)) (map_at (numbered (suc k) b) SouthWest d (names_in set) j l) e
          ∙ sym (from_box (j + 1) (view_with plug view (numbered (suc k) b (nth_name set j))))

      -- its end
      pub ends_box : length (names_in set) ≤ j → rest plug set (suc k) j view (drop k bs) ≡ cond (is_around view.cone) view (looked_over plug set (suc (k + 1)) view (drop (k + 1) bs))
      ends_box l =
          let e : suc k ≡ k + 1 = omega arith in
          from_box j view
          ∙ ap (λ l. after plug set (suc k) (view_with_all plug view l) (drop (suc k) bs)) (drop_of_length-le (keys_in set (suc k) (nth_box bs k)) {i = j} (omega (arith, keys_count)))
          ∙ ap (λ x. cond (is_around view.cone) view (looked_over plug set (suc x) view (drop x bs))) e

    -- past the last box
    pub ends_all : (k j : ℕ) → length bs ≤ k → rest plug set (suc k) j view (drop k bs) ≡ view
    ends_all k j h = ap (rest plug set (suc k) j view) (drop_of_length-le bs {i = k} h)
