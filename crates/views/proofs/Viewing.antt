-- What the view of more points says: of one more, of those of a box, of those of boxes one by one. Assumes nothing.
use Rattle.std.specs.Prelude.{Option, Some, None}
use mathlib.Core.Path.{◌≡◌, refl, sym, ◌∙◌, ap, subst}
use mathlib.Core.Bool.{Bool, true, false, cond}
use mathlib.Core.List.{List, [], ◌∷◌, ◌++◌, map, append_assoc, append-nil}
use Prim.Native.Nat.{ℕ, zero, suc, ◌+◌, ◌<◌, ◌≤◌}
use native.Mathlib.Omega.{arith}
use borrow.Author.Tests.{eqb-true, eqb-false}
use lib.Dec.{eqb}
use lib.ListN.{length, take, drop, take-append-drop, drop_of_length-le}
use lib.Seq.{take_all, drop-cons}
use Rattle.plane.specs.declared.Point.{Point}
use Rattle.plane.specs.Members.{All, none}
use Rattle.plane.specs.Vectors.{from, Supported}
use Rattle.plane.proofs.Lists.{index_of_all}
use Rattle.turns.specs.Keys.{KeyOf, point_of}
use Rattle.turns.proofs.Coordinates.{key_at_lem}
use Rattle.turns.proofs.Order.{point_injective}
use Rattle.rounds.specs.Boxes.{BoxInSpan, corner_of, corners_of}
use Rattle.rounds.specs.declared.Box.{Box}
use Rattle.rounds.specs.declared.Corner.{Corner}
use Rattle.corners.proofs.Places.{corner_in_span}
use Rattle.cones.specs.Cones.{corner_point, Named, CornerOf, ConeSays, Widened}
use Rattle.cones.specs.Wider.{numbered, is_around}
use Rattle.cones.specs.declared.CornerKey.{CornerKey}
use Rattle.cones.specs.declared.Cone.{Cone}
use Rattle.cones.specs.declared.Cone.TheVariants.{Nothing, Ray, Line, Wedge, Half, Around}
use Rattle.cones.proofs.Widening.{around_more}
use Rattle.cones.proofs.Wider.{with_says}
use Rattle.passes.specs.Passes.{MetSays, Says, nth_box, names_in, corners_by}
use Rattle.passes.specs.Keeping.{keys_in}
use Rattle.passes.specs.declared.CornerSet.{CornerSet}
use Rattle.passes.specs.declared.CornerSet.TheVariants.{One}
use Rattle.passes.proofs.Passing.{met_more, corner_of_nth, corners_append, one_more}
use Rattle.views.specs.Views.{MetOn, ViewSays, CornerViewSays, LooksAt, LooksOver}
use Rattle.views.specs.Looking.{met_with, view_with, view_with_all, looked_over, nothing_seen, view_of}
use Rattle.views.specs.declared.View.{View}
use Rattle.views.proofs.Naming.{corner_of_lem}

-- ---- one more point

-- the point is the plug
met_here : {p : Point} (met : Option CornerKey) (v : CornerKey) → corner_point v ≡ p → MetOn p met v (Some v)
met_here met v e = record { says = λ bs qs n m. record { named = n; is = e } }

met_same : {p : Point} (met : Option CornerKey) (v : CornerKey) → (corner_point v ≡ p → ⊥) → MetOn p met v met
met_same {p} met v ne = record { says = λ bs qs n m. met_more bs qs p (corner_point v) met ne m }

-- by the test
pub met_says : (plug : ℕ) (met : Option CornerKey) (v : CornerKey) → MetOn (point_of plug) met v (met_with plug met v)
met_says plug met v = go (eqb v.key plug) refl
  where
    go : (t : Bool) → eqb v.key plug ≡ t → MetOn (point_of plug) met v (cond t (Some v) met)
    go true e = met_here met v (ap point_of (eqb-true v.key plug e))
    go false e = met_same met v (λ z. eqb-false v.key plug e (point_injective v.key plug z))

-- where the plug is strictly inside, nothing more is asked
met_around : (bs : List Box) (qs more : List Point) (p : Point) (met : Option CornerKey) → (Supported (map (from 1 p) (qs ++ more)) → ⊥) → MetSays bs qs p met → MetSays bs (qs ++ more) p met
met_around bs qs more p None n m = λ s. absurd (n s)
met_around bs qs more p (Some w) n m = m

-- ---- points behind points

module _ {bs : List Box} {p : Point} where
  looks_none : {start : View} → LooksAt bs p start [] start
  looks_none {start} = record { says = λ qs s. subst (λ l. ViewSays bs l p start) (sym (append-nil qs)) s }

  -- a corner
  looks_corner : (start : View) (v : CornerKey) {q : Point} {wider : Cone} {r : Option CornerKey} → corner_point v ≡ q → Named bs v → Widened p start.cone v wider → MetOn p start.met v r
      → LooksAt bs p start (q ∷ []) (record { cone = wider; met = r })
  looks_corner start v {q} {wider} {r} e n w m =
      record {
        says = λ qs s. subst (λ x. Says bs (qs ++ (x ∷ [])) p wider r) e (record { of_cone = w.says bs qs n s.of_cone; of_met = m.says bs qs n s.of_met });
      }

  -- some, then others
  looks_then : {start middle view : View} {xs ys : List Point} → LooksAt bs p start xs middle → LooksAt bs p middle ys view → LooksAt bs p start (xs ++ ys) view
  looks_then {view = view} {xs} {ys} o n = record { says = λ qs s. subst (λ l. ViewSays bs l p view) (append_assoc qs xs ys) (n.says (qs ++ xs) (o.says qs s)) }

-- ---- the corners of boxes, box by box

-- one corner of every box
one_corner : (c : Corner) (bs : List Box) → corners_by (One c) bs ≡ corners_of c bs
one_corner c [] = refl
one_corner c (b ∷ bs) = ap (λ l. corner_of c b ∷ l) (one_corner c bs)

-- the first k boxes
module _ {bs : List Box} {p : Point} {start : View} (set : CornerSet) (k : ℕ) {view : View} (o : LooksAt bs p start (corners_by set (take k bs)) view) where
  looks_all : length bs ≤ k → LooksAt bs p start (corners_by set bs) view
  looks_all h = subst (λ l. LooksAt bs p start (corners_by set l) view) (take_all k bs h) o

  -- where the plug is strictly inside the hull of the first boxes' corners, so it is in that of all
  looks_around : {a b c : CornerKey} → view.cone ≡ Around a b c → LooksAt bs p start (corners_by set bs) view
  looks_around {a} {b} {c} e =
      subst (λ l. LooksAt bs p start l view) (sym (corners_append set (take k bs) (drop k bs)) ∙ ap (corners_by set) (take-append-drop k bs))
      (looks_then o (record { says = λ qs s. around qs s }))
    where
      more : List Point
      more = corners_by set (drop k bs)

      around : (qs : List Point) → ViewSays bs qs p view → ViewSays bs (qs ++ more) p view
      around qs s =
          let wide = around_more more (subst (ConeSays bs qs p) e s.of_cone) in
          record { of_cone = subst (ConeSays bs (qs ++ more) p) (sym e) wide; of_met = met_around bs qs more p view.met wide.surrounded s.of_met }

-- ---- the view that the code finds

around_is : (cone : Cone) → is_around cone ≡ true → (a : CornerKey) × (b : CornerKey) × (c : CornerKey) × (cone ≡ Around a b c)
around_is Nothing e = absurd (let z : ◌≡◌ {A = ℕ} 0 1 = cc in omega arith)
around_is (Ray a) e = absurd (let z : ◌≡◌ {A = ℕ} 0 1 = cc in omega arith)
around_is (Line a b) e = absurd (let z : ◌≡◌ {A = ℕ} 0 1 = cc in omega arith)
around_is (Wedge a b) e = absurd (let z : ◌≡◌ {A = ℕ} 0 1 = cc in omega arith)
around_is (Half a b) e = absurd (let z : ◌≡◌ {A = ℕ} 0 1 = cc in omega arith)
around_is (Around a b c) e = (a, b, c, refl)

module _ (plug : ℕ) (bs : List Box) (spans : All BoxInSpan bs) where
  abbrev p : Point
  p = point_of plug

  -- a corner of the box at k, as a key
  pub numbered_corner : (k : ℕ) → k < length bs → (c : Corner) → CornerOf bs c k (numbered (suc k) (nth_box bs k) c)
  numbered_corner k h c =
      corner_of_lem bs c k _ (suc k) h (omega arith)
      (subst (λ q. KeyOf q (numbered (suc k) (nth_box bs k) c).key) (sym (corner_of_nth c bs k h)) (key_at_lem _ (corner_in_span c (nth_box bs k) (index_of_all _ spans k h))))

  -- its corners, one after another
  looks_names : (k : ℕ) → k < length bs → (view : View) (names : List Corner)
      → LooksAt bs p view (map (λ c. corner_of c (nth_box bs k)) names) (view_with_all plug view (map (numbered (suc k) (nth_box bs k)) names))
  looks_names k h view [] = looks_none
  looks_names k h view (c ∷ cs) =
      let v = numbered (suc k) (nth_box bs k) c in
      let o = numbered_corner k h c in
      looks_then
      (looks_corner view v (o.is ∙ corner_of_nth c bs k h) o.named (with_says plug v view.cone) (met_says plug view.met v))
      (looks_names k h (view_with plug view v) cs)

  module _ (set : CornerSet) (start : View) where
    -- the box at k, behind those before
    looks_box : (k : ℕ) → k < length bs → (view : View) → LooksAt bs p start (corners_by set (take k bs)) view
        → LooksAt bs p start (corners_by set (take (suc k) bs)) (view_with_all plug view (keys_in set (suc k) (nth_box bs k)))
    looks_box k h view o =
        let i : k + 1 ≡ suc k = omega arith in
        subst (λ l. LooksAt bs p start l (view_with_all plug view (keys_in set (suc k) (nth_box bs k)))) (one_more set bs k h ∙ ap (λ n. corners_by set (take n bs)) i)
        (looks_then o (looks_names k h view (names_in set)))

    -- no further, where the plug is strictly inside
    looks_until : (k : ℕ) (w further : View) → LooksAt bs p start (corners_by set (take k bs)) w → LooksAt bs p start (corners_by set bs) further
        → (t : Bool) → is_around w.cone ≡ t → LooksAt bs p start (corners_by set bs) (cond t w further)
    looks_until k w further o m true e = looks_around set k o (around_is w.cone e).3
    looks_until k w further o m false e = m

    -- the boxes from k on
    looks_from : (m k : ℕ) → k + m ≡ length bs → (view : View) → LooksAt bs p start (corners_by set (take k bs)) view
        → LooksAt bs p start (corners_by set bs) (looked_over plug set (suc k) view (drop k bs))
    looks_from zero k e view o =
        subst (λ l. LooksAt bs p start (corners_by set bs) (looked_over plug set (suc k) view l)) (sym (drop_of_length-le bs {i = k} (omega arith))) (looks_all set k o (omega arith))
    looks_from (suc m) k e view o =
        let h : k < length bs = omega arith in
        let w = view_with_all plug view (keys_in set (suc k) (nth_box bs k)) in
        let more = looks_box k h view o in
        subst (λ l. LooksAt bs p start (corners_by set bs) (looked_over plug set (suc k) view l)) (sym (drop-cons bs k (nth_box [] 0) h))
        (looks_until (suc k) w _ more (looks_from m (suc k) (omega arith) w more) (is_around w.cone) refl)

  -- all of them
  pub looks_over : (set : CornerSet) (start : View) → LooksOver bs p start set (looked_over plug set 1 start bs)
  looks_over set start = looks_from set start (length bs) 0 (omega arith) start looks_none

  -- so does what was found
  pub looks_found : (set : CornerSet) (start : View) {view : View} → view ≡ looked_over plug set 1 start bs → LooksOver bs p start set view
  looks_found set start e = subst (LooksOver bs p start set) (sym e) (looks_over set start)

  -- that one corner of every box
  pub view_says : (corner : Corner) → CornerViewSays bs corner p (view_of plug corner bs)
  view_says corner =
      subst (λ l. ViewSays bs l p (view_of plug corner bs)) (one_corner corner bs)
      ((looks_over (One corner) nothing_seen).says [] (record { of_cone = none; of_met = λ s. none }))
