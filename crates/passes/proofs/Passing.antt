-- Boxes whose corners leave what is known of the points so far as it is. Assumes nothing.
use mathlib.Core.Path.{◌≡◌, refl, sym, ◌∙◌, ap, subst}
use mathlib.Core.Bool.{Bool, true, false, not}
use Rattle.std.specs.Prelude.{Option, Some, None}
use mathlib.Core.List.{List, [], ◌∷◌, ◌++◌, append_assoc, append-nil}
use Prim.Native.Nat.{ℕ, suc, ◌+◌, ◌<◌, ◌≤◌}
use native.Mathlib.Omega.{arith}
use lib.IntN.{pos}
use lib.Signed.{◌<ℤ◌, <ℤ-≤ℤ_trans}
use lib.ListN.{length, take}
use lib.Seq.{take-suc}
use Rattle.integers.proofs.Expr.{#◌, ◌≺◌, ◌⟹◌, bot}
use Rattle.integers.proofs.Cert.{cert, hyp, ◌∵◌}
use Rattle.integers.proofs.Order.{<→≤}
use Rattle.plane.specs.Points.{point, signed_area}
use Rattle.plane.specs.declared.Point.{Point}
use Rattle.plane.specs.Members.{All, none, ◌&◌}
use Rattle.plane.proofs.Lists.{all_append, map_at}
use Rattle.plane.proofs.Twins.{signed_areaᴱ, pt}
use Rattle.rounds.specs.Boxes.{Ordered, corner_of}
use Rattle.rounds.specs.declared.Box.{Box}
use Rattle.rounds.specs.declared.Corner.{Corner}
use Rattle.rounds.specs.declared.Corner.TheVariants.{SouthWest, SouthEast, NorthEast, NorthWest}
use Rattle.corners.specs.Corners.{nth_corner, Rightmost}
use Rattle.cones.specs.Cones.{corner_point}
use Rattle.passes.specs.Passes.{MetSays, Says, Passes, nth_box, corners_in, corners_by}
use Rattle.cones.specs.declared.CornerKey.{CornerKey}
use Rattle.cones.specs.declared.Cone.{Cone}
use Rattle.cones.specs.declared.Cone.TheVariants.{Line, Wedge}
use Rattle.passes.specs.declared.CornerSet.{CornerSet}
use Rattle.passes.specs.declared.CornerSet.TheVariants.{Four}
use Rattle.cones.proofs.Widening.{supported_fewer, line_more, wedge_more}

-- ---- one more point

-- another point leaves it open, or met as it was
pub met_more : (bs : List Box) (qs : List Point) (p q : Point) (met : Option CornerKey) → (q ≡ p → ⊥) → MetSays bs qs p met → MetSays bs (qs ++ (q ∷ [])) p met
met_more bs qs p q None ne m = λ s. all_append (m (supported_fewer p qs (q ∷ []) s)) (ne & none)
met_more bs qs p q (Some w) ne m = m

-- ---- the corners of boxes, box by box

-- the corner at a place is that of the box there
pub corner_of_nth : (c : Corner) (bs : List Box) (k : ℕ) → k < length bs → nth_corner c bs k ≡ corner_of c (nth_box bs k)
corner_of_nth c bs k h = map_at (corner_of c) (nth_box [] 0) (point (pos 0) (pos 0)) bs k h

-- those of some boxes, then of others
pub corners_append : (set : CornerSet) (xs ys : List Box) → corners_by set (xs ++ ys) ≡ corners_by set xs ++ corners_by set ys
corners_append set [] ys = refl
corners_append set (b ∷ xs) ys = ap (λ l. corners_in set b ++ l) (corners_append set xs ys) ∙ sym (append_assoc (corners_in set b) (corners_by set xs) (corners_by set ys))

-- those of the first k + 1 boxes are those of the first k and of the one at k
pub one_more : (set : CornerSet) (bs : List Box) (k : ℕ) → k < length bs → corners_by set (take k bs) ++ corners_in set (nth_box bs k) ≡ corners_by set (take (k + 1) bs)
one_more set bs k h =
    let e : k + 1 ≡ suc k = omega arith in
    rw e
    (ap (λ l. corners_by set (take k bs) ++ l) (sym (append-nil (corners_in set (nth_box bs k))))
    ∙ sym (corners_append set (take k bs) (nth_box bs k ∷ []))
    ∙ ap (corners_by set) (sym (take-suc bs k _ h)))

-- ---- points that leave what is known as it is

-- a test whose failing ends the pass
pub passed : (t : Bool) → not t ≡ false → t ≡ true
passed true e = refl
passed false e = sym e

-- strictly inside the wedge
abbrev pub InsideWedge : Point → CornerKey → CornerKey → Point → Type 0
InsideWedge p a b q = (pos 0 <ℤ signed_area p (corner_point a) q) × (pos 0 <ℤ signed_area p q (corner_point b))

inside_stays : {p : Point} {a b : CornerKey} (all : List Box) (qs : List Point) (met : Option CornerKey) (q : Point) → InsideWedge p a b q → Says all qs p (Wedge a b) met → Says all (qs ++ (q ∷ [])) p (Wedge a b) met
inside_stays {p} {a} {b} all qs met q h s =
    record { of_cone = wedge_more p q a b (<→≤ h.0) (<→≤ h.1) s.of_cone; of_met = met_more all qs p q met apart s.of_met }
  where
    apart : q ≡ p → ⊥
    apart z = cert 2 0 (λ p a. # 0 ≺ signed_areaᴱ p a p ⟹ bot ∵ hyp 0) tt (pt p) (pt (corner_point a)) (subst (λ x. pos 0 <ℤ signed_area p (corner_point a) x) z h.0)

-- on the line, and not the plug
abbrev pub OnLineApart : Point → CornerKey → Point → Type 0
OnLineApart p a q = (signed_area p (corner_point a) q ≡ pos 0) × (q ≡ p → ⊥)

line_stays : {p : Point} {a b : CornerKey} (all : List Box) (qs : List Point) (met : Option CornerKey) (q : Point) → OnLineApart p a q → Says all qs p (Line a b) met → Says all (qs ++ (q ∷ [])) p (Line a b) met
line_stays {p} {a} {b} all qs met q h s = record { of_cone = line_more p q a b h.0 s.of_cone; of_met = met_more all qs p q met h.1 s.of_met }

-- all four corners of a box, where the one furthest right of the one ray is, and the one furthest left of the other
pub four_inside : (p : Point) (a b : CornerKey) {at_a at_b : Corner} (box : Box) → Ordered box → Rightmost p (corner_point a) at_a → Rightmost (corner_point b) p at_b
    → pos 0 <ℤ signed_area p (corner_point a) (corner_of at_a box) → pos 0 <ℤ signed_area (corner_point b) p (corner_of at_b box) → All (InsideWedge p a b) (corners_in Four box)
four_inside p a b box o ra rb ha hb = corner SouthWest & corner SouthEast & corner NorthEast & corner NorthWest & none
  where
    corner : (c : Corner) → InsideWedge p a b (corner_of c box)
    corner c = (
      <ℤ-≤ℤ_trans ha (ra.least box o c),
      cert 3 0 (λ p b q. # 0 ≺ signed_areaᴱ b p q ⟹ # 0 ≺ signed_areaᴱ p q b ∵ hyp 0) tt (pt p) (pt (corner_point b)) (pt (corner_of c box)) (<ℤ-≤ℤ_trans hb (rb.least box o c)),
    )

pub passes_none : {p : Point} (set : CornerSet) (bs : List Box) (cone : Cone) (k : ℕ) → k ≤ length bs → Passes p cone set bs k k
passes_none set bs cone k h = record { from = omega arith; upto = h; says = λ all qs met s. s }

-- one more box, where a corner of which P holds leaves it as it is
module _ {p : Point} {cone : Cone} {P : Point → Type 0}
    (stays : (all : List Box) (qs : List Point) (met : Option CornerKey) (q : Point) → P q → Says all qs p cone met → Says all (qs ++ (q ∷ [])) p cone met) where
  more_stay : {all : List Box} {qs : List Point} {met : Option CornerKey} (more : List Point) → All P more → Says all qs p cone met → Says all (qs ++ more) p cone met
  more_stay {all} {qs} {met} [] none s = subst (λ l. Says all l p cone met) (sym (append-nil qs)) s
  more_stay {all} {qs} {met} (q ∷ more) (h & hs) s = subst (λ l. Says all l p cone met) (append_assoc qs (q ∷ []) more) (more_stay more hs (stays all qs met q h s))

  next_by : (set : CornerSet) (bs : List Box) (k i : ℕ) → i < length bs → All P (corners_in set (nth_box bs i)) → Passes p cone set bs k i → Passes p cone set bs k (i + 1)
  next_by set bs k i h hs o =
      record {
        from = omega (arith, o.from);
        upto = omega arith;
        says = λ all qs met s. subst (λ l. Says all l p cone met)
            (append_assoc qs (corners_by set (take i bs)) (corners_in set (nth_box bs i)) ∙ ap (λ l. qs ++ l) (one_more set bs i h))
            (more_stay (corners_in set (nth_box bs i)) hs (o.says all qs met s));
      }

-- one more box whose corners are strictly inside the wedge, or on the line
module _ {p : Point} (set : CornerSet) (bs : List Box) (a b : CornerKey) (k i : ℕ) (h : i < length bs) where
  pub passes_inside : All (InsideWedge p a b) (corners_in set (nth_box bs i)) → Passes p (Wedge a b) set bs k i → Passes p (Wedge a b) set bs k (i + 1)
  passes_inside hs o = next_by inside_stays set bs k i h hs o

  pub passes_line : All (OnLineApart p a) (corners_in set (nth_box bs i)) → Passes p (Line a b) set bs k i → Passes p (Line a b) set bs k (i + 1)
  passes_line hs o = next_by line_stays set bs k i h hs o
