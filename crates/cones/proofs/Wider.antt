-- The cone of one more corner: what it says of the points. Assumes nothing.
use mathlib.Core.Path.{◌≡◌, refl, sym, ◌∙◌, ap, subst}
use mathlib.Core.Bool.{Bool, true, false, cond}
use mathlib.Core.List.{List}
use Prim.Native.Nat.{ℕ}
use lib.Dec.{eqb}
use lib.IntN.{pos}
use borrow.Author.Tests.{eqb-true, eqb-false}
use Rattle.integers.proofs.Machine.{lt_z_true, lt_z_false}
use Rattle.integers.proofs.Order.{<→≤, ≡→≤}
use Rattle.plane.specs.Points.{signed_area}
use Rattle.plane.specs.declared.Point.{Point}
use Rattle.turns.specs.Keys.{point_of}
use Rattle.turns.specs.Turns.{turn_of}
use Rattle.turns.specs.declared.Turn.{Turn}
use Rattle.turns.specs.declared.Turn.TheVariants.{Right, Straight, Left}
use Rattle.turns.proofs.Order.{point_injective}
use Rattle.plane.specs.Members.{none, ◌&◌}
use Rattle.rounds.specs.declared.Box.{Box}
use Rattle.cones.specs.Cones.{Widened, ConeSays}
use Rattle.cones.specs.Wider.{Keyed, turn_from, are_opposite, ray_by, line_by, wedge_by, half_by, cone_with}
use Rattle.cones.specs.declared.CornerKey.{CornerKey}
use Rattle.cones.specs.declared.Cone.{Cone}
use Rattle.cones.specs.declared.Cone.TheVariants.{Nothing, Ray, Line, Wedge, Half, Around}
use Rattle.cones.proofs.Turns.{is_right, is_straight, is_left}
use Rattle.cones.proofs.Widening.{nothing_same, nothing_ray, ray_to_left, ray_to_right, ray_to_line, ray_same, line_to_left, line_to_right, line_same}
use Rattle.cones.proofs.Widening.{half_same, half_to_around, wedge_same, wedge_to_right, wedge_to_left, wedge_half_right, wedge_half_left, wedge_to_around, around_same}

-- the corners of a cone that says something of points have keys
pub says_keyed : (bs : List Box) (qs : List Point) (p : Point) (cone : Cone) → ConeSays bs qs p cone → Keyed cone
says_keyed bs qs p Nothing h = none
says_keyed bs qs p (Ray a) h = h.seen_a.named.key & none
says_keyed bs qs p (Line a b) h = h.seen_a.named.key & h.seen_b.named.key & none
says_keyed bs qs p (Wedge a b) h = h.seen_a.named.key & h.seen_b.named.key & none
says_keyed bs qs p (Half a b) h = h.seen_a.named.key & h.seen_b.named.key & none
says_keyed bs qs p (Around a b c) h = h.seen_a.named.key & h.seen_b.named.key & h.seen_c.named.key & none

module _ (plug : ℕ) (v : CornerKey) where
  abbrev p : Point
  p = point_of plug

  nothing_says : (t : Bool) → eqb v.key plug ≡ t → Widened p Nothing v (cond t Nothing (Ray v))
  nothing_says true e = nothing_same p v (ap point_of (eqb-true v.key plug e))
  nothing_says false e = nothing_ray p v (λ z. eqb-false v.key plug e (point_injective v.key plug z))

  ray_says : (a : CornerKey) (t : Turn) (o : Bool) → turn_from plug a v ≡ t → are_opposite plug a v ≡ o → Widened p (Ray a) v (ray_by t o a v)
  ray_says a Right o e f = ray_to_right p v a (is_right _ e)
  ray_says a Straight true e f = ray_to_line p v a (is_straight _ e) (lt_z_true f)
  ray_says a Straight false e f = ray_same p v a (is_straight _ e) (lt_z_false f)
  ray_says a Left o e f = ray_to_left p v a (is_left _ e)

  line_says : (a b : CornerKey) (t : Turn) → turn_from plug a v ≡ t → Widened p (Line a b) v (line_by t a b)
  line_says a b Right e = line_to_right p v a b (is_right _ e)
  line_says a b Straight e = line_same p v a b (is_straight _ e)
  line_says a b Left e = line_to_left p v a b (is_left _ e)

  wedge_says : (a b : CornerKey) (t u : Turn) → turn_from plug a v ≡ t → turn_from plug v b ≡ u → Widened p (Wedge a b) v (wedge_by t u a b v)
  wedge_says a b Right Right e f = wedge_to_around p v a b (is_right _ e) (is_right _ f)
  wedge_says a b Right Straight e f = wedge_half_right p v a b (is_right _ e) (is_straight _ f)
  wedge_says a b Right Left e f = wedge_to_right p v a b (is_right _ e) (is_left _ f)
  wedge_says a b Straight Right e f = wedge_half_left p v a b (is_straight _ e) (is_right _ f)
  wedge_says a b Straight Straight e f = wedge_same p v a b (≡→≤ (sym (is_straight _ e))) (≡→≤ (sym (is_straight _ f)))
  wedge_says a b Straight Left e f = wedge_same p v a b (≡→≤ (sym (is_straight _ e))) (<→≤ (is_left _ f))
  wedge_says a b Left Right e f = wedge_to_left p v a b (is_left _ e) (is_right _ f)
  wedge_says a b Left Straight e f = wedge_same p v a b (<→≤ (is_left _ e)) (≡→≤ (sym (is_straight _ f)))
  wedge_says a b Left Left e f = wedge_same p v a b (<→≤ (is_left _ e)) (<→≤ (is_left _ f))

  half_says : (a b : CornerKey) (t : Turn) → turn_from plug a v ≡ t → Widened p (Half a b) v (half_by t a b v)
  half_says a b Right e = half_to_around p v a b (is_right _ e)
  half_says a b Straight e = half_same p v a b (≡→≤ (sym (is_straight _ e)))
  half_says a b Left e = half_same p v a b (<→≤ (is_left _ e))

  pub with_says : (cone : Cone) → Widened p cone v (cone_with plug cone v)
  with_says Nothing = nothing_says (eqb v.key plug) refl
  with_says (Ray a) = ray_says a (turn_from plug a v) (are_opposite plug a v) refl refl
  with_says (Line a b) = line_says a b (turn_from plug a v) refl
  with_says (Wedge a b) = wedge_says a b (turn_from plug a v) (turn_from plug v b) refl refl
  with_says (Half a b) = half_says a b (turn_from plug a v) refl
  with_says (Around a b c) = around_same p v a b c

  -- so does the cone that was found
  pub found_says : (cone : Cone) {wider : Cone} → wider ≡ cone_with plug cone v → Widened p cone v wider
  found_says cone e = subst (Widened p cone v) (sym e) (with_says cone)

  -- where a ray and the corner are in line
  pub in_line_says : (a : CornerKey) {wider : Cone} → wider ≡ ray_by Straight (are_opposite plug a v) a v → signed_area p (point_of a.key) (point_of v.key) ≡ pos 0
      → Widened p (Ray a) v wider
  in_line_says a e s = found_says (Ray a) (e ∙ ap (λ t. ray_by t (are_opposite plug a v) a v) (sym (ap turn_of s)))
