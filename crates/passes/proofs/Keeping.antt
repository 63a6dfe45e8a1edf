-- Boxes whose corners leave the cone of the points so far as it is. Assumes nothing.
use mathlib.Core.Path.{◌≡◌, refl, sym, ap, ap₂, subst}
use mathlib.Core.List.{List}
use Prim.Native.Nat.{ℕ, suc, ◌+◌, ◌<◌, ◌≤◌}
use native.Mathlib.Decide.{dec_lt}
use native.Mathlib.Omega.{arith}
use borrow.Author.Tests.{ne_eqb}
use lib.IntN.{pos}
use lib.Signed.{◌<ℤ◌}
use lib.ListN.{length}
use Rattle.integers.proofs.Expr.{#◌, ◌≺◌, ◌⟹◌, bot}
use Rattle.integers.proofs.Cert.{cert, hyp, ◌∵◌}
use Rattle.plane.specs.Points.{signed_area}
use Rattle.plane.specs.declared.Point.{Point}
use Rattle.plane.specs.Members.{All}
use Rattle.plane.proofs.Lists.{all_imp, all_map, all_unmap, index_of_all}
use Rattle.plane.proofs.Twins.{signed_areaᴱ, pt}
use Rattle.turns.specs.Keys.{point_of}
use Rattle.turns.specs.Turns.{turn_of}
use Rattle.turns.proofs.Coordinates.{key_at_lem}
use Rattle.rounds.specs.Boxes.{BoxInSpan, corner_of}
use Rattle.rounds.specs.declared.Box.{Box}
use Rattle.rounds.specs.declared.Corner.{Corner}
use Rattle.corners.proofs.Places.{corner_in_span}
use Rattle.cones.specs.Cones.{corner_point}
use Rattle.cones.specs.Wider.{numbered, line_by, wedge_by}
use Rattle.cones.proofs.Turns.{left_is}
use Rattle.cones.specs.declared.CornerKey.{CornerKey}
use Rattle.cones.specs.declared.Cone.{Cone}
use Rattle.cones.specs.declared.Cone.TheVariants.{Line, Wedge}
use Rattle.passes.specs.Passes.{Passes, PassesLine, nth_box, names_in, corners_in}
use Rattle.passes.specs.Keeping.{Keeps, KeepsBox, KeepsBoxes, KeepsLine, keys_in}
use Rattle.passes.proofs.Passing.{InsideWedge, OnLineApart, passes_none, passes_inside, passes_line}
use Rattle.passes.specs.declared.CornerSet.{CornerSet}

-- the point of a corner's key, which is that of a point of the span
pub numbered_point : (n : ℕ) (b : Box) → BoxInSpan b → (c : Corner) → corner_point (numbered n b c) ≡ corner_of c b
numbered_point n b h c = (key_at_lem (corner_of c b) (corner_in_span c b h)).is

-- ---- corners that leave the cone as it is

inside_keeps : (plug : ℕ) (a b v : CornerKey) → InsideWedge (point_of plug) a b (corner_point v) → Keeps plug (Wedge a b) v
inside_keeps plug a b v h =
    record { same = ap₂ (λ t u. wedge_by t u a b v) (left_is _ h.0) (left_is _ h.1); apart = ne_eqb v.key plug (λ e. apart (ap point_of e)) }
  where
    apart : corner_point v ≡ point_of plug → ⊥
    apart z = cert 2 0 (λ p a. # 0 ≺ signed_areaᴱ p a p ⟹ bot ∵ hyp 0) tt (pt (point_of plug)) (pt (corner_point a)) (subst (λ x. pos 0 <ℤ signed_area (point_of plug) (corner_point a) x) z h.0)

line_keeps : (plug : ℕ) (a b v : CornerKey) → OnLineApart (point_of plug) a (corner_point v) → Keeps plug (Line a b) v
line_keeps plug a b v h = record { same = ap (λ t. line_by t a b) (ap turn_of h.0); apart = ne_eqb v.key plug (λ e. h.1 (ap point_of e)) }

-- ---- boxes that are passed

-- what is promised of the boxes from place k to place r
pub record Stay (plug : ℕ) (cone : Cone) (set : CornerSet) (bs : List Box) (k r : ℕ) : Type 0 where
  pub keeps : KeepsBoxes plug cone set bs k r
  pub passes : Passes (point_of plug) cone set bs k r

pub stay_none : (plug : ℕ) (set : CornerSet) (bs : List Box) (cone : Cone) (k : ℕ) → k ≤ length bs → Stay plug cone set bs k k
stay_none plug set bs cone k h =
    record {
      keeps = record { from = omega arith; upto = h; keeps = λ i l m. absurd (omega arith) };
      passes = passes_none set bs cone k h;
    }

-- one more box
next_by : (plug : ℕ) (cone : Cone) (set : CornerSet) (bs : List Box) (k i : ℕ) → i < length bs → KeepsBox plug cone set (suc i) (nth_box bs i)
    → KeepsBoxes plug cone set bs k i → KeepsBoxes plug cone set bs k (i + 1)
next_by plug cone set bs k i h b o = record { from = omega (arith, o.from); upto = omega arith; keeps = λ j l m. go j l m (dec_lt j i) }
  where
    go : (j : ℕ) → k ≤ j → j < i + 1 → Dec (j < i) → KeepsBox plug cone set (suc j) (nth_box bs j)
    go j l m (yes n) = o.keeps j l n
    go j l m (no n) = let e : i ≡ j = omega arith in subst (λ x. KeepsBox plug cone set (suc x) (nth_box bs x)) e b

-- where a corner of which P holds leaves the cone as it is, those of a box do
corners_keep : (plug : ℕ) (cone : Cone) (P : Point → Type 0) → ((v : CornerKey) → P (corner_point v) → Keeps plug cone v)
    → (set : CornerSet) (n : ℕ) (b : Box) → BoxInSpan b → All P (corners_in set b) → All (Keeps plug cone) (keys_in set n b)
corners_keep plug cone P keep set n b s h =
    all_map (numbered n b) (all_imp (λ c x. keep (numbered n b c) (subst P (sym (numbered_point n b s c)) x)) (all_unmap (λ c. corner_of c b) (names_in set) h))

-- one more box whose corners are strictly inside the wedge, or on the line
module _ (plug : ℕ) (set : CornerSet) (bs : List Box) (a b : CornerKey) (k i : ℕ) (h : i < length bs) (s : All BoxInSpan bs) where
  pub stay_inside : All (InsideWedge (point_of plug) a b) (corners_in set (nth_box bs i)) → Stay plug (Wedge a b) set bs k i → Stay plug (Wedge a b) set bs k (i + 1)
  stay_inside hs o =
      let keep = corners_keep plug (Wedge a b) (InsideWedge (point_of plug) a b) (inside_keeps plug a b) set (suc i) (nth_box bs i) (index_of_all _ s i h) hs in
      record {
        keeps = next_by plug (Wedge a b) set bs k i h (record { onward = refl; corners = keep }) o.keeps;
        passes = passes_inside set bs a b k i h hs o.passes;
      }

  pub stay_line : All (OnLineApart (point_of plug) a) (corners_in set (nth_box bs i)) → Stay plug (Line a b) set bs k i → Stay plug (Line a b) set bs k (i + 1)
  stay_line hs o =
      let keep = corners_keep plug (Line a b) (OnLineApart (point_of plug) a) (line_keeps plug a b) set (suc i) (nth_box bs i) (index_of_all _ s i h) hs in
      record {
        keeps = next_by plug (Line a b) set bs k i h (record { onward = refl; corners = keep }) o.keeps;
        passes = passes_line set bs a b k i h hs o.passes;
      }

-- where the cone is the line through a and whatever other
module _ {plug : ℕ} {a : CornerKey} {set : CornerSet} {bs : List Box} {k r : ℕ} (o : (b : CornerKey) → Stay plug (Line a b) set bs k r) where
  pub keeps_each : KeepsLine plug a set bs k r
  keeps_each = record { keeps = λ b. (o b).keeps }

  pub passes_each : PassesLine (point_of plug) a set bs k r
  passes_each = record { passes = λ b. (o b).passes }

pub ruleset line_steps = (keeps_each, passes_each)
