-- From what each polygon of some boxes says of the plug to the plug's one word. Assumes nothing.
use mathlib.Core.Bool.{true, false}
use mathlib.Core.Path.{◌≡◌, refl}
use mathlib.Core.Logic.{⊎_elim}
use mathlib.Core.List.{List, map}
use Prim.Native.Nat.{ℕ, ◌≤◌}
use native.Mathlib.Omega.{arith}
use lib.ListN.{length, take, drop, length-drop}
use lib.Seq.{length-take-le}
use Rattle.plane.specs.declared.Point.{Point}
use Rattle.plane.specs.Vectors.{from, Supported, Balanced}
use Rattle.plane.proofs.Lists.{all_map, all_unmap}
use Rattle.plane.proofs.Alternative.{alternative, separated_supported}
use Rattle.turns.specs.Keys.{point_of}
use Rattle.rounds.specs.Boxes.{corners_of, all_corners}
use Rattle.rounds.specs.declared.Box.{Box}
use Rattle.rounds.specs.declared.Corner.{Corner}
use Rattle.rounds.specs.declared.Corner.TheVariants.{SouthWest, SouthEast, NorthEast, NorthWest}
use Rattle.rounds.specs.declared.Word.TheVariants.{Inside, Outside, Undecided}
use Rattle.rounds.proofs.Corners.{corner_pick, one_of_all, inside_by_corners, outside_by_corners}
use Rattle.rounds.proofs.Total.{corners_second, exactly}
use Rattle.locations.specs.Places.{PlaceOf}
use Rattle.locations.specs.declared.Place.{Place}
use Rattle.locations.specs.declared.Place.TheVariants.{Within, OnLine, Off}
use Rattle.outlines.specs.declared.RoundCounts.{RoundCounts}
use Rattle.outlines.specs.RoundPolygons.{count_of, start_of, outer_vertices, corner_vertices, RoundPolygons}
use Rattle.words.specs.Words.{RoundKeys, WithinOf, WordIn}

-- ---- one polygon: strictly within it, or not

pub not_within : {ks : List ℕ} {k : ℕ} (place : Place) → (place ≡ Within → ⊥) → PlaceOf ks k place → WithinOf ks k false
not_within Within n h = absurd (n refl)
not_within OnLine n h = record { says = λ qs P. (h.says qs P).0 }
not_within Off n h = record { says = λ qs P. separated_supported _ (h.says qs P) }

-- of the polygon's vertices, and for the place that was matched
pub placed : {part ks : List ℕ} {k : ℕ} {r s : Place} → part ≡ ks → r ≡ s → PlaceOf part k r → PlaceOf ks k s
placed e f h = rw (← e, ← f) h

-- strictly within is in the hull
not_supported : (vs : List Point) → (Supported vs → ⊥) → Balanced vs
not_supported vs h = ⊎_elim (λ b. b) (λ s. absurd (h (separated_supported vs s))) (alternative vs)

-- ---- the five polygons

-- a direction that supports all corners supports those of one name
corners_supported : (c : Corner) (bs : List Box) (p : Point) → Supported (map (from 1 p) (all_corners bs)) → Supported (map (from 1 p) (corners_of c bs))
corners_supported c bs p h =
    record { a = h.a; b = h.b; nonzero = h.nonzero; behind = all_map (from 1 p) (one_of_all c bs (all_unmap (from 1 p) (all_corners bs) h.behind)) }

-- of the polygons of some boxes, each has a vertex, and all vertices are keys
pub round_keys : {bs : List Box} {ks : List ℕ} {n : RoundCounts} → RoundPolygons bs ks n → RoundKeys ks n
round_keys {bs} {ks} {n} p =
    record {
      enough = p.enough;
      outer = record { some = taken n.outer ks p.outer.some (omega (arith, p.enough)); keys = p.outer.keys };
      corners = λ c. record { some = taken (count_of n c) (drop (start_of n c) ks) (p.corners c).some (enough c); keys = (p.corners c).keys };
    }
  where
    taken : (m : ℕ) (l : List ℕ) → 1 ≤ m → m ≤ length l → 1 ≤ length (take m l)
    taken m l h r = omega (arith, length-take-le m l r)

    enough : (c : Corner) → count_of n c ≤ length (drop (start_of n c) ks)
    enough SouthWest = simp length-drop (omega (arith, p.enough))
    enough SouthEast = simp length-drop (omega (arith, p.enough))
    enough NorthEast = simp length-drop (omega (arith, p.enough))
    enough NorthWest = simp length-drop (omega (arith, p.enough))

module _ (ks : List ℕ) (n : RoundCounts) (k : ℕ) where
  -- off the outer polygon
  pub word_outside : PlaceOf (outer_vertices n ks) k Off → WordIn ks n k Outside
  word_outside h = record { says = λ bs os f. (exactly bs (point_of k) os Outside).0 (outside_by_corners (point_of k) (h.says (all_corners bs) f.outer.polygon)) }

  -- strictly within all four corner polygons
  pub word_inside : ((c : Corner) → WithinOf (corner_vertices n c ks) k true) → WordIn ks n k Inside
  word_inside h =
      record { says = λ bs os f. (exactly bs (point_of k) os Inside).0 (inside_by_corners (point_of k) (λ c. (h c).says (corners_of c bs) (f.corners c).polygon)) }

  -- in the hull of all corners, and not strictly within the hull of those of one name: a pick for each driver
  undecided : (c : Corner) → ((bs : List Box) → RoundPolygons bs ks n → Supported (map (from 1 (point_of k)) (corners_of c bs)))
      → ((bs : List Box) → RoundPolygons bs ks n → Balanced (map (from 1 (point_of k)) (all_corners bs))) → WordIn ks n k Undecided
  undecided c h g =
      record { says = λ bs os f. (exactly bs (point_of k) os Undecided).0 ((corner_pick os c, h bs f), corners_second (point_of k) os (g bs f)) }

  -- on the outer polygon's line
  pub word_on_line : PlaceOf (outer_vertices n ks) k OnLine → WordIn ks n k Undecided
  word_on_line h =
      undecided SouthWest (λ bs f. corners_supported SouthWest bs (point_of k) (h.says (all_corners bs) f.outer.polygon).0) (λ bs f. (h.says (all_corners bs) f.outer.polygon).1)

  -- strictly within the outer polygon, and not strictly within a corner polygon
  pub word_undecided : PlaceOf (outer_vertices n ks) k Within → (c : Corner) → WithinOf (corner_vertices n c ks) k false → WordIn ks n k Undecided
  word_undecided g c h = undecided c (λ bs f. h.says (corners_of c bs) (f.corners c).polygon) (λ bs f. not_supported _ (g.says (all_corners bs) f.outer.polygon))
