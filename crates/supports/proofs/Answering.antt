-- What a cone tells the first driver, and the four corners one after another. Assumes nothing.
use Rattle.std.specs.Option.{option_or}
use Rattle.std.specs.Prelude.{Option, Some, None}
use Prim.Native.Nat.{ℕ}
use mathlib.Core.Path.{◌≡◌, refl, sym, subst}
use mathlib.Core.List.{List, [], ◌∷◌, map}
use native.Mathlib.Omega.{arith}
use lib.IntN.{pos}
use Rattle.plane.specs.declared.Point.{Point}
use Rattle.plane.specs.Vectors.{from, Supported}
use Rattle.turns.specs.Keys.{IsKey, point_of}
use Rattle.turns.proofs.Coordinates.{key_in_span}
use Rattle.turns.proofs.Bounds.{outward_east_upto, outward_north_upto}
use Rattle.plane.specs.Members.{All}
use Rattle.rounds.specs.Boxes.{BoxInSpan, corners_of}
use Rattle.rounds.specs.Reasons.{DirectionHolds}
use Rattle.rounds.specs.declared.Box.{Box}
use Rattle.rounds.specs.declared.Corner.{Corner}
use Rattle.rounds.specs.declared.Corner.TheVariants.{SouthWest, SouthEast, NorthEast, NorthWest}
use Rattle.rounds.proofs.Corners.{by_corner}
use Rattle.rounds.specs.declared.Direction.{Direction}
use Rattle.cones.specs.Cones.{corner_point, ConeSays}
use Rattle.cones.specs.declared.Cone.{Cone}
use Rattle.views.specs.Views.{CornerViewSays}
use Rattle.views.specs.Looking.{view_of}
use Rattle.views.specs.declared.View.{View}
use Rattle.views.proofs.Viewing.{view_says}
use Rattle.supports.specs.Supports.{square_to, SupportAt, SupportSays, SupportBy}
use Rattle.supports.specs.Supporting.{support_of_cone, support_of_corner, support_of}
use Rattle.cones.specs.declared.CornerKey.{CornerKey}
use Rattle.cones.specs.declared.Cone.TheVariants.{Nothing, Ray, Line, Wedge, Half, Around}
use Rattle.cones.proofs.FirstRay.{FirstRay, ray_first, line_first, wedge_first, half_first, square_nonzero, square_behind, square_supported, east_nonzero, east_behind, east_supported}

-- ---- the first driver

no_some : {d : Direction} → None ≡ Some d → ⊥
no_some e = let z : ◌≡◌ {A = ℕ} 0 1 = cc in omega arith

module _ (k : ℕ) (corner : Corner) where
  abbrev p : Point
  p = point_of k

  pub nothing_supports : SupportBy p Nothing corner (Some (record { corner = corner; east = pos 1; north = pos 0 }))
  nothing_supports =
      record {
        says = λ bs h. record {
          east_part_lem = record { low = record { le = tt }; high = record { le = tt } };
          north_part_lem = record { low = record { le = tt }; high = record { le = tt } };
          reason = record { nonzero = east_nonzero p h; behind = east_behind p h };
        };
      }

  around_supports : (a b c : CornerKey) → SupportBy p (Around a b c) corner None
  around_supports a b c = record { says = λ bs r. r.surrounded }

  -- where the plug is in the span
  module _ (hk : IsKey k) where
    square_holds : (bs : List Box) (a : CornerKey) → IsKey a.key → FirstRay (corners_of corner bs) p (corner_point a) → DirectionHolds bs p (square_to (corner_point a) corner p)
    square_holds bs a ha r =
        record {
          east_part_lem = outward_east_upto (key_in_span ha) (key_in_span hk);
          north_part_lem = outward_north_upto (key_in_span ha) (key_in_span hk);
          reason = record { nonzero = square_nonzero p (corner_point a) r; behind = square_behind p (corner_point a) r };
        }

    ray_supports : (a : CornerKey) → SupportBy p (Ray a) corner (Some (square_to (corner_point a) corner p))
    ray_supports a = record { says = λ bs r. square_holds bs a r.seen_a.named.key (ray_first p r) }

    line_supports : (a b : CornerKey) → SupportBy p (Line a b) corner (Some (square_to (corner_point a) corner p))
    line_supports a b = record { says = λ bs r. square_holds bs a r.seen_a.named.key (line_first p r) }

    wedge_supports : (a b : CornerKey) → SupportBy p (Wedge a b) corner (Some (square_to (corner_point a) corner p))
    wedge_supports a b = record { says = λ bs r. square_holds bs a r.seen_a.named.key (wedge_first p r) }

    half_supports : (a b : CornerKey) → SupportBy p (Half a b) corner (Some (square_to (corner_point a) corner p))
    half_supports a b = record { says = λ bs r. square_holds bs a r.seen_a.named.key (half_first p r) }

    -- by the case that the cone is
    cone_supports : (cone : Cone) → SupportBy p cone corner (support_of_cone k cone corner)
    cone_supports Nothing = nothing_supports
    cone_supports (Ray a) = ray_supports a
    cone_supports (Line a b) = line_supports a b
    cone_supports (Wedge a b) = wedge_supports a b
    cone_supports (Half a b) = half_supports a b
    cone_supports (Around a b c) = around_supports a b c

    -- by that one corner of every box
    corner_supports : (bs : List Box) → All BoxInSpan bs → SupportAt bs p corner (support_of_corner k corner bs)
    corner_supports bs h = (cone_supports (view_of k corner bs).cone).says bs (view_says k bs h corner).of_cone

    pub corner_found : (bs : List Box) → All BoxInSpan bs → {r : Option Direction} → r ≡ support_of_corner k corner bs → SupportAt bs p corner r
    corner_found bs h e = subst (λ r. SupportAt bs p corner r) (sym e) (corner_supports bs h)

    -- so does what was found
    pub cone_found : (cone : Cone) {r : Option Direction} → r ≡ support_of_cone k cone corner → SupportBy p cone corner r
    cone_found cone e = subst (SupportBy p cone corner) (sym e) (cone_supports cone)

-- where that one corner of every box has the plug strictly inside, the cone says so
module _ (k : ℕ) (corner : Corner) (bs : List Box) (h : Supported (map (from 1 (point_of k)) (corners_of corner bs)) → ⊥) where
  cone_surrounds : (cone : Cone) → ConeSays bs (corners_of corner bs) (point_of k) cone → None ≡ support_of_cone k cone corner
  cone_surrounds Nothing r = absurd (h (east_supported (point_of k) r))
  cone_surrounds (Ray a) r = absurd (h (square_supported (point_of k) (corner_point a) (ray_first (point_of k) r)))
  cone_surrounds (Line a b) r = absurd (h (square_supported (point_of k) (corner_point a) (line_first (point_of k) r)))
  cone_surrounds (Wedge a b) r = absurd (h (square_supported (point_of k) (corner_point a) (wedge_first (point_of k) r)))
  cone_surrounds (Half a b) r = absurd (h (square_supported (point_of k) (corner_point a) (half_first (point_of k) r)))
  cone_surrounds (Around a b c) r = refl

  pub corner_surrounds : All BoxInSpan bs → None ≡ support_of_corner k corner bs
  corner_surrounds s = cone_surrounds (view_of k corner bs).cone (view_says k bs s corner).of_cone

-- and where the cone gives no direction, the plug is strictly inside
module _ (k : ℕ) (corner : Corner) (bs : List Box) where
  cone_open : (cone : Cone) → ConeSays bs (corners_of corner bs) (point_of k) cone → None ≡ support_of_cone k cone corner → SupportAt bs (point_of k) corner None
  cone_open Nothing r e = absurd (no_some e)
  cone_open (Ray a) r e = absurd (no_some e)
  cone_open (Line a b) r e = absurd (no_some e)
  cone_open (Wedge a b) r e = absurd (no_some e)
  cone_open (Half a b) r e = absurd (no_some e)
  cone_open (Around a b c) r e = r.surrounded

  corner_open : All BoxInSpan bs → None ≡ support_of_corner k corner bs → SupportAt bs (point_of k) corner None
  corner_open s e = cone_open (view_of k corner bs).cone (view_says k bs s corner).of_cone e

-- ---- the four corners one after the other

-- three leave the plug strictly inside, and the fourth answers
support_last : (bs : List Box) (p : Point) (r : Option Direction) → SupportAt bs p SouthWest None → SupportAt bs p SouthEast None
    → SupportAt bs p NorthEast None → SupportAt bs p NorthWest r → SupportSays bs p r
support_last bs p None sw se ne nw = by_corner (λ c. Supported (map (from 1 p) (corners_of c bs)) → ⊥) sw se ne nw
support_last bs p (Some d) sw se ne nw = nw

-- the first that gives a direction, or none does
support_first : (bs : List Box) (p : Point) (sw se ne nw : Option Direction) → SupportAt bs p SouthWest sw → SupportAt bs p SouthEast se → SupportAt bs p NorthEast ne → SupportAt bs p NorthWest nw
    → SupportSays bs p (option_or sw (option_or se (option_or ne nw)))
support_first bs p (Some d) se ne nw hsw hse hne hnw = hsw
support_first bs p None (Some d) ne nw hsw hse hne hnw = hse
support_first bs p None None (Some d) nw hsw hse hne hnw = hne
support_first bs p None None None nw hsw hse hne hnw = support_last bs p nw hsw hse hne hnw

-- what is found by the four corners of every box says so
pub support_says : (k : ℕ) → IsKey k → (bs : List Box) → All BoxInSpan bs → (view : View) → CornerViewSays bs SouthWest (point_of k) view → SupportSays bs (point_of k) (support_of k bs view)
support_says k hk bs h view o =
    support_first bs (point_of k) (support_of_cone k view.cone SouthWest) (support_of_corner k SouthEast bs) (support_of_corner k NorthEast bs) (support_of_corner k NorthWest bs)
    ((cone_supports k SouthWest hk view.cone).says bs o.of_cone)
    (corner_supports k SouthEast hk bs h) (corner_supports k NorthEast hk bs h) (corner_supports k NorthWest hk bs h)

pub support_found : (k : ℕ) → IsKey k → (bs : List Box) → All BoxInSpan bs → (view : View) → CornerViewSays bs SouthWest (point_of k) view → {r : Option Direction}
    → r ≡ support_of k bs view → SupportSays bs (point_of k) r
support_found k hk bs h view o e = subst (λ r. SupportSays bs (point_of k) r) (sym e) (support_says k hk bs h view o)

-- none gives a direction
all_none : (sw se ne nw : Option Direction) → None ≡ option_or sw (option_or se (option_or ne nw)) → (None ≡ sw) × (None ≡ se) × (None ≡ ne) × (None ≡ nw)
all_none (Some d) se ne nw e = absurd (no_some e)
all_none None (Some d) ne nw e = absurd (no_some e)
all_none None None (Some d) nw e = absurd (no_some e)
all_none None None None nw e = (refl, refl, refl, e)

pub none_says : (k : ℕ) (bs : List Box) → All BoxInSpan bs → (view : View) → CornerViewSays bs SouthWest (point_of k) view → None ≡ support_of k bs view → SupportSays bs (point_of k) None
none_says k bs h view o e =
    let n = all_none (support_of_cone k view.cone SouthWest) (support_of_corner k SouthEast bs) (support_of_corner k NorthEast bs) (support_of_corner k NorthWest bs) e in
    by_corner (λ c. Supported (map (from 1 (point_of k)) (corners_of c bs)) → ⊥)
    (cone_open k SouthWest bs view.cone o.of_cone n.0) (corner_open k SouthEast bs h n.1) (corner_open k NorthEast bs h n.2) (corner_open k NorthWest bs h n.3)

-- the first direction that those corners of every box give
abbrev pub first_support : ℕ → List Box → List Corner → Option Direction
first_support plug bs [] = None
first_support plug bs (c ∷ cs) = option_or (support_of_corner plug c bs) (first_support plug bs cs)
