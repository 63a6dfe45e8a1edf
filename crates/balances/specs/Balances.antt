-- What the corners of boxes tell the second driver of a plug, and what a cone and a view tell. Definitions only.
use Rattle.std.specs.Prelude.{Option, Some, None, ◌≡◌, List, [], ◌∷◌, map, pos, ◌≤ℤ◌, ◌<ℤ◌}
use Rattle.plane.specs.Points.{signed_area, dot_product}
use Rattle.plane.specs.declared.Point.{Point}
use Rattle.plane.specs.Members.{All}
use Rattle.plane.specs.Vectors.{from, Supported, Separated as StrictlyBehind}
use Rattle.rounds.specs.Boxes.{all_corners}
use Rattle.rounds.specs.Reasons.{EntriesHold}
use Rattle.rounds.specs.declared.Box.{Box}
use Rattle.rounds.specs.declared.Entry.{Entry}
use Rattle.cones.specs.Cones.{corner_point, Named, ConeSays}
use Rattle.passes.specs.Passes.{NoneAt}
use Rattle.views.specs.Views.{ViewSays}
use Rattle.cones.specs.declared.CornerKey.{CornerKey}
use Rattle.cones.specs.declared.Cone.{Cone}
use Rattle.views.specs.declared.View.{View}
use Rattle.balances.specs.declared.Entries.{Entries}

-- the three entries of a reason
abbrev pub entries : Entry → Entry → Entry → Entries
entries a b c = record { first = a; second = b; third = c }

-- what some corners qs of the boxes tell: a direction has them strictly behind the plug, so that nothing balances; or three entries balance
abbrev pub BalanceAt : List Box → List Point → Point → Option Entries → Type 0
BalanceAt bs qs p None = StrictlyBehind (map (from 1 p) qs)
BalanceAt bs qs p (Some e) = EntriesHold bs p (e.first ∷ e.second ∷ e.third ∷ [])

-- what all corners of the boxes tell
abbrev pub BalanceSays : List Box → Point → Option Entries → Type 0
BalanceSays bs p r = BalanceAt bs (all_corners bs) p r

-- p is between a and b, in line with them
pub record BetweenCorners (p : Point) (a b : CornerKey) : Type 0 where
  pub straight : signed_area p (corner_point a) (corner_point b) ≡ pos 0
  pub opposite : dot_product p (corner_point a) (corner_point b) <ℤ pos 0

-- p is in the triangle of a, b and c
pub record InTriangle (p : Point) (a b c : CornerKey) : Type 0 where
  pub of_a_b : pos 0 ≤ℤ signed_area p (corner_point a) (corner_point b)
  pub of_b_c : pos 0 <ℤ signed_area p (corner_point b) (corner_point c)
  pub of_c_a : pos 0 <ℤ signed_area p (corner_point c) (corner_point a)

-- the answer balances at p, for all boxes that have those corners
pub record BalanceAmong (p : Point) (vs : List CornerKey) (r : Option Entries) : Type 0 where
  pub says : (bs : List Box) (qs : List Point) → All (Named bs) vs → BalanceAt bs qs p r

-- what the cone tells, whatever points they are, if none is the plug where it is not strictly inside
pub record BalanceByCone (p : Point) (cone : Cone) (r : Option Entries) : Type 0 where
  pub says : (bs : List Box) (qs : List Point) → ConeSays bs qs p cone → (Supported (map (from 1 p) qs) → NoneAt p qs) → BalanceAt bs qs p r

-- what the view tells, whatever points they are
pub record BalanceBy (p : Point) (view : View) (r : Option Entries) : Type 0 where
  pub says : (bs : List Box) (qs : List Point) → ViewSays bs qs p view → BalanceAt bs qs p r
