-- What the corners of boxes tell the second driver, as the code finds it. It fixes which entries are given, so that answers can be proved equal; what the answer means is
-- `BalanceSays` (Balances). Definitions only.
use Rattle.std.specs.Option.{option_or}
use Rattle.std.specs.Prelude.{Option, Some, None, List, ℕ, nat_abs}
use Rattle.plane.specs.Points.{signed_area, dot_product}
use Rattle.turns.specs.Keys.{point_of}
use Rattle.rounds.specs.declared.Box.{Box}
use Rattle.cones.specs.Cones.{corner_point, entry_of}
use Rattle.cones.specs.declared.CornerKey.{CornerKey}
use Rattle.cones.specs.declared.Cone.{Cone}
use Rattle.cones.specs.declared.Cone.TheVariants.{Nothing, Ray, Line, Wedge, Half, Around}
use Rattle.passes.specs.declared.CornerSet.TheVariants.{Four}
use Rattle.views.specs.Looking.{looked_over}
use Rattle.views.specs.declared.View.{View}
use Rattle.balances.specs.Balances.{entries}
use Rattle.balances.specs.declared.Entries.{Entries}

-- two corners on opposite sides of the plug, each with the plug's distance from the other for its weight
abbrev pub between_two : ℕ → CornerKey → CornerKey → Option Entries
between_two plug a b =
    Some (entries
    (entry_of a (nat_abs (dot_product (corner_point b) (corner_point a) (point_of plug))))
    (entry_of b (nat_abs (dot_product (corner_point a) (corner_point b) (point_of plug))))
    (entry_of a 0))

-- three corners with the plug in their triangle, each with the area of the other two and the plug for its weight
abbrev pub among_three : ℕ → CornerKey → CornerKey → CornerKey → Option Entries
among_three plug a b c =
    Some (entries
    (entry_of a (nat_abs (signed_area (point_of plug) (corner_point b) (corner_point c))))
    (entry_of b (nat_abs (signed_area (point_of plug) (corner_point c) (corner_point a))))
    (entry_of c (nat_abs (signed_area (point_of plug) (corner_point a) (corner_point b)))))

-- by the cone
abbrev pub balance_of_cone : ℕ → Cone → Option Entries
balance_of_cone plug Nothing = None
balance_of_cone plug (Ray a) = None
balance_of_cone plug (Line a b) = between_two plug a b
balance_of_cone plug (Wedge a b) = None
balance_of_cone plug (Half a b) = between_two plug a b
balance_of_cone plug (Around a b c) = among_three plug a b c

-- by the view: a corner that is the plug, with all the weight; else by the cone
abbrev pub balance_by_met : ℕ → Option CornerKey → Cone → Option Entries
balance_by_met plug None cone = balance_of_cone plug cone
balance_by_met plug (Some v) cone = Some (entries (entry_of v 1) (entry_of v 0) (entry_of v 0))

abbrev pub balance_of_view : ℕ → View → Option Entries
balance_of_view plug view = balance_by_met plug view.met view.cone

-- by the south-west corners, which have the view, or else by the four corners of every box as well
abbrev pub balance_of : ℕ → List Box → View → Option Entries
balance_of plug bs view = option_or (balance_of_view plug view) (balance_of_view plug (looked_over plug Four 1 view bs))
