-- The view of more corners, as the code finds it, box by box. It fixes which corners a view keeps, so that answers can be proved equal; what the view then says of the
-- points is in Views. Definitions only.
use Rattle.std.specs.Prelude.{Option, Some, None, cond, List, [], ◌∷◌, ℕ, suc, eqb}
use Rattle.rounds.specs.declared.Box.{Box}
use Rattle.rounds.specs.declared.Corner.{Corner}
use Rattle.cones.specs.Wider.{is_around, cone_with}
use Rattle.cones.specs.declared.CornerKey.{CornerKey}
use Rattle.cones.specs.declared.Cone.TheVariants.{Nothing}
use Rattle.passes.specs.Keeping.{keys_in}
use Rattle.passes.specs.declared.CornerSet.{CornerSet}
use Rattle.passes.specs.declared.CornerSet.TheVariants.{One}
use Rattle.views.specs.declared.View.{View}

-- where the plug is met among the points so far and one more corner: the last that is the plug
abbrev pub met_with : ℕ → Option CornerKey → CornerKey → Option CornerKey
met_with plug met v = cond (eqb v.key plug) (Some v) met

-- the view of the points so far and of one more corner
abbrev pub view_with : ℕ → View → CornerKey → View
view_with plug view v = record { cone = cone_with plug view.cone v; met = met_with plug view.met v }

-- and of more, one after another
abbrev pub view_with_all : ℕ → View → List CornerKey → View
view_with_all plug view [] = view
view_with_all plug view (v ∷ vs) = view_with_all plug (view_with plug view v) vs

-- and of those corners of every box, the first having the number n; no further than the box at which the plug is strictly inside
abbrev pub looked_over : ℕ → CornerSet → ℕ → View → List Box → View
looked_over plug set n view [] = view
looked_over plug set n view (b ∷ bs) =
    let w = view_with_all plug view (keys_in set n b) in
    cond (is_around w.cone) w (looked_over plug set (suc n) w bs)

-- no point is seen
abbrev pub nothing_seen : View
nothing_seen = record { cone = Nothing; met = None }

-- the view of that one corner of every box
abbrev pub view_of : ℕ → Corner → List Box → View
view_of plug corner bs = looked_over plug (One corner) 1 nothing_seen bs
