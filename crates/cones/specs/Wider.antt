-- The cone of one more corner, as the code finds it. It fixes which corners a cone keeps, so that answers can be proved equal; what the cone then says of the points
-- is `Widened` (Cones). Definitions only.
use Rattle.std.specs.Prelude.{Bool, true, false, cond, List, [], ◌∷◌, ℕ, eqb, pos}
use Rattle.std.specs.Int.Signed.{lt_z}
use Rattle.plane.specs.Points.{signed_area, dot_product}
use Rattle.plane.specs.Members.{All}
use Rattle.turns.specs.Keys.{IsKey, key_at, point_of}
use Rattle.turns.specs.Turns.{turn_of}
use Rattle.turns.specs.declared.Turn.{Turn}
use Rattle.turns.specs.declared.Turn.TheVariants.{Right, Straight, Left}
use Rattle.rounds.specs.Boxes.{corner_of}
use Rattle.rounds.specs.declared.Box.{Box}
use Rattle.rounds.specs.declared.Corner.{Corner}
use Rattle.cones.specs.Cones.{corner_point}
use Rattle.cones.specs.declared.CornerKey.{CornerKey}
use Rattle.cones.specs.declared.Cone.{Cone}
use Rattle.cones.specs.declared.Cone.TheVariants.{Nothing, Ray, Line, Wedge, Half, Around}

-- the corner of a box with a number, as a key
abbrev pub numbered : ℕ → Box → Corner → CornerKey
numbered n b c = record { key = key_at (corner_of c b); number = n; corner = c }

-- the corners that a cone holds
abbrev pub held : Cone → List CornerKey
held Nothing = []
held (Ray a) = a ∷ []
held (Line a b) = a ∷ b ∷ []
held (Wedge a b) = a ∷ b ∷ []
held (Half a b) = a ∷ b ∷ []
held (Around a b c) = a ∷ b ∷ c ∷ []

-- each of them has the key of a point of the span
abbrev pub Keyed : Cone → Type 0
Keyed cone = All (λ v. IsKey v.key) (held cone)

-- the plug is strictly inside
abbrev pub is_around : Cone → Bool
is_around Nothing = false
is_around (Ray a) = false
is_around (Line a b) = false
is_around (Wedge a b) = false
is_around (Half a b) = false
is_around (Around a b c) = true

-- the turn from the plug over one corner to another
abbrev pub turn_from : ℕ → CornerKey → CornerKey → Turn
turn_from plug a v = turn_of (signed_area (point_of plug) (corner_point a) (corner_point v))

-- two corners in line with the plug are on opposite sides of it
abbrev pub are_opposite : ℕ → CornerKey → CornerKey → Bool
are_opposite plug a v = lt_z (dot_product (point_of plug) (corner_point a) (corner_point v)) (pos 0)

-- a ray and one more corner, by the turn to it and by whether they are opposite
abbrev pub ray_by : Turn → Bool → CornerKey → CornerKey → Cone
ray_by Right opposite a v = Wedge v a
ray_by Straight opposite a v = cond opposite (Line a v) (Ray a)
ray_by Left opposite a v = Wedge a v

-- a line and one more corner, by the turn to it
abbrev pub line_by : Turn → CornerKey → CornerKey → Cone
line_by Right a b = Half b a
line_by Straight a b = Line a b
line_by Left a b = Half a b

-- a wedge and one more corner, by the turn from its first ray and the turn to its second
abbrev pub wedge_by : Turn → Turn → CornerKey → CornerKey → CornerKey → Cone
wedge_by Right Right a b v = Around a b v
wedge_by Right Straight a b v = Half v b
wedge_by Right Left a b v = Wedge v b
wedge_by Straight Right a b v = Half a v
wedge_by Straight Straight a b v = Wedge a b
wedge_by Straight Left a b v = Wedge a b
wedge_by Left Right a b v = Wedge a v
wedge_by Left Straight a b v = Wedge a b
wedge_by Left Left a b v = Wedge a b

-- a half-plane and one more corner, by the turn to it
abbrev pub half_by : Turn → CornerKey → CornerKey → CornerKey → Cone
half_by Right a b v = Around a b v
half_by Straight a b v = Half a b
half_by Left a b v = Half a b

-- the cone of the points so far and of one more corner
abbrev pub cone_with : ℕ → Cone → CornerKey → Cone
cone_with plug Nothing v = cond (eqb v.key plug) Nothing (Ray v)
cone_with plug (Ray a) v = ray_by (turn_from plug a v) (are_opposite plug a v) a v
cone_with plug (Line a b) v = line_by (turn_from plug a v) a b
cone_with plug (Wedge a b) v = wedge_by (turn_from plug a v) (turn_from plug v b) a b v
cone_with plug (Half a b) v = half_by (turn_from plug a v) a b v
cone_with plug (Around a b c) v = Around a b c
