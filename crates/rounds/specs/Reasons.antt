-- What an undecided verdict carries, and what it shows. Definitions only.
use Rattle.std.specs.Prelude.{ℕ, suc, ◌+◌, ◌<◌, ◌≤◌, cond, ◌≡◌, List, [], ◌∷◌, map, eqb, ℤ, pos, ◌+ℤ◌, ◌*ℤ◌, ◌≤ℤ◌, length}
use Rattle.integers.specs.Upto.{Upto}
use Rattle.plane.specs.declared.Point.{Point}
use Rattle.plane.specs.Members.{All}
use Rattle.plane.specs.Vectors.{from, along, total, weighted}
use Rattle.rounds.specs.Boxes.{corner_of, corners_of}
use Rattle.rounds.specs.declared.Box.{Box}
use Rattle.rounds.specs.declared.Corner.{Corner}
use Rattle.rounds.specs.declared.Direction.{Direction}
use Rattle.rounds.specs.declared.Entry.{Entry}
use Rattle.rounds.specs.declared.Reasons.{Reasons}

-- for the first driver: the pick of corner c in every box has the plug not strictly inside its hull, by the direction (a, b)
pub record FirstReason (bs : List Box) (p : Point) (c : Corner) (a b : ℤ) : Type 0 where
  pub nonzero : (a ≡ pos 0) × (b ≡ pos 0) → ⊥
  pub behind : All (λ v. along a b v ≤ℤ pos 0) (map (from 1 p) (corners_of c bs))

-- the corner that an entry names, where the list's first box has the number n; (0, 0) if there is no such box
abbrev pub corner_at : ℕ → List Box → Entry → Point
corner_at n [] e = record { east = pos 0; north = pos 0 }
corner_at n (b ∷ bs) e = cond (eqb n e.number) (corner_of e.corner b) (corner_at (suc n) bs e)

-- for the second driver: each entry names a box of the list, not all weights are zero, and the weighted sum of (corner − plug) is zero
pub record SecondReason (bs : List Box) (p : Point) (es : List Entry) : Type 0 where
  pub named : All (λ e. (1 ≤ e.number) × (e.number ≤ length bs)) es
  pub some_weight : 0 < total (map (λ e. e.weight) es)
  pub east_sum : weighted (λ v. v.east) (map (λ e. e.weight) es) (map (λ e. from 1 p (corner_at 1 bs e)) es) ≡ pos 0
  pub north_sum : weighted (λ v. v.north) (map (λ e. e.weight) es) (map (λ e. from 1 p (corner_at 1 bs e)) es) ≡ pos 0

-- the first driver's reason as it is given: a corner name and a direction, each part from −32,000 to 32,000
pub record DirectionHolds (bs : List Box) (p : Point) (d : Direction) : Type 0 where
  pub east_part_lem : Upto 32000 d.east
  pub north_part_lem : Upto 32000 d.north
  pub reason : FirstReason bs p d.corner d.east d.north

-- the second driver's reason as it is given: entries, each weight from 0 to 2,048,000,000
pub record EntriesHold (bs : List Box) (p : Point) (es : List Entry) : Type 0 where
  pub weights : All (λ e. e.weight ≤ 2048000000) es
  pub reason : SecondReason bs p es

-- what an undecided verdict carries shows a successful pick for each driver
pub record Reasoned (bs : List Box) (p : Point) (r : Reasons) : Type 0 where
  pub first_driver : DirectionHolds bs p r.direction
  pub second_driver : EntriesHold bs p (r.first ∷ r.second ∷ r.third ∷ [])

-- the weight of box number n over all its entries
abbrev pub weight_at : List Entry → ℕ → ℕ
weight_at [] n = 0
weight_at (e ∷ es) n = cond (eqb n e.number) e.weight 0 + weight_at es n

-- the weighted sum of one coordinate of the corners that the entries name of box number n, which is b
abbrev pub sum_at : (Point → ℤ) → List Entry → ℕ → Box → ℤ
sum_at f [] n b = pos 0
sum_at f (e ∷ es) n b = cond (eqb n e.number) (pos e.weight *ℤ f (corner_of e.corner b)) (pos 0) +ℤ sum_at f es n b

-- the points over d that the entries choose in the boxes, the first of which has the number n: a box named with positive weight picks
-- the weighted mean of its entries, and every other box picks SW
pub data Chosen (es : List Entry) (d : ℕ) : ℕ → List Box → List Point → Type 0 where
  none : {n : ℕ} → Chosen es d n [] []
  mean : {n : ℕ} {b : Box} {bs : List Box} {q : Point} {qs : List Point} → 0 < weight_at es n
      → pos (weight_at es n) *ℤ q.east ≡ pos d *ℤ sum_at (λ c. c.east) es n b → pos (weight_at es n) *ℤ q.north ≡ pos d *ℤ sum_at (λ c. c.north) es n b
      → Chosen es d (suc n) bs qs → Chosen es d n (b ∷ bs) (q ∷ qs)
  south_west : {n : ℕ} {b : Box} {bs : List Box} {q : Point} {qs : List Point} → weight_at es n ≡ 0
      → q.east ≡ pos d *ℤ b.west → q.north ≡ pos d *ℤ b.south
      → Chosen es d (suc n) bs qs → Chosen es d n (b ∷ bs) (q ∷ qs)
