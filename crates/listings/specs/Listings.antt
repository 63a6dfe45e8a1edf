-- Vertices in a lent buffer of numbers. Definitions only.
use Rattle.std.specs.Prelude.{List, [], ◌∷◌, ◌++◌, ℕ, ◌-◌, ◌*◌, ◌/◌, ℤ, pos, length, drop, replicate}
use Rattle.plane.specs.declared.Point.{Point}
use Rattle.rounds.specs.Refusals.{none}
use Rattle.rounds.specs.Replies.{buffer_under}

-- east and north for each vertex (docs/SCOPE.md 3.5)
unfoldable pub flat : List Point → List ℤ
flat [] = []
flat (v ∷ vs) = v.east ∷ v.north ∷ flat vs

-- so many zeros
abbrev pub zeros : ℕ → List ℤ
zeros n = replicate n (pos 0)

-- numbers written over the front of a buffer; those behind them are unchanged
abbrev pub over_front : List ℤ → List ℤ → List ℤ
over_front numbers before = buffer_under none numbers before

-- the answer in a buffer: the vertices; after the last of them zeros, up to the numbers needed
abbrev pub listing : ℕ → List Point → List ℤ
listing needed vertices = flat vertices ++ zeros (needed - 2 * length vertices)

-- the answer in a buffer: the vertices; after the last of them zeros, up to the numbers needed; those beyond are unchanged
abbrev pub answered : ℕ → List Point → List ℤ → List ℤ
answered needed vertices before = flat vertices ++ zeros (needed - 2 * length vertices) ++ drop needed before

-- the numbers that a polygon call needs: 8 × N with N boxes
abbrev pub needed : List ℤ → ℕ
needed boxes = 8 * (length boxes / 4)
