-- The three answers exclude each other, so that a place is one at most. Assumes nothing.
use mathlib.Core.Path.{◌≡◌, refl}
use mathlib.Core.List.{List}
use Rattle.plane.specs.declared.Point.{Point}
use Rattle.plane.proofs.Combos.{separated_not_balanced}
use Rattle.plane.proofs.Alternative.{separated_supported}
use Rattle.locations.specs.Places.{PlaceSays}
use Rattle.locations.specs.declared.Place.{Place}
use Rattle.locations.specs.declared.Place.TheVariants.{Within, OnLine, Off}

pub one_place : (qs : List Point) (p : Point) (r s : Place) → PlaceSays qs p r → PlaceSays qs p s → r ≡ s
one_place qs p Within Within h k = refl
one_place qs p Within OnLine h k = absurd (h k.0)
one_place qs p Within Off h k = absurd (h (separated_supported _ k))
one_place qs p OnLine Within h k = absurd (k h.0)
one_place qs p OnLine OnLine h k = refl
one_place qs p OnLine Off h k = absurd (separated_not_balanced k h.1)
one_place qs p Off Within h k = absurd (k (separated_supported _ h))
one_place qs p Off OnLine h k = absurd (separated_not_balanced h k.1)
one_place qs p Off Off h k = refl
