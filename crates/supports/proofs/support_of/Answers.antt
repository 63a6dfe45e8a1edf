-- `supports::support_of` meets its contract: the first corner that gives a direction, or none does. Assumes nothing.
use Rattle.std.specs.Option.{option_or}
use Rattle.std.specs.Prelude.{Option, Some, None}
use mathlib.Core.Path.{◌≡◌, refl, sym, ◌∙◌, ap}
use mathlib.Core.List.{List, [], ◌∷◌}
use Prim.Native.Nat.{ℕ, suc, ◌+◌, ◌<◌}
use native.Mathlib.Omega.{arith}
use lib.ListN.{get_or, drop, drop_of_length-le}
use lib.Seq.{drop-cons}
use Rattle.rounds.specs.Boxes.{boxes_of}
use Rattle.rounds.specs.declared.Box.{Box}
use Rattle.rounds.specs.declared.Corner.{Corner}
use Rattle.rounds.specs.declared.Direction.{Direction}
use Rattle.rounds.specs.declared.Corner.TheVariants.{SouthEast, NorthEast, NorthWest}
use Rattle.supports.specs.Supporting.{support_of_corner}
use Rattle.supports.proofs.Answering.{first_support, none_says}
use Rattle.supports.proofs.support_of.Goals as goal

or-none : (o : Option Direction) → o ≡ option_or o None
or-none None = refl
or-none (Some d) = refl

-- the corners that are tried behind the south-west one
abbrev others : List Corner
others = SouthEast ∷ NorthEast ∷ NorthWest ∷ []

-- the corner at i, and those behind it
step : (plug : ℕ) (bs : List Box) (i : ℕ) (d : Corner) {r : Option Direction} → i < 3 → r ≡ support_of_corner plug (get_or others i d) bs
    → first_support plug bs (drop i others) ≡ option_or r (first_support plug bs (drop (i + 1) others))
step plug bs i d {r} h e =
    let n : suc i ≡ i + 1 = omega arith in
    ap (first_support plug bs) (drop-cons others i d h)
    ∙ ap (λ o. option_or o (first_support plug bs (drop (suc i) others))) (sym e)
    ∙ ap (λ k. option_or r (first_support plug bs (drop k others))) n

pub loop-corner-preserved : goal.loop-corner-preserved
loop-corner-preserved c =
    c.loop-corner.invariant ∙ step c.args.plug (boxes_of c.args.boxes.numbers.now) c.loop-corner.corner-index _ c.loop-corner-test.true c.in_default-support_at.ensures.exact

pub returns : goal.returns
returns c =
    let bs = boxes_of c.args.boxes.numbers.now in
    let e = sym (c.loop-corner.invariant ∙ ap (first_support c.args.plug bs) (drop_of_length-le others {i = c.loop-corner.corner-index} (omega arith))) in
    record { exact = e; supports = none_says c.args.plug bs c.args.boxes.accepted.in_span c.args.view.now c.requires e }
