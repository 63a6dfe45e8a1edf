-- What lists with no fault have: they are whole, and every number of a box or a plug is of 32 bits. Assumes nothing.
use mathlib.Core.Path.{◌≡◌}
use mathlib.Core.Bool.{not}
use mathlib.Core.List.{List, [], ◌∷◌}
use Prim.Native.Nat.{ℕ, ◌+◌, ◌%◌}
use borrow.Author.Tests.{eqb-true, not-false}
use lib.Dec.{eqb}
use lib.IntN.{ℤ}
use lib.ListN.{length}
use mir.Syntax.{w32}
use mir.Val.{SFits}
use Rattle.integers.proofs.Machine.{fits}
use Rattle.plane.specs.declared.Point.{Point}
use Rattle.plane.specs.Members.{All, ◌&◌}
use Rattle.plane.proofs.Lists.{all_imp}
use Rattle.rounds.specs.Boxes.{boxes_of, plugs_of}
use Rattle.rounds.specs.declared.Box.{Box}
use Rattle.rounds.specs.declared.Cause.TheVariants as Cause
use Rattle.rounds.specs.Refusals.{none, when, box_list_fault, plug_fault, each_plug_fault, plug_list_fault}
use Rattle.rounds.proofs.Accepted.{or_else_none, when_none, accepted, plug_accepted}

-- the numbers of a box, and of a plug, are of 32 bits
pub record BoxFits (b : Box) : Type 0 where
  pub west : SFits w32 b.west
  pub south : SFits w32 b.south
  pub east : SFits w32 b.east
  pub north : SFits w32 b.north

pub record PlugFits (p : Point) : Type 0 where
  pub east : SFits w32 p.east
  pub north : SFits w32 p.north

pub fit_boxes : (l : List ℤ) → box_list_fault l ≡ none → All BoxFits (boxes_of l)
fit_boxes l e =
    all_imp (λ b s. record { west = fits w32 tt s.west; south = fits w32 tt s.south; east = fits w32 tt s.east; north = fits w32 tt s.north }) (accepted l e).in_span

-- a plug list with no fault is whole
in_turn : (l : List ℤ) → plug_list_fault l ≡ none
    → (when (not (eqb (length l % 2) 0)) Cause.ListLength (length l) ≡ none) × (each_plug_fault 1 (plugs_of l) ≡ none)
unfolding plug_list_fault
in_turn l e = or_else_none (when (not (eqb (length l % 2) 0)) Cause.ListLength (length l)) (each_plug_fault 1 (plugs_of l)) e

pub whole_plugs : (l : List ℤ) → plug_list_fault l ≡ none → length l % 2 ≡ 0
whole_plugs l e = eqb-true _ _ (not-false _ (when_none (not (eqb (length l % 2) 0)) Cause.ListLength (length l) (in_turn l e).0))

each_plug : (k : ℕ) (ps : List Point) → each_plug_fault k ps ≡ none → All PlugFits ps
unfolding each_plug_fault
each_plug k [] e = All.none
each_plug k (p ∷ ps) e =
    let r = or_else_none (plug_fault k p) (each_plug_fault (k + 1) ps) e in
    let s = plug_accepted k p r.0 in
    record { east = fits w32 tt s.easts; north = fits w32 tt s.norths } & each_plug (k + 1) ps r.1

pub fit_plugs : (l : List ℤ) → plug_list_fault l ≡ none → All PlugFits (plugs_of l)
fit_plugs l e = each_plug 1 (plugs_of l) (in_turn l e).1
