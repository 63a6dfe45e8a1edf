-- A pick of smaller boxes is a pick of the larger ones, so that what no pick of these does, no pick of those does. Assumes nothing.
use mathlib.Core.Path.{◌≡◌}
use mathlib.Core.List.{List}
use Prim.Native.Nat.{ℕ}
use lib.IntN.{ℤ, pos, ◌*ℤ◌}
use lib.Signed.{◌≤ℤ◌}
use Rattle.integers.proofs.Expr.{◌⊗◌, #◌, ◌≼◌, ◌⟹◌}
use Rattle.integers.proofs.Cert.{cert, hyp, ◌⊞◌, ◌⊠◌, ◌∵◌}
use Rattle.integers.proofs.Order.{pos_nn}
use Rattle.plane.specs.declared.Point.{Point}
use Rattle.rounds.specs.Boxes.{boxes_of}
use Rattle.rounds.specs.Picks.{InBox, Each, Pick}
use Rattle.rounds.specs.Refusals.{Fault, verdict_fault}
use Rattle.rounds.specs.Replies.{result}
use Rattle.rounds.specs.Words.{Means}
use Rattle.rounds.specs.declared.Box.{Box}
use Rattle.rounds.specs.declared.Word.{Word}
use Rattle.rounds.specs.declared.Word.TheVariants.{Inside, Outside}
use Rattle.verdicts.specs.Verdicts.{verdict_on}
use Rattle.demands.specs.Refinement.{LiesIn, Refines, Refinement}
use Rattle.demands.proofs.Accepting.{reply_word, word_reply_lem}

-- the point stays in the larger box
in_larger : (d : ℕ) (b c : Box) (q : Point) → LiesIn b c → InBox d b q → InBox d c q
in_larger d b c q l w =
    record {
      from_west = below c.west b.west q.east l.west w.from_west;
      to_east = above c.east b.east q.east l.east w.to_east;
      from_south = below c.south b.south q.north l.south w.from_south;
      to_north = above c.north b.north q.north l.north w.to_north;
    }
  where
    below : (s t x : ℤ) → s ≤ℤ t → (pos d *ℤ t) ≤ℤ x → (pos d *ℤ s) ≤ℤ x
    below s t x h k = cert 0 4 (λ d s t x. # 0 ≼ d ⟹ s ≼ t ⟹ d ⊗ t ≼ x ⟹ d ⊗ s ≼ x ∵ hyp 0 ⊠ hyp 1 ⊞ hyp 2) tt (pos d) s t x (pos_nn d) h k

    above : (s t x : ℤ) → t ≤ℤ s → x ≤ℤ (pos d *ℤ t) → x ≤ℤ (pos d *ℤ s)
    above s t x h k = cert 0 4 (λ d s t x. # 0 ≼ d ⟹ t ≼ s ⟹ x ≼ d ⊗ t ⟹ x ≼ d ⊗ s ∵ hyp 0 ⊠ hyp 1 ⊞ hyp 2) tt (pos d) s t x (pos_nn d) h k

each_larger : {d : ℕ} {bs cs : List Box} {qs : List Point} → Refines bs cs → Each d bs qs → Each d cs qs
each_larger Refines.none Each.none = Each.none
each_larger {d} (Refines.◌&◌ {b = b} {c = c} l ls) (Each.◌&◌ {q = q} w ws) = Each.◌&◌ (in_larger d b c q l w) (each_larger ls ws)

-- the pick of the smaller boxes, as one of the larger
abbrev larger : {bs cs : List Box} → Refines bs cs → Pick bs → Pick cs
larger r k = record { denominator = k.denominator; positive = k.positive; points = k.points; in_boxes = each_larger r k.in_boxes }

pub refinement : Refinement
refinement =
    record {
      inside_stays = λ fine coarse plug r e h. stays fine coarse plug Inside e h (λ m k s. m (larger r k) s);
      outside_stays = λ fine coarse plug r e h. stays fine coarse plug Outside e h (λ m k s. m (larger r k) s);
    }
  where
    stays : (fine coarse : List ℤ) (plug : Point) (w : Word) → verdict_fault fine plug ≡ Fault.none → verdict_on coarse plug ≡ result w
        → (Means (boxes_of coarse) plug w → Means (boxes_of fine) plug w) → verdict_on fine plug ≡ result w
    stays fine coarse plug w e h f = word_reply_lem fine plug w e (f (reply_word coarse plug w h))
