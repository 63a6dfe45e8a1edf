-- A box with a plug inside at each of its four corners has only plugs that are inside. Assumes nothing.
--
-- A direction that supports some points at a plug in the box supports them too at the corner that lies farthest along it.
use mathlib.Core.Path.{◌≡◌, refl, sym, ◌∙◌, ap, ap₂}
use mathlib.Core.Bool.{Bool, true, false, ◌||◌}
use mathlib.Core.List.{List, map}
use Prim.Native.Nat.{ℕ}
use native.Mathlib.Omega.{arith}
use lib.IntN.{ℤ, pos, neg_ℤ, ◌*ℤ◌}
use lib.Signed.{◌≤ℤ◌, lt_z}
use Rattle.integers.specs.Upto.{Upto}
use Rattle.integers.proofs.Expr.{◌⊗◌, ⊝◌, #◌, ◌≼◌, ◌≺◌, ◌⟹◌, bot}
use Rattle.integers.proofs.Lin.{lin}
use Rattle.integers.proofs.Cert.{cert, hyp, ◌∵◌}
use Rattle.integers.proofs.Machine.{lt_z_true}
use Rattle.integers.proofs.Order.{◌≤ᶻ◌}
use Rattle.plane.specs.Points.{InSpan, span}
use Rattle.plane.specs.declared.Point.{Point}
use Rattle.plane.specs.Members.{All}
use Rattle.plane.specs.Vectors.{from, along, Supported}
use Rattle.plane.proofs.Lists.{all_imp, all_map, all_unmap}
use Rattle.plane.proofs.Twins.{pt, fromᴱ, alongᴱ}
use Rattle.rounds.specs.Boxes.{Ordered, corner_of, corners_of}
use Rattle.rounds.specs.Picks.{InBox}
use Rattle.rounds.specs.Refusals.{Fault, none, fault, when, beyond, plug_fault}
use Rattle.rounds.specs.Replies.{result, reply_under}
use Rattle.rounds.specs.Words.{word_of}
use Rattle.rounds.specs.declared.Box.{Box}
use Rattle.rounds.specs.declared.Cause as Cause
use Rattle.rounds.specs.declared.Corner.{Corner}
use Rattle.rounds.specs.declared.Corner.TheVariants.{SouthWest, NorthEast}
use Rattle.rounds.specs.declared.Word.{Word}
use Rattle.rounds.specs.declared.Word.TheVariants.{Inside}
use Rattle.rounds.proofs.Accepted.{plug_accepted}
use Rattle.rounds.proofs.Corners.{highest, low, inside_by_corners, inside_iff}
use Rattle.rounds.proofs.Total.{exactly}
use Rattle.std.specs.Prelude.{Ok}
use Rattle.outlines.specs.RoundPolygons.{RoundPolygons}
use Rattle.outlines.specs.declared.RoundCounts.{RoundCounts}
use Rattle.plug_words.specs.Plugs.{WordBy, Sure}

-- ---- one direction

-- from the farthest corner of a box, a point lies no farther along (a, b) than from a point in the box
nearer : (a b : ℤ) (x : Box) (p q : Point) → InBox 1 x p → along a b (from 1 (corner_of (highest a b) x) q) ≤ᶻ along a b (from 1 p q)
nearer a b x p q w = cert 3 2 (λ p q r a b.
    # 1 ⊗ alongᴱ (⊝ a) (⊝ b) (fromᴱ q r) ≼ alongᴱ (⊝ a) (⊝ b) (fromᴱ q p) ⟹ alongᴱ a b (fromᴱ r q) ≼ alongᴱ a b (fromᴱ p q)
    ∵ hyp 0) tt (pt p) (pt q) (pt (corner_of (highest a b) x)) a b (low 1 (neg_ℤ a) (neg_ℤ b) q x p w)

-- so what supports points at a plug in the box supports them at that corner
corner_supported : (x : Box) (p : Point) (qs : List Point) → InBox 1 x p → (h : Supported (map (from 1 p) qs)) → Supported (map (from 1 (corner_of (highest h.a h.b) x)) qs)
corner_supported x p qs w h =
    let r = corner_of (highest h.a h.b) x in
    record {
      a = h.a;
      b = h.b;
      nonzero = h.nonzero;
      behind = all_map (from 1 r) (all_imp (λ q. within q) (all_unmap (from 1 p) qs h.behind));
    }
  where
    within : (q : Point) → along h.a h.b (from 1 p q) ≤ℤ pos 0 → along h.a h.b (from 1 (corner_of (highest h.a h.b) x) q) ≤ℤ pos 0
    within q k = lin 0 2 (λ s t. s ≼ t ⟹ t ≼ # 0 ⟹ s ≼ # 0) (omega arith) _ _ (nearer h.a h.b x p q w) k

-- ---- the refusal of a plug

-- a plug of the span is not turned back
not_less : (s : Bool) {a b : ℤ} → lt_z a b ≡ s → b ≤ℤ a → lt_z a b ≡ false
not_less true {a} {b} e h = absurd (lin 0 2 (λ a b. a ≺ b ⟹ b ≼ a ⟹ bot) (omega arith) a b (lt_z_true e) h)
not_less false e h = e

in_span : (x : ℤ) → Upto span x → beyond x ≡ false
unfolding beyond
in_span x u = ap₂ ◌||◌ (not_less _ refl u.low) (not_less _ refl u.high)

plug_in_span : (k : ℕ) (p : Point) → InSpan p → plug_fault k p ≡ none
unfolding plug_fault
plug_in_span k p s = ap (λ t. when t Cause.TheVariants.PlugBeyond k) (ap₂ ◌||◌ (in_span p.east s.easts) (in_span p.north s.norths))

-- a plug in a box whose south-west and north-east corners are in the span
between_corners : (x : Box) (p : Point) → InBox 1 x p → InSpan (corner_of SouthWest x) → InSpan (corner_of NorthEast x) → InSpan p
between_corners x p w l h =
    record {
      easts = record { low = above x.west p.east w.from_west l.easts.low; high = below x.east p.east w.to_east h.easts.high };
      norths = record { low = above x.south p.north w.from_south l.norths.low; high = below x.north p.north w.to_north h.norths.high };
    }
  where
    above : (a z : ℤ) → pos 1 *ℤ a ≤ᶻ z → neg_ℤ (pos span) ≤ℤ a → neg_ℤ (pos span) ≤ℤ z
    above = lin 0 2 (λ a z. # 1 ⊗ a ≼ z ⟹ ⊝ # 16000 ≼ a ⟹ ⊝ # 16000 ≼ z) (omega arith)

    below : (a z : ℤ) → z ≤ᶻ pos 1 *ℤ a → a ≤ℤ pos span → z ≤ℤ pos span
    below = lin 0 2 (λ a z. z ≼ # 1 ⊗ a ⟹ a ≼ # 16000 ⟹ z ≼ # 16000) (omega arith)

-- ---- the words

-- a reply with a word: no fault, and it is that word
given : (f : Fault) (v w : Word) → result v ≡ reply_under f w → (f ≡ none) × (v ≡ w)
given none v w e = (refl, cc)
given (fault cause place) v w e = absurd (let z : ◌≡◌ {A = ℕ} 0 1 = cc in omega arith)

-- inside at the four corners of a box
module _ {vertices : List ℕ} {counts : RoundCounts} {x : Box} (h : (c : Corner) → WordBy vertices counts (corner_of c x) (Ok Inside)) {bs : List Box} (os : All Ordered bs)
    (f : RoundPolygons bs vertices counts) where
  at : (c : Corner) → (plug_fault 1 (corner_of c x) ≡ none) × (Inside ≡ word_of bs (corner_of c x))
  at c = given _ _ _ ((h c).says bs os f)

  -- no direction supports corners of one name at a corner of the box, and so none at a plug in it
  none_supported : (r c : Corner) → Supported (map (from 1 (corner_of r x)) (corners_of c bs)) → ⊥
  none_supported r = (inside_iff (corner_of r x) os).0 ((exactly bs (corner_of r x) os Inside).1 (at r).1)

  word_inside : (p : Point) → InBox 1 x p → Inside ≡ word_of bs p
  word_inside p w = (exactly bs p os Inside).0 (inside_by_corners p (λ c s. none_supported (highest s.a s.b) c (corner_supported x p (corners_of c bs) w s)))

  no_fault : (p : Point) → InBox 1 x p → plug_fault 1 p ≡ none
  no_fault p w = plug_in_span 1 p (between_corners x p w (plug_accepted 1 _ (at SouthWest).0) (plug_accepted 1 _ (at NorthEast).0))

-- so is every plug in it
pub sure : (vertices : List ℕ) (counts : RoundCounts) (x : Box) → ((c : Corner) → WordBy vertices counts (corner_of c x) (Ok Inside)) → Sure vertices counts x
sure vertices counts x h = record { says = λ p w. record { says = λ bs os f. ap result (word_inside h os f p w) ∙ sym (ap (λ g. reply_under g (word_of bs p)) (no_fault h os f p w)) } }
