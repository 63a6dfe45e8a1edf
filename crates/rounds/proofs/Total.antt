-- Every round and plug has a word, `word_of`, and only one. Assumes nothing.
use Prim.Native.Nat.{ℕ, ◌<◌, ◌≤◌}
use mathlib.Core.Path.{◌≡◌, refl, sym, ◌∙◌, ap, ap₂, subst}
use mathlib.Core.Logic.{◌⊎◌, inl, inr, ⊎_elim, ◌↔◌}
use mathlib.Core.List.{List, [], ◌∷◌, map}
use native.Mathlib.Omega.{arith}
use lib.ListN.{length, length-map}
use Rattle.plane.specs.declared.Point.{Point}
use Rattle.plane.specs.Members.{All, none, ◌&◌}
use Rattle.plane.specs.Vectors.{from, total, weighted, Supported, Balanced, Separated}
use Rattle.plane.proofs.Lists.{all_of}
use Rattle.plane.proofs.Alternative.{alternative, separated_supported}
use Rattle.plane.proofs.Supporting.{supported_dec}
use Rattle.rounds.specs.Boxes.{Ordered, corners_of, all_corners}
use Rattle.rounds.specs.declared.Box.{Box}
use Rattle.rounds.specs.Picks.{Pick}
use Rattle.rounds.specs.Reasons.{corner_at}
use Rattle.rounds.specs.declared.Entry.{Entry}
use Rattle.rounds.specs.Words.{Means, SecondSucceeds, word_by, word_of}
use Rattle.rounds.specs.declared.Word.{Word}
use Rattle.rounds.specs.declared.Word.TheVariants.{Inside, Outside, Undecided}
use Rattle.rounds.specs.declared.Corner.{Corner}
use Rattle.rounds.specs.declared.Corner.TheVariants.{SouthWest, SouthEast, NorthEast, NorthWest}
use Rattle.rounds.proofs.Corners.{corner_pick, inside_by_corners, outside_by_corners}
use Rattle.rounds.proofs.Entries.{mean_pick, second_succeeds, NamedCorner, named_corner}

-- ---- corners that balance, as entries

record Listed (bs : List Box) (ws : List ℕ) (l : List Point) : Type 0 where
  es : List Entry
  named : All (λ e. (1 ≤ e.number) × (e.number ≤ length bs)) es
  weights : map (λ e. e.weight) es ≡ ws
  points : (p : Point) → map (λ e. from 1 p (corner_at 1 bs e)) es ≡ map (from 1 p) l

list_entries : (bs : List Box) (ws : List ℕ) {l : List Point} → All (NamedCorner 1 bs) l → length ws ≡ length l → Listed bs ws l
list_entries bs [] none e = record { es = []; named = none; weights = refl; points = λ p. refl }
list_entries bs [] (h & hs) e = absurd (omega arith)
list_entries bs (w ∷ ws) none e = absurd (omega arith)
list_entries bs (w ∷ ws) (◌&◌ {x = q} {l = l} h hs) e = go (list_entries bs ws hs (omega arith))
  where
    go : Listed bs ws l → Listed bs (w ∷ ws) (q ∷ l)
    go r =
        record {
          es = record { number = h.box; corner = h.corner; weight = w } ∷ r.es;
          named = (h.from_n, omega (arith, h.below)) & r.named;
          weights = ap (λ x. w ∷ x) r.weights;
          points = λ p. ap₂ (λ x y. x ∷ y) (ap (from 1 p) (h.is w)) (r.points p);
        }

pub corners_second : {bs : List Box} (p : Point) (os : All Ordered bs) → Balanced (map (from 1 p) (all_corners bs)) → (k : Pick bs) × SecondSucceeds p k
corners_second {bs} p os h = go (list_entries bs h.weights (all_of (all_corners bs) (λ q m. named_corner bs m)) (h.one_each ∙ length-map (all_corners bs) (from 1 p)))
  where
    go : Listed bs h.weights (all_corners bs) → (k : Pick bs) × SecondSucceeds p k
    go r = (
      mean_pick os r.es,
      second_succeeds p os r.es (record {
        named = r.named;
        some_weight = subst (λ ws. 0 < total ws) (sym r.weights) h.some_weight;
        east_sum = ap₂ (weighted (λ v. v.east)) r.weights (r.points p) ∙ h.east_sum;
        north_sum = ap₂ (weighted (λ v. v.north)) r.weights (r.points p) ∙ h.north_sum;
      }),
    )

-- ---- outside, by all corners at once

-- the second driver has a pick exactly if all the corners together balance
pub second_iff : {bs : List Box} (p : Point) → All Ordered bs → ((k : Pick bs) × SecondSucceeds p k) ↔ Balanced (map (from 1 p) (all_corners bs))
second_iff {bs} p os = (λ h. ⊎_elim (λ b. b) (λ s. absurd (outside_by_corners p s h.0 h.1)) (alternative (map (from 1 p) (all_corners bs))), corners_second p os)

pub outside_iff : {bs : List Box} (p : Point) → All Ordered bs → Means bs p Outside ↔ (Balanced (map (from 1 p) (all_corners bs)) → ⊥)
outside_iff p os = (λ h b. let r = (second_iff p os).1 b in h r.0 r.1, λ n k h. n ((second_iff p os).0 (k, h)))

-- ---- inside and outside exclude each other, and so the word is one

pub not_both : {bs : List Box} (p : Point) → All Ordered bs → Means bs p Inside → Means bs p Outside → ⊥
not_both {bs} p os i o =
    ⊎_elim (λ h. o (corner_pick os SouthWest) h) (λ h. i (corner_pick os SouthWest) (separated_supported _ h)) (alternative (map (from 1 p) (corners_of SouthWest bs)))

pub one_word : {bs : List Box} (p : Point) → All Ordered bs → (x y : Word) → Means bs p x → Means bs p y → x ≡ y
one_word p os Inside Inside h k = refl
one_word p os Inside Outside h k = absurd (not_both p os h k)
one_word p os Inside Undecided h k = absurd (h k.0.0 k.0.1)
one_word p os Outside Inside h k = absurd (not_both p os k h)
one_word p os Outside Outside h k = refl
one_word p os Outside Undecided h k = absurd (h k.1.0 k.1.1)
one_word p os Undecided Inside h k = absurd (k h.0.0 h.0.1)
one_word p os Undecided Outside h k = absurd (k h.1.0 h.1.1)
one_word p os Undecided Undecided h k = refl

-- ---- the word

pub word_means : (bs : List Box) (p : Point) → All Ordered bs → Means bs p (word_of bs p)
unfolding word_of
word_means bs p os = go (alternative (map (from 1 p) (all_corners bs))) (at SouthWest) (at SouthEast) (at NorthEast) (at NorthWest)
  where
    at : (c : Corner) → Dec (Supported (map (from 1 p) (corners_of c bs)))
    at c = supported_dec (map (from 1 p) (corners_of c bs))

    undecided_at : (c : Corner) → Balanced (map (from 1 p) (all_corners bs)) → Supported (map (from 1 p) (corners_of c bs)) → Means bs p Undecided
    undecided_at c h k = ((corner_pick os c, k), corners_second p os h)

    go : (b : Balanced (map (from 1 p) (all_corners bs)) ⊎ Separated (map (from 1 p) (all_corners bs))) (sw : Dec (Supported (map (from 1 p) (corners_of SouthWest bs))))
        (se : Dec (Supported (map (from 1 p) (corners_of SouthEast bs)))) (ne : Dec (Supported (map (from 1 p) (corners_of NorthEast bs)))) (nw : Dec (Supported (map (from 1 p) (corners_of NorthWest bs))))
        → Means bs p (word_by b sw se ne nw)
    go (inr s) sw se ne nw = outside_by_corners p s
    go (inl h) (yes k) se ne nw = undecided_at SouthWest h k
    go (inl h) (no sw) (yes k) ne nw = undecided_at SouthEast h k
    go (inl h) (no sw) (no se) (yes k) nw = undecided_at NorthEast h k
    go (inl h) (no sw) (no se) (no ne) (yes k) = undecided_at NorthWest h k
    go (inl h) (no sw) (no se) (no ne) (no nw) =
        inside_by_corners p (λ c. elim c as (λ k. ¬ Supported (map (from 1 p) (corners_of k bs))) [ SouthWest ↦ sw | SouthEast ↦ se | NorthEast ↦ ne | NorthWest ↦ nw ])

-- a word is the plug's exactly if it holds of every pick what the word says: demand 3, in both directions
pub exactly : (bs : List Box) (p : Point) → All Ordered bs → (w : Word) → Means bs p w ↔ (w ≡ word_of bs p)
exactly bs p os w = (λ h. one_word p os w (word_of bs p) h (word_means bs p os), λ e. subst (Means bs p) (sym e) (word_means bs p os))
