-- The two calls' promises: polygons in the buffer, and zeros behind them. Assumes nothing.
use mathlib.Core.Path.{◌≡◌, sym, ◌∙◌, ap}
use mathlib.Core.List.{List, [], ◌++◌}
use Prim.Native.Nat.{ℕ, ◌+◌, ◌-◌, ◌*◌, ◌≤◌}
use native.Mathlib.Omega.{arith}
use borrow.Author.Tests.{ltb-false}
use lib.Dec.{ltb}
use lib.IntN.{ℤ}
use Rattle.std.proofs.Common.{Result, Ok, Err}
use lib.ListN.{length, take, drop, length-append}
use Rattle.rounds.specs.Boxes.{BoxList, boxes_of, all_corners}
use Rattle.rounds.specs.Refusals.{Fault, refusal_fault, needed_place, box_list_fault, buffer_fault, area_fault}
use Rattle.rounds.specs.declared.Cause.TheVariants.{BufferShort}
use Rattle.rounds.specs.declared.Refusal.{Refusal}
use Rattle.rounds.proofs.Accepted.{or_else_none, when_none, accepted}
use Rattle.listings.specs.Listings.{zeros, over_front, listing, needed}
use Rattle.listings.proofs.Writing.{zeros_behind}
use Rattle.polygons.specs.declared.VertexCounts.{VertexCounts}
use Rattle.polygons.specs.Written.{PolygonWritten, CornersWritten}
use Rattle.areas.specs.Areas.{counts_of, OuterAnswered, CornersAnswered}
use Rattle.areas.specs.Steps.{OuterStands, CornersStand}
use Rattle.rounds.specs.Replies.{reply_of, reply_under, buffer_under, result}

-- how many vertices the corner polygons have
abbrev pub sum : VertexCounts → ℕ
sum c = c.southwest + c.southeast + c.northeast + c.northwest

module _ (boxes d : List ℤ) where
  -- the outer polygon, and zeros behind it
  pub outer_zeroed : (xs ys : List ℤ) (count n : ℕ) → PolygonWritten (all_corners (boxes_of boxes)) 0 d count xs → n ≡ needed boxes → count * 2 ≤ n
      → ys ≡ take (count * 2) xs ++ zeros (n - count * 2) ++ drop n xs → OuterStands boxes d count ys
  outer_zeroed xs ys count n w s l q =
      record {
        outer = w.vertices;
        polygon = w.made.polygon;
        counted = w.made.counted;
        buffer = q ∙ zeros_behind w.vertices d xs n (count * 2) (ap (λ n. n * 2) (sym w.made.counted)) l w.buffer ∙ ap (λ n. over_front (listing n w.vertices) d) s;
      }

  -- the corner polygons, and zeros behind them
  pub corners_zeroed : (xs ys : List ℤ) (c : VertexCounts) (n : ℕ) → CornersWritten (boxes_of boxes) d c xs → n ≡ needed boxes → sum c * 2 ≤ n
      → ys ≡ take (sum c * 2) xs ++ zeros (n - sum c * 2) ++ drop n xs → CornersStand boxes d c ys
  corners_zeroed xs ys c n w s l q =
      record {
        sw = w.sw;
        se = w.se;
        ne = w.ne;
        nw = w.nw;
        southwest = w.southwest.polygon;
        southeast = w.southeast.polygon;
        northeast = w.northeast.polygon;
        northwest = w.northwest.polygon;
        counted = λ i. record {
          southwest = w.southwest.counted i;
          southeast = w.southeast.counted i;
          northeast = w.northeast.counted i;
          northwest = w.northwest.counted i;
        };
        buffer = q ∙ zeros_behind (w.sw ++ w.se ++ w.ne ++ w.nw) d xs n (sum c * 2) long l w.buffer ∙ ap (λ n. over_front (listing n (w.sw ++ w.se ++ w.ne ++ w.nw)) d) s;
      }
    where
      long : length (w.sw ++ w.se ++ w.ne ++ w.nw) * 2 ≡ sum c * 2
      long = simp length-append (omega (arith, w.southwest.counted, w.southeast.counted, w.northeast.counted, w.northwest.counted))

-- ---- the promises

-- no fault: the boxes are accepted, and the buffer is long enough
pub none_means : (boxes : List ℤ) (given : ℕ) → area_fault boxes given ≡ Fault.none → BoxList boxes × (needed boxes ≤ given)
unfolding area_fault buffer_fault
none_means boxes given e =
    let r = or_else_none (box_list_fault boxes) (buffer_fault (needed boxes) given) e in
    (accepted boxes r.0, ltb-false _ _ (when_none (ltb given (needed boxes)) BufferShort (needed_place (needed boxes)) r.1))

module _ (boxes before : List ℤ) where
  -- a refusal, and the buffer as it was
  module _ (refusal : Refusal) (is : refusal_fault refusal ≡ area_fault boxes (length before)) where
    turned_back : {A : Type 0} → area_fault boxes (length before) ≡ Fault.none → A
    turned_back h = absurd (let z : ◌≡◌ {A = ℕ} 0 1 = cc in omega arith)

    pub outer_refused : (reply : Result ℕ Refusal) → reply ≡ Err refusal → OuterAnswered boxes before reply before
    outer_refused reply r =
        record {
          outer = [];
          polygon = turned_back;
          replied = ap reply_of r ∙ ap (λ f. reply_under f 0) is;
          buffer = ap (λ f. buffer_under f (listing (needed boxes) []) before) is;
        }

    pub corners_refused : (reply : Result VertexCounts Refusal) → reply ≡ Err refusal → CornersAnswered boxes before reply before
    corners_refused reply r =
        record {
          sw = [];
          se = [];
          ne = [];
          nw = [];
          southwest = turned_back;
          southeast = turned_back;
          northeast = turned_back;
          northwest = turned_back;
          replied = ap reply_of r ∙ ap (λ f. reply_under f (counts_of [] [] [] [])) is;
          buffer = ap (λ f. buffer_under f (listing (needed boxes) []) before) is;
        }

  -- what no cause turns back
  module _ (after : List ℤ) (a : Fault.none ≡ area_fault boxes (length before)) where
    pub outer_listed : (count : ℕ) → OuterStands boxes before count after → OuterAnswered boxes before (Ok count) after
    outer_listed count l =
        record {
          outer = l.outer;
          polygon = λ h. l.polygon;
          replied = ap result l.counted ∙ ap (λ f. reply_under f (length l.outer)) a;
          buffer = l.buffer ∙ ap (λ f. buffer_under f (listing (needed boxes) l.outer) before) a;
        }

    pub corners_listed : (counts : VertexCounts) → CornersStand boxes before counts after → CornersAnswered boxes before (Ok counts) after
    corners_listed counts l =
        record {
          sw = l.sw;
          se = l.se;
          ne = l.ne;
          nw = l.nw;
          southwest = λ h. l.southwest;
          southeast = λ h. l.southeast;
          northeast = λ h. l.northeast;
          northwest = λ h. l.northwest;
          replied = ap result l.counted ∙ ap (λ f. reply_under f (counts_of l.sw l.se l.ne l.nw)) a;
          buffer = l.buffer ∙ ap (λ f. buffer_under f (listing (needed boxes) (l.sw ++ l.se ++ l.ne ++ l.nw)) before) a;
        }
