-- The promises of the two calls, the fault first, follow from the equations that they answer by. Assumes nothing.
use mathlib.Core.Path.{◌≡◌, refl, sym, ◌∙◌, ap, ap₂}
use mathlib.Core.List.{List, [], ◌∷◌, ◌++◌}
use Prim.Native.Nat.{ℕ, suc, ◌-◌, ◌*◌, ◌≤◌}
use native.Mathlib.Omega.{arith}
use lib.IntN.{ℤ, pos}
use Rattle.std.proofs.Common.{Result, Ok, Err}
use lib.ListN.{length, drop, length-append, length-replicate}
use Rattle.plane.specs.Members.{All, none, ◌&◌, ◌∈◌, here, there}
use Rattle.plane.specs.declared.Point.{Point}
use Rattle.plane.specs.Polygons.{Distinct, Polygon}
use Rattle.plane.proofs.Lists.{all_imp}
use Rattle.rounds.specs.Boxes.{boxes_of, all_corners}
use Rattle.rounds.specs.Refusals.{Fault, fault, number_of, cause_meant, area_fault}
use Rattle.rounds.proofs.Numbers.{cause_back}
use Rattle.rounds.specs.Replies.{Reply, result, refused, reply_under, buffer_under}
use Rattle.rounds.specs.declared.Cause.{Cause}
use Rattle.outlines.proofs.Polygons.{all_length}
use Rattle.listings.specs.Listings.{flat, zeros, over_front, listing, answered, needed}
use Rattle.listings.proofs.Writing.{flat_length}
use Rattle.polygons.specs.declared.VertexCounts.{VertexCounts}
use Rattle.polygons.proofs.Behind.{few}
use Rattle.rounds.specs.declared.Refusal.{Refusal}
use Rattle.areas.specs.Areas.{counts_of, OuterAnswered, CornersAnswered, OuterPromise, CornersPromise}
use Rattle.areas.proofs.Listing.{none_means}

-- ---- a polygon has no more vertices than there are points

-- the points but for one place where x stands
abbrev without : {x : Point} (qs : List Point) → x ∈ qs → List Point
without [] m = elim m [ ]
without (q ∷ qs) (here e) = qs
without (q ∷ qs) (there m) = q ∷ without qs m

one_fewer : {x : Point} (qs : List Point) (m : x ∈ qs) → length qs ≡ suc (length (without qs m))
one_fewer [] m = elim m [ ]
one_fewer (q ∷ qs) (here e) = refl
one_fewer (q ∷ qs) (there m) = ap suc (one_fewer qs m)

-- another point stands there still
still : {x y : Point} (qs : List Point) (m : x ∈ qs) → (y ≡ x → ⊥) → y ∈ qs → y ∈ without qs m
still [] m d n = elim m [ ]
still (q ∷ qs) (here e) d (here f) = absurd (d (f ∙ sym e))
still (q ∷ qs) (here e) d (there n) = n
still (q ∷ qs) (there m) d (here f) = here f
still (q ∷ qs) (there m) d (there n) = there (still qs m d n)

all_still : {x : Point} (vs qs : List Point) (m : x ∈ qs) → (x ∈ vs → ⊥) → All (λ v. v ∈ qs) vs → All (λ v. v ∈ without qs m) vs
all_still [] qs m d none = none
all_still (v ∷ vs) qs m d (n & a) = still qs m (λ e. d (here (sym e))) n & all_still vs qs m (λ i. d (there i)) a

-- distinct points that all stand in a list are no more than stand there
no_more : (vs qs : List Point) → Distinct vs → All (λ v. v ∈ qs) vs → length vs ≤ length qs
no_more [] qs d a = omega arith
no_more (v ∷ vs) qs d (m & a) = omega (arith, one_fewer qs m, no_more vs (without qs m) d.1 (all_still vs qs m d.0 a))

few_vertices : {qs vs : List Point} → Polygon qs vs → length vs ≤ length qs
few_vertices {qs} {vs} p = no_more vs qs p.once_each (all_imp (λ v x. x.listed) p.only_extreme)

-- ---- the buffer

-- where the vertices have room among the numbers needed, what is listed over the front is the answer
listed_is : (vs : List Point) (n : ℕ) (d : List ℤ) → 2 * length vs ≤ n → over_front (listing n vs) d ≡ answered n vs d
listed_is vs n d h = ap (λ k. listing n vs ++ drop k d) long
  where
    long : length (listing n vs) ≡ n
    long = omega (arith, length-append (flat vs) (zeros (n - 2 * length vs)), length-replicate (n - 2 * length vs) (pos 0), flat_length vs)

-- ---- faults

-- a fault is not none
no_fault : {A : Type 0} {c : Cause} {p : ℕ} {f : Fault} → f ≡ fault c p → f ≡ Fault.none → A
no_fault e g = let z : ◌≡◌ {A = ℕ} 0 1 = cc in absurd (omega arith)

-- a result is no refusal
no_result : {A B : Type 0} {a : A} {n p : ℕ} → result a ≡ refused n p → B
no_result e = let z : ◌≡◌ {A = ℕ} 0 1 = cc in absurd (omega arith)

-- two refusals with the same numbers are by the same fault
same_fault : {A : Type 0} (c d : Cause) (p q : ℕ) → ◌≡◌ {A = Reply A} (refused (number_of c) p) (refused (number_of d) q) → fault c p ≡ fault d q
same_fault c d p q e =
    let n : number_of c ≡ number_of d = cc in
    let k : p ≡ q = cc in
    ap₂ fault (sym (cause_back c) ∙ ap cause_meant n ∙ cause_back d) k

same_result : {A : Type 0} (a b : A) → result a ≡ result b → a ≡ b
same_result a b e = cc

-- ---- the outer polygon

module _ (boxes before : List ℤ) where
  abbrev arisen : Fault
  arisen = area_fault boxes (length before)

  -- the outer polygon has at most four vertices for each box
  outer_room : arisen ≡ Fault.none → (outer : List Point) → Polygon (all_corners (boxes_of boxes)) outer → 2 * length outer ≤ needed boxes
  outer_room e outer p =
      let w = (none_means boxes (length before) e).0.whole in
      omega (arith, few_vertices p, w, all_length boxes w)

  outer_found : (reply : Result ℕ Refusal) (after : List ℤ) → arisen ≡ Fault.none → OuterAnswered boxes before reply after → OuterPromise boxes before reply after
  outer_found (Ok count) after e x =
      let same : result count ≡ result (length x.outer) = x.replied ∙ ap (λ f. reply_under f (length x.outer)) e in
      record {
        cause = sym e;
        kept = λ c p h. no_fault h e;
        listed = λ h. record {
          outer = x.outer;
          polygon = x.polygon e;
          counted = ap Ok (same_result count (length x.outer) same);
          buffer = x.buffer ∙ ap (λ f. buffer_under f (listing (needed boxes) x.outer) before) e ∙ listed_is x.outer (needed boxes) before (outer_room e x.outer (x.polygon e));
        };
      }
  outer_found (Err r) after e x =
      let same : refused (number_of r.cause) r.place ≡ result (length x.outer) = x.replied ∙ ap (λ f. reply_under f (length x.outer)) e in
      no_result (sym same)

  outer_turned_back : (reply : Result ℕ Refusal) (after : List ℤ) (c : Cause) (p : ℕ) → arisen ≡ fault c p → OuterAnswered boxes before reply after → OuterPromise boxes before reply after
  outer_turned_back (Ok count) after c p e x =
      let same : result count ≡ refused (number_of c) p = x.replied ∙ ap (λ f. reply_under f (length x.outer)) e in
      no_result same
  outer_turned_back (Err r) after c p e x =
      let same : ◌≡◌ {A = Reply ℕ} (refused (number_of r.cause) r.place) (refused (number_of c) p) = x.replied ∙ ap (λ f. reply_under f (length x.outer)) e in
      record {
        cause = same_fault r.cause c r.place p same ∙ sym e;
        kept = λ d q h. x.buffer ∙ ap (λ f. buffer_under f (listing (needed boxes) x.outer) before) e;
        listed = λ h. no_fault e h;
      }

-- what outer_polygon answers by its equations keeps the promise with the fault first
pub outer_promise : (boxes before : List ℤ) (reply : Result ℕ Refusal) (after : List ℤ) → OuterAnswered boxes before reply after → OuterPromise boxes before reply after
outer_promise boxes before reply after x = by (area_fault boxes (length before)) refl
  where
    by : (f : Fault) → area_fault boxes (length before) ≡ f → OuterPromise boxes before reply after
    by Fault.none e = outer_found boxes before reply after e x
    by (fault c p) e = outer_turned_back boxes before reply after c p e x

-- ---- the corner polygons

module _ (boxes before : List ℤ) where
  corners_found : (reply : Result VertexCounts Refusal) (after : List ℤ) → area_fault boxes (length before) ≡ Fault.none → CornersAnswered boxes before reply after → CornersPromise boxes before reply after
  corners_found (Ok counts) after e x =
      let same : result counts ≡ result (counts_of x.sw x.se x.ne x.nw) = x.replied ∙ ap (λ f. reply_under f (counts_of x.sw x.se x.ne x.nw)) e in
      record {
        cause = sym e;
        kept = λ c p h. no_fault h e;
        listed = λ h. record {
          sw = x.sw;
          se = x.se;
          ne = x.ne;
          nw = x.nw;
          southwest = x.southwest e;
          southeast = x.southeast e;
          northeast = x.northeast e;
          northwest = x.northwest e;
          counted = ap Ok (same_result counts (counts_of x.sw x.se x.ne x.nw) same);
          buffer = x.buffer ∙ ap (λ f. buffer_under f (listing (needed boxes) (x.sw ++ x.se ++ x.ne ++ x.nw)) before) e ∙ listed_is (x.sw ++ x.se ++ x.ne ++ x.nw) (needed boxes) before room;
        };
      }
    where
      -- each corner polygon has at most one vertex for each box
      room : 2 * length (x.sw ++ x.se ++ x.ne ++ x.nw) ≤ needed boxes
      room =
          simp length-append
          (omega (
            arith,
            few _ boxes (few_vertices (x.southwest e)),
            few _ boxes (few_vertices (x.southeast e)),
            few _ boxes (few_vertices (x.northeast e)),
            few _ boxes (few_vertices (x.northwest e)),
          ))
  corners_found (Err r) after e x =
      let same : refused (number_of r.cause) r.place ≡ result (counts_of x.sw x.se x.ne x.nw) = x.replied ∙ ap (λ f. reply_under f (counts_of x.sw x.se x.ne x.nw)) e in
      no_result (sym same)

  corners_turned_back : (reply : Result VertexCounts Refusal) (after : List ℤ) (c : Cause) (p : ℕ) → area_fault boxes (length before) ≡ fault c p → CornersAnswered boxes before reply after
      → CornersPromise boxes before reply after
  corners_turned_back (Ok counts) after c p e x =
      let same : result counts ≡ refused (number_of c) p = x.replied ∙ ap (λ f. reply_under f (counts_of x.sw x.se x.ne x.nw)) e in
      no_result same
  corners_turned_back (Err r) after c p e x =
      let same : ◌≡◌ {A = Reply VertexCounts} (refused (number_of r.cause) r.place) (refused (number_of c) p) = x.replied ∙ ap (λ f. reply_under f (counts_of x.sw x.se x.ne x.nw)) e in
      record {
        cause = same_fault r.cause c r.place p same ∙ sym e;
        kept = λ d q h. x.buffer ∙ ap (λ f. buffer_under f (listing (needed boxes) (x.sw ++ x.se ++ x.ne ++ x.nw)) before) e;
        listed = λ h. no_fault e h;
      }

-- what corner_polygons answers by its equations keeps the promise with the fault first
pub corners_promise : (boxes before : List ℤ) (reply : Result VertexCounts Refusal) (after : List ℤ) → CornersAnswered boxes before reply after → CornersPromise boxes before reply after
corners_promise boxes before reply after x = by (area_fault boxes (length before)) refl
  where
    by : (f : Fault) → area_fault boxes (length before) ≡ f → CornersPromise boxes before reply after
    by Fault.none e = corners_found boxes before reply after e x
    by (fault c p) e = corners_turned_back boxes before reply after c p e x
