-- The cone of one more point v, behind the points qs: case by case, what the cone of both says. Assumes nothing.
use mathlib.Core.Path.{◌≡◌, refl, sym, subst}
use mathlib.Core.List.{List, [], ◌∷◌, ◌++◌, map}
use lib.IntN.{pos}
use lib.Signed.{◌≤ℤ◌, ◌<ℤ◌}
use Rattle.integers.proofs.Ring.{ring}
use Rattle.integers.proofs.Expr.{#◌, ◌≐◌}
use Rattle.integers.proofs.Order.{<→≤, ≡→≤}
use Rattle.plane.specs.Points.{signed_area, dot_product}
use Rattle.plane.specs.declared.Point.{Point}
use Rattle.plane.specs.Members.{All, none, ◌&◌, here}
use Rattle.plane.specs.Vectors.{from, Supported}
use Rattle.plane.proofs.Lists.{all_at, all_imp, all_both, all_map, all_unmap, all_append, all_left, in_left, in_right}
use Rattle.plane.proofs.Twins.{signed_areaᴱ, pt}
use Rattle.plane.proofs.Sides.{dot_productᴱ}
use Rattle.plane.proofs.PolygonFacts.{apart_length}
use Rattle.plane.proofs.Winding.{winding_within}
use Rattle.rounds.specs.declared.Box.{Box}
use Rattle.cones.specs.Cones.{corner_point, Named, Seen, AllOnLine, AllInWedge, IsAround, Widened}
use Rattle.cones.specs.declared.CornerKey.{CornerKey}
use Rattle.cones.specs.declared.Cone.TheVariants.{Nothing, Ray, Line, Wedge, Half, Around}
use Rattle.cones.proofs.Turns.{back_pos, back_zero, back_ahead, cycle_neg, cycle_neg_back, area_at, apart_a, apart_b, apart_opposite, ray_left, ray_right, flip_nn, flip_pos, flip_neg, new_right, new_left, opposite_b, opposite_a}

-- ---- more points

pub seen_more : {bs : List Box} {qs : List Point} {v : CornerKey} (more : List Point) → Seen bs qs v → Seen bs (qs ++ more) v
seen_more {qs = qs} more s = record { named = s.named; listed = in_left qs more s.listed }

-- what supports more points supports the fewer
pub supported_fewer : (p : Point) (qs more : List Point) → Supported (map (from 1 p) (qs ++ more)) → Supported (map (from 1 p) qs)
supported_fewer p qs more h =
    record { a = h.a; b = h.b; nonzero = h.nonzero; behind = all_map (from 1 p) (all_left qs more (all_unmap (from 1 p) (qs ++ more) h.behind)) }

pub around_more : {bs : List Box} {qs : List Point} {p : Point} {a b c : CornerKey} (more : List Point) → IsAround bs qs p a b c → IsAround bs (qs ++ more) p a b c
around_more {qs = qs} {p = p} more h =
    record {
      seen_a = seen_more more h.seen_a;
      seen_b = seen_more more h.seen_b;
      seen_c = seen_more more h.seen_c;
      of_a_b = h.of_a_b;
      of_b_c = h.of_b_c;
      of_c_a = h.of_c_a;
      surrounded = λ s. h.surrounded (supported_fewer p qs more s);
    }

-- a point of the wedge leaves it as it is
pub wedge_more : {bs : List Box} {qs : List Point} (p q : Point) (a b : CornerKey) → pos 0 ≤ℤ signed_area p (corner_point a) q → pos 0 ≤ℤ signed_area p q (corner_point b)
    → AllInWedge bs qs p a b → AllInWedge bs (qs ++ (q ∷ [])) p a b
wedge_more p q a b h g r =
    record {
      seen_a = seen_more (q ∷ []) r.seen_a;
      seen_b = seen_more (q ∷ []) r.seen_b;
      wide = r.wide;
      from_a = all_append r.from_a (h & none);
      to_b = all_append r.to_b (g & none);
    }

-- a point of the line leaves it as it is
pub line_more : {bs : List Box} {qs : List Point} (p q : Point) (a b : CornerKey) → signed_area p (corner_point a) q ≡ pos 0 → AllOnLine bs qs p a b → AllOnLine bs (qs ++ (q ∷ [])) p a b
line_more p q a b h r =
    record { seen_a = seen_more (q ∷ []) r.seen_a; seen_b = seen_more (q ∷ []) r.seen_b; opposite = r.opposite; in_line = all_append r.in_line (h & none) }

module _ (p : Point) (k : CornerKey) where
  abbrev v : Point
  v = corner_point k

  abbrev more : List Point → List Point
  more qs = qs ++ (v ∷ [])

  grow : {P : Point → Type 0} {qs : List Point} → All P qs → P v → All P (more qs)
  grow h x = all_append h (x & none)

  here_too : {bs : List Box} (qs : List Point) → Named bs k → Seen bs (more qs) k
  here_too qs n = record { named = n; listed = in_right qs (v ∷ []) (here refl) }

  old : {bs : List Box} {qs : List Point} {i : CornerKey} → Seen bs qs i → Seen bs (more qs) i
  old = seen_more (v ∷ [])

  area_self : signed_area p v v ≡ pos 0
  area_self = ring 2 0 (λ p v. signed_areaᴱ p v v ≐ # 0) tt (pt p) (pt v)

  ahead_at : dot_product p v p ≡ pos 0
  ahead_at = ring 2 0 (λ p v. dot_productᴱ p v p ≐ # 0) tt (pt p) (pt v)

  -- ---- nothing but the plug

  pub nothing_same : v ≡ p → Widened p Nothing k Nothing
  nothing_same e = record { says = λ bs qs n h. grow h e }

  pub nothing_ray : (v ≡ p → ⊥) → Widened p Nothing k (Ray k)
  nothing_ray ne =
      let l = apart_length p v (λ e. ne (sym e)) in
      record {
        says = λ bs qs n h. record {
          seen_a = here_too qs n;
          apart = l;
          in_line = grow (all_imp (λ q e. subst (λ x. signed_area p v x ≡ pos 0) (sym e) (area_at p v)) h) area_self;
          onward = grow (all_imp (λ q e. subst (λ x. pos 0 ≤ℤ dot_product p v x) (sym e) (≡→≤ (sym ahead_at))) h) (<→≤ l);
        };
      }

  -- ---- a ray

  module _ (a : CornerKey) where
    abbrev ray_a : Point
    ray_a = corner_point a

    pub ray_to_left : pos 0 <ℤ signed_area p ray_a v → Widened p (Ray a) k (Wedge a k)
    ray_to_left h =
        record {
          says = λ bs qs n r. record {
            seen_a = old r.seen_a;
            seen_b = here_too qs n;
            wide = h;
            from_a = grow (all_imp (λ q e. ≡→≤ (sym e)) r.in_line) (<→≤ h);
            to_b = grow (all_both (λ q e f. ray_left p ray_a v q e f h r.apart) r.in_line r.onward) (≡→≤ (sym area_self));
          };
        }

    pub ray_to_right : signed_area p ray_a v <ℤ pos 0 → Widened p (Ray a) k (Wedge k a)
    ray_to_right h =
        record {
          says = λ bs qs n r. record {
            seen_a = here_too qs n;
            seen_b = old r.seen_a;
            wide = back_pos p ray_a v h;
            from_a = grow (all_both (λ q e f. ray_right p ray_a v q e f h r.apart) r.in_line r.onward) (≡→≤ (sym area_self));
            to_b = grow (all_imp (λ q e. ≡→≤ (sym (back_zero p ray_a q e))) r.in_line) (<→≤ (back_pos p ray_a v h));
          };
        }

    pub ray_to_line : signed_area p ray_a v ≡ pos 0 → dot_product p ray_a v <ℤ pos 0 → Widened p (Ray a) k (Line a k)
    ray_to_line e h = record { says = λ bs qs n r. record { seen_a = old r.seen_a; seen_b = here_too qs n; opposite = h; in_line = grow r.in_line e } }

    pub ray_same : signed_area p ray_a v ≡ pos 0 → pos 0 ≤ℤ dot_product p ray_a v → Widened p (Ray a) k (Ray a)
    ray_same e h = record { says = λ bs qs n r. record { seen_a = old r.seen_a; apart = r.apart; in_line = grow r.in_line e; onward = grow r.onward h } }

  module _ (a b : CornerKey) where
    abbrev A : Point
    A = corner_point a

    abbrev B : Point
    B = corner_point b

    -- ---- a line

    pub line_to_left : pos 0 <ℤ signed_area p A v → Widened p (Line a b) k (Half a b)
    line_to_left h =
        record {
          says = λ bs qs n r. record {
            seen_a = old r.seen_a;
            seen_b = old r.seen_b;
            opposite = r.opposite;
            straight = all_at r.in_line r.seen_b.listed;
            from_a = grow (all_imp (λ q e. ≡→≤ (sym e)) r.in_line) (<→≤ h);
            c = v;
            listed = (here_too qs n).listed;
            left = h;
          };
        }

    pub line_to_right : signed_area p A v <ℤ pos 0 → Widened p (Line a b) k (Half b a)
    line_to_right h =
        record {
          says = λ bs qs n r.
              let s = all_at r.in_line r.seen_b.listed in
              let l = apart_opposite p A B r.opposite in
              record {
                seen_a = old r.seen_b;
                seen_b = old r.seen_a;
                opposite = back_ahead p A B r.opposite;
                straight = back_zero p A B s;
                from_a = grow (all_imp (λ q e. flip_nn p A B q s r.opposite l (≡→≤ e)) r.in_line) (flip_nn p A B v s r.opposite l (<→≤ h));
                c = v;
                listed = (here_too qs n).listed;
                left = flip_pos p A B v s r.opposite l h;
              };
        }

    pub line_same : signed_area p A v ≡ pos 0 → Widened p (Line a b) k (Line a b)
    line_same e = record { says = λ bs qs n r. record { seen_a = old r.seen_a; seen_b = old r.seen_b; opposite = r.opposite; in_line = grow r.in_line e } }

    -- ---- a half-plane

    pub half_same : pos 0 ≤ℤ signed_area p A v → Widened p (Half a b) k (Half a b)
    half_same h =
        record {
          says = λ bs qs n r. record {
            seen_a = old r.seen_a;
            seen_b = old r.seen_b;
            opposite = r.opposite;
            straight = r.straight;
            from_a = grow r.from_a h;
            c = r.c;
            listed = in_left qs (v ∷ []) r.listed;
            left = r.left;
          };
        }

    -- the listing a, v, b, c winds round the plug
    pub half_to_around : signed_area p A v <ℤ pos 0 → Widened p (Half a b) k (Around a b k)
    half_to_around h =
        record {
          says = λ bs qs n r.
              let l = apart_opposite p A B r.opposite in
              let bv = flip_pos p A B v r.straight r.opposite l h in
              let bc = flip_neg p A B r.c r.straight r.opposite l r.left in
              record {
                seen_a = old r.seen_a;
                seen_b = old r.seen_b;
                seen_c = here_too qs n;
                of_a_b = ≡→≤ (sym r.straight);
                of_b_c = bv;
                of_c_a = back_pos p A v h;
                surrounded = winding_within p A (v ∷ B ∷ r.c ∷ []) (more qs)
                    (cycle_neg p A v h, (cycle_neg_back p v B bv, (cycle_neg p B r.c bc, cycle_neg_back p r.c A r.left)))
                    ((old r.seen_a).listed & (here_too qs n).listed & (old r.seen_b).listed & in_left qs (v ∷ []) r.listed & none);
              };
        }

    -- ---- a wedge

    pub wedge_same : pos 0 ≤ℤ signed_area p A v → pos 0 ≤ℤ signed_area p v B → Widened p (Wedge a b) k (Wedge a b)
    wedge_same h g = record { says = λ bs qs n r. wedge_more p v a b h g r }

    pub wedge_to_right : signed_area p A v <ℤ pos 0 → pos 0 <ℤ signed_area p v B → Widened p (Wedge a b) k (Wedge k b)
    wedge_to_right h w =
        record {
          says = λ bs qs n r. record {
            seen_a = here_too qs n;
            seen_b = old r.seen_b;
            wide = w;
            from_a = grow (all_both (λ q x y. new_right p A B v q r.wide x y h (<→≤ w)) r.from_a r.to_b) (≡→≤ (sym area_self));
            to_b = grow r.to_b (<→≤ w);
          };
        }

    pub wedge_to_left : pos 0 <ℤ signed_area p A v → signed_area p v B <ℤ pos 0 → Widened p (Wedge a b) k (Wedge a k)
    wedge_to_left w h =
        record {
          says = λ bs qs n r. record {
            seen_a = old r.seen_a;
            seen_b = here_too qs n;
            wide = w;
            from_a = grow r.from_a (<→≤ w);
            to_b = grow (all_both (λ q x y. new_left p A B v q r.wide x y (<→≤ w) h) r.from_a r.to_b) (≡→≤ (sym area_self));
          };
        }

    pub wedge_half_right : signed_area p A v <ℤ pos 0 → signed_area p v B ≡ pos 0 → Widened p (Wedge a b) k (Half k b)
    wedge_half_right h e =
        record {
          says = λ bs qs n r. record {
            seen_a = here_too qs n;
            seen_b = old r.seen_b;
            opposite = opposite_b p A B v r.wide (apart_b p A B r.wide) h e;
            straight = e;
            from_a = grow (all_both (λ q x y. new_right p A B v q r.wide x y h (≡→≤ (sym e))) r.from_a r.to_b) (≡→≤ (sym area_self));
            c = A;
            listed = (old r.seen_a).listed;
            left = back_pos p A v h;
          };
        }

    pub wedge_half_left : signed_area p A v ≡ pos 0 → signed_area p v B <ℤ pos 0 → Widened p (Wedge a b) k (Half a k)
    wedge_half_left e h =
        record {
          says = λ bs qs n r. record {
            seen_a = old r.seen_a;
            seen_b = here_too qs n;
            opposite = opposite_a p A B v r.wide (apart_a p A B r.wide) e h;
            straight = e;
            from_a = grow r.from_a (≡→≤ (sym e));
            c = B;
            listed = (old r.seen_b).listed;
            left = r.wide;
          };
        }

    -- the listing a, v, b winds round the plug
    pub wedge_to_around : signed_area p A v <ℤ pos 0 → signed_area p v B <ℤ pos 0 → Widened p (Wedge a b) k (Around a b k)
    wedge_to_around h g =
        record {
          says = λ bs qs n r. record {
            seen_a = old r.seen_a;
            seen_b = old r.seen_b;
            seen_c = here_too qs n;
            of_a_b = <→≤ r.wide;
            of_b_c = back_pos p v B g;
            of_c_a = back_pos p A v h;
            surrounded = winding_within p A (v ∷ B ∷ []) (more qs)
                (cycle_neg p A v h, (cycle_neg p v B g, cycle_neg_back p B A r.wide))
                ((old r.seen_a).listed & (here_too qs n).listed & (old r.seen_b).listed & none);
          };
        }

  -- ---- strictly inside stays so

  pub around_same : (a b c : CornerKey) → Widened p (Around a b c) k (Around a b c)
  around_same a b c = record { says = λ bs qs n r. around_more (v ∷ []) r }
