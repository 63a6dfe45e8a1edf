-- `views::look_over` meets its contract. The invariant: what is found of all boxes from the start is what is found from the present view on, from corner j of the box at
-- place k. Assumes nothing.
use Rattle.std.specs.Prelude.{Option}
use mathlib.Core.Path.{◌≡◌, sym, ◌∙◌, ap, ap₂}
use mathlib.Core.Bool.{cond}
use mathlib.Core.List.{List}
use Prim.Native.Nat.{ℕ, suc, ◌+◌, ◌≤◌, ◌<◌}
use native.Mathlib.Omega.{arith}
use lib.ListN.{length, drop}
use Rattle.rounds.specs.Boxes.{boxes_of}
use Rattle.rounds.specs.declared.Box.{Box}
use Rattle.rounds.proofs.Rows.{boxes_length}
use Rattle.cones.specs.Wider.{numbered, is_around, cone_with}
use Rattle.cones.specs.declared.Cone.{Cone}
use Rattle.cones.specs.declared.CornerKey.{CornerKey}
use Rattle.passes.specs.Passes.{nth_box, names_in}
use Rattle.passes.specs.declared.CornerSet.{CornerSet}
use Rattle.passes.specs.declared.CornerSet.TheVariants.{One, Four}
use Rattle.views.specs.Views.{nth_name}
use Rattle.views.specs.Looking.{met_with, view_with, looked_over}
use Rattle.views.specs.declared.View.{View}
use Rattle.views.proofs.Looking.{seen, rest, not_around, rest_all, passes_on, takes_corner, ends_box, ends_all}
use Rattle.views.proofs.Viewing.{looks_found}
use Rattle.views.proofs.look_over.Goals as goal

few-names : (set : CornerSet) → (0 < length (names_in set)) × (length (names_in set) ≤ 4)
few-names (One c) = (omega arith, omega arith)
few-names Four = (omega arith, omega arith)

-- a step: the corner at j of the box at k, added to what is seen
module _ (plug : ℕ) (set : CornerSet) (bs : List Box) (start : View) (cone : Cone) (met : Option CornerKey) (k j : ℕ) where
  abbrev found : View
  found = looked_over plug set 1 start bs

  abbrev corner : CornerKey
  corner = numbered (suc k) (nth_box bs k) (nth_name set j)

  -- what is to be known before it
  record Before : Type 0 where
    in_list : k < length bs
    place : j < length (names_in set)
    same : found ≡ rest plug set (suc k) j (seen cone met) (drop k bs)

  -- the view after that corner
  record Added (wider : Cone) (hit : Option CornerKey) (v : CornerKey) : Type 0 where
    is_corner : v ≡ corner
    is_wider : wider ≡ cone_with plug cone v
    is_met : hit ≡ met_with plug met v

  is-next : {wider : Cone} {hit : Option CornerKey} {v : CornerKey} → Added wider hit v → seen wider hit ≡ view_with plug (seen cone met) corner
  is-next a = ap₂ seen (a.is_wider ∙ ap (cone_with plug cone) a.is_corner) (a.is_met ∙ ap (met_with plug met) a.is_corner)

  next : {wider : Cone} {hit : Option CornerKey} {v : CornerKey} → Before → Added wider hit v → found ≡ rest plug set (suc k) (j + 1) (seen wider hit) (drop k bs)
  next b a =
      b.same
      ∙ takes_corner plug set bs (seen cone met) k j b.in_list b.place
      ∙ ap (λ w. rest plug set (suc k) (j + 1) w (drop k bs)) (sym (is-next a))

  -- where it is the box's last, the boxes behind
  abbrev further : View → View
  further w = looked_over plug set (suc (k + 1)) w (drop (k + 1) bs)

  whole : {wider : Cone} {hit : Option CornerKey} {v : CornerKey} → Before → Added wider hit v → length (names_in set) ≤ j + 1
      → found ≡ cond (is_around wider) (seen wider hit) (further (seen wider hit))
  whole {wider = wider} {hit = hit} b a m = next b a ∙ ends_box plug set bs (seen wider hit) k (j + 1) b.in_list m

pub loop-k-init : goal.loop-k-init
loop-k-init c =
    let bs = boxes_of c.args.boxes.numbers.now in
    let e = c.pass_cone-k.ensures.keeps in
    record {
      in_range = omega (arith, e.upto, boxes_length c.args.boxes.numbers.now);
      place = (few-names c.args.set).0;
      same =
          passes_on c.args.plug c.args.set bs c.args.start 0 c.pass_cone-k.result e
          ∙ sym (rest_all c.args.plug c.args.set (suc c.pass_cone-k.result) c.args.start (drop c.pass_cone-k.result bs));
    }

pub returns-in-Around : goal.returns-in-Around
returns-in-Around c =
    let bs = boxes_of c.args.boxes.numbers.now in
    let x = c.nth_corner-v.ensures.exact ∙ ap (numbered (suc c.loop-k.k) (nth_box bs c.loop-k.k)) c.nth_name-corner.ensures in
    let w = seen c.widen-cone.result c.meet-met.result in
    let e = sym (whole c.args.plug c.args.set bs c.args.start c.loop-k.cone c.loop-k.met c.loop-k.k c.loop-k.j
    (record {
      in_list = (omega (arith, boxes_length c.args.boxes.numbers.now));
      place = c.loop-k.invariant.place;
      same = c.loop-k.invariant.same;
    })
    (record { is_corner = x; is_wider = c.widen-cone.ensures.exact; is_met = c.meet-met.ensures.exact })
    (let e = c.corner_count-each.ensures in omega (arith, c.if-j-each.true))
    ∙ ap (λ b. cond b w (further c.args.plug c.args.set bs c.args.start c.loop-k.cone c.loop-k.met c.loop-k.k c.loop-k.j w)) (ap is_around c.in-Around.is)) in
    record { exact = e; looks_over = looks_found c.args.plug bs c.args.boxes.accepted.in_span c.args.set c.args.start e }

pub loop-k-preserved-then-j-each : goal.loop-k-preserved-then-j-each
loop-k-preserved-then-j-each c =
    let bs = boxes_of c.args.boxes.numbers.now in
    let x = c.nth_corner-v.ensures.exact ∙ ap (numbered (suc c.loop-k.k) (nth_box bs c.loop-k.k)) c.nth_name-corner.ensures in
    let e = c.pass_cone-k-then-j-each.ensures.keeps in
    let r = c.pass_cone-k-then-j-each.result in
    let w = seen c.widen-cone.result c.meet-met.result in
    record {
      in_range = omega (arith, e.upto, boxes_length c.args.boxes.numbers.now);
      place = (few-names c.args.set).0;
      same =
          whole c.args.plug c.args.set bs c.args.start c.loop-k.cone c.loop-k.met c.loop-k.k c.loop-k.j
          (record {
            in_list = (omega (arith, boxes_length c.args.boxes.numbers.now));
            place = c.loop-k.invariant.place;
            same = c.loop-k.invariant.same;
          })
          (record { is_corner = x; is_wider = c.widen-cone.ensures.exact; is_met = c.meet-met.ensures.exact })
          (let e = c.corner_count-each.ensures in omega (arith, c.if-j-each.true))
          ∙ ap (λ b. cond b w (further c.args.plug c.args.set bs c.args.start c.loop-k.cone c.loop-k.met c.loop-k.k c.loop-k.j (seen c.widen-cone.result c.meet-met.result))) (not_around c.widen-cone.result c.in_default.not-Around)
          ∙ passes_on c.args.plug c.args.set bs w (c.loop-k.k + 1) r e
          ∙ sym (rest_all c.args.plug c.args.set (suc r) w (drop r bs));
    }

pub returns : goal.returns
returns c =
    let bs = boxes_of c.args.boxes.numbers.now in
    let e = sym (c.loop-k.invariant.same ∙ ends_all c.args.plug c.args.set bs (seen c.loop-k.cone c.loop-k.met) c.loop-k.k c.loop-k.j (omega (arith, boxes_length c.args.boxes.numbers.now))) in
    record { exact = e; looks_over = looks_found c.args.plug bs c.args.boxes.accepted.in_span c.args.set c.args.start e }
