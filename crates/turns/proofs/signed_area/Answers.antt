-- `turns::signed_area` meets its contract. A difference of coordinates is at most 32,000 in size, a product of two at most 1,024,000,000: all fit.
-- Assumes nothing.
use lib.IntN.{ℤ, ◌-ℤ◌}
use mir.Syntax.{w64}
use mir.Val.{to_z, of_z}
use Rattle.integers.proofs.Machine.{Got, ask_sub, got_sub, ask_mul, got_mul}
use Rattle.turns.specs.Keys.{point_of}
use Rattle.turns.proofs.Coordinates.{key_in_span, wide}
use Rattle.turns.proofs.signed_area.Goals as goal
use Rattle.turns.proofs.signed_area.Goals.{After-from-cn}

-- a coordinate as the function holds it
abbrev held : ℤ → ℤ
held r = to_z w64 (of_z w64 r)

-- the six coordinates, once all are read
module _ (c : After-from-cn) where
  ae : Got w64 16000 (held c.from-ae.result) (point_of c.args.a).east
  ae = wide tt tt c.from-ae.ensures c.east.ensures.value (key_in_span c.east.ensures.key).easts

  an : Got w64 16000 (held c.from-an.result) (point_of c.args.a).north
  an = wide tt tt c.from-an.ensures c.north.ensures.value (key_in_span c.north.ensures.key).norths

  be : Got w64 16000 (held c.from-be.result) (point_of c.args.b).east
  be = wide tt tt c.from-be.ensures c.east-2.ensures.value (key_in_span c.east-2.ensures.key).easts

  bn : Got w64 16000 (held c.from-bn.result) (point_of c.args.b).north
  bn = wide tt tt c.from-bn.ensures c.north-2.ensures.value (key_in_span c.north-2.ensures.key).norths

  ce : Got w64 16000 (held c.from-ce.result) (point_of c.args.c).east
  ce = wide tt tt c.from-ce.ensures c.east-3.ensures.value (key_in_span c.east-3.ensures.key).easts

  cn : Got w64 16000 (held c.from-cn.result) (point_of c.args.c).north
  cn = wide tt tt c.from-cn.ensures c.north-3.ensures.value (key_in_span c.north-3.ensures.key).norths

-- a difference of two coordinates
difference : {t s z y : ℤ} → Got w64 16000 t z → Got w64 16000 s y → Got w64 32000 (to_z w64 (of_z w64 (t -ℤ s))) (z -ℤ y)
difference h k = got_sub h k tt

pub overflow_sub-result : goal.overflow_sub-result
overflow_sub-result c = ask_sub (be c) (ae c) tt

pub overflow_sub-result-2 : goal.overflow_sub-result-2
overflow_sub-result-2 c = ask_sub (cn c) (an c) tt

pub overflow_mul-result : goal.overflow_mul-result
overflow_mul-result c = ask_mul (difference (be c) (ae c)) (difference (cn c) (an c)) tt

pub overflow_sub-result-3 : goal.overflow_sub-result-3
overflow_sub-result-3 c = ask_sub (bn c) (an c) tt

pub overflow_sub-result-4 : goal.overflow_sub-result-4
overflow_sub-result-4 c = ask_sub (ce c) (ae c) tt

pub overflow_mul-result-2 : goal.overflow_mul-result-2
overflow_mul-result-2 c = ask_mul (difference (bn c) (an c)) (difference (ce c) (ae c)) tt

pub overflow_sub-result-5 : goal.overflow_sub-result-5
overflow_sub-result-5 c =
    ask_sub
    (got_mul (difference (be c) (ae c)) (difference (cn c) (an c)) tt)
    (got_mul (difference (bn c) (an c)) (difference (ce c) (ae c)) tt)
    tt

pub returns : goal.returns
returns c =
    record {
      value =
          (got_sub
          (got_mul (difference (be c) (ae c)) (difference (cn c) (an c)) tt)
          (got_mul (difference (bn c) (an c)) (difference (ce c) (ae c)) tt)
          tt).eq;
      keys = (c.east.ensures.key, c.east-2.ensures.key, c.east-3.ensures.key);
    }
