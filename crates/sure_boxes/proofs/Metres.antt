-- Coordinates of the span, one metre more and one less: how the machine holds them. Assumes nothing.
use mathlib.Core.Path.{◌≡◌, refl, sym, subst}
use Prim.Native.Nat.{ℕ}
use lib.Dec.{lit≤}
use Rattle.std.specs.Prelude.{Bool, true, false, cond, ℤ, pos, ◌+ℤ◌, ◌-ℤ◌, FitsSigned}
use Rattle.std.specs.Int.{int_max, int_min}
use lib.Signed.{lt_z as int_lt}
use mir.Syntax.{w32}
use mir.Val.{to_z, of_z}
use Rattle.integers.specs.Upto.{Upto}
use Rattle.integers.proofs.Machine.{Got, got', ask_add, ask_sub, upto_plain}
use Rattle.plane.specs.Points.{span}
use Rattle.turns.specs.Keys.{IsKey, point_of}
use Rattle.turns.proofs.Coordinates.{upto_nat, key_in_span}

-- one metre
one : Got w32 1 (pos 1) (pos 1)
one = record { eq = refl; size = upto_nat {b = 1} 1 (lit≤ tt) }

-- the greater and the lesser of two numbers of the span
either : {a b : ℤ} → Upto span a → Upto span b → (s : Bool) → Upto span (cond s a b)
either h k true = h
either h k false = k

-- one metre past the greater of two coordinates, and one short of the lesser
pub past : {a b r : ℤ} → r ≡ int_max a b → Upto span a → Upto span b → FitsSigned w32 (to_z w32 (of_z w32 r) +ℤ pos 1)
past {a} {b} e h k = ask_add (got' w32 tt (subst (Upto span) (sym e) (either h k (int_lt b a)))) one tt

pub short_of : {a b r : ℤ} → r ≡ int_min a b → Upto span a → Upto span b → FitsSigned w32 (to_z w32 (of_z w32 r) -ℤ pos 1)
short_of {a} {b} e h k = ask_sub (got' w32 tt (subst (Upto span) (sym e) (either k h (int_lt b a)))) one tt

-- a coordinate of a key's point that a call returned as r
pub east_in_span : {k : ℕ} {r : ℤ} → IsKey k → r ≡ (point_of k).east → Upto span (to_z w32 (of_z w32 r))
east_in_span h e = upto_plain w32 tt (subst (Upto span) (sym e) (key_in_span h).easts)

pub north_in_span : {k : ℕ} {r : ℤ} → IsKey k → r ≡ (point_of k).north → Upto span (to_z w32 (of_z w32 r))
north_in_span h e = upto_plain w32 tt (subst (Upto span) (sym e) (key_in_span h).norths)
