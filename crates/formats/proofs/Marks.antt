-- The marks of the kinds of record. Assumes nothing.
use mathlib.Core.Path.{◌≡◌}
use Prim.Native.Nat.{ℕ}
use native.Mathlib.Omega.{arith}
use Rattle.std.proofs.lemmas.Bool.Decides.{nat_tests}
use Rattle.formats.specs.Format.{box_mark, plug_mark, end_mark, box_kind, plug_kind, end_kind, kind_of}

pub box_marked : (mark : ℕ) → kind_of mark ≡ box_kind → mark ≡ box_mark
unfolding kind_of
box_marked mark e = grind (arith, nat_tests)

pub plug_marked : (mark : ℕ) → kind_of mark ≡ plug_kind → mark ≡ plug_mark
unfolding kind_of
plug_marked mark e = grind (arith, nat_tests)

pub end_marked : (mark : ℕ) → kind_of mark ≡ end_kind → mark ≡ end_mark
unfolding kind_of
end_marked mark e = grind (arith, nat_tests)
