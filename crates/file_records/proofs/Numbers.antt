-- Marks and numbers as std's bytes, high byte first, and a part of a buffer that was written over. Assumes nothing.
use mathlib.Core.Path.{◌≡◌}
use mathlib.Core.List.{List, ◌++◌}
use Prim.Native.Nat.{ℕ, ◌+◌, ◌-◌, ◌/◌, ◌%◌, ◌^◌, ◌<◌}
use native.Mathlib.Omega.{arith}
use lib.IntN.{ℤ}
use lib.ListN.{length, take, drop}
use lib.Seq.{drop-drop}
use mir.Val.{SFits, to_z, of_z}
use mir.ValLaws.{to_z-of_z, of_z_fits}
use Rattle.std.specs.Int.{w16, w32, to_be_bytes}
use Rattle.formats.specs.Format.{mark_bytes, four_bytes, number_bytes}
use Rattle.file_records.specs.Records.{over}

-- the bytes of a mark and of the bits of a number
pub mark_same : (mark : ℕ) → mark < 2 ^ 16 → to_be_bytes w16 mark ≡ mark_bytes mark
unfolding mark_bytes
mark_same mark h = let e : mark / 256 % 256 ≡ mark / 256 = omega arith in rw e

four_same : (bits : ℕ) → bits < 2 ^ 32 → to_be_bytes w32 bits ≡ four_bytes bits
unfolding four_bytes
four_same bits h = let e : bits / 16777216 % 256 ≡ bits / 16777216 = omega arith in rw e

-- the bytes of a number, which a callee is passed as what is read back from its bits
pub number_same : (z : ℤ) → SFits w32 z → to_be_bytes w32 (of_z w32 (to_z w32 (of_z w32 z))) ≡ number_bytes z
unfolding number_bytes
number_same z f = rw (to_z-of_z w32 z f) (four_same (of_z w32 z) (omega (arith, of_z_fits w32 z f)))

-- `xs[at..at + n]` after new elements were copied to it
pub part_over : {A : Type 0} (xs : List A) (at n : ℕ) {part new : List A} → part ≡ new → length new ≡ n
    → take at xs ++ (part ++ drop (at + n - at) (drop at xs)) ≡ over xs at new
part_over xs at n {part} {new} e l = let m : at + n - at ≡ length new = omega (arith, l) in rw (e, m, drop-drop (length new) at xs)
