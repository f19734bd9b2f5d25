-- `bits::bytes`: before each turn `acc` is the field of the bytes passed.
-- Assumes nothing.
use mathlib.Core.Path.{◌≡◌}
use Prim.Native.Nat.{◌*◌}
use Rattle.layouts.specs.Bits.{field}
use Rattle.layouts.proofs.bits.bytes.Given as goal

abbrev pub invariant-loop-byte : goal.invariant-loop-byte
invariant-loop-byte l = l.acc ≡ field l.s (8 * l.first) (8 * l.byte-index)
