-- `mack::copy_half_bytes`: before each turn the first `i` bytes are copied.
-- Assumes nothing.
use mathlib.Core.Path.{◌≡◌}
use mathlib.Core.List.{◌++◌}
use Prim.Native.Nat.{◌+◌, ◌*◌}
use lib.ListN.{length, take, drop}
use Rattle.layouts.specs.Bits.{bytes_from}
use Rattle.layouts.proofs.mack.copy_half_bytes.Given as goal

abbrev pub invariant-loop-i : goal.invariant-loop-i
invariant-loop-i l =
    let d = l.initial.out in
    l.out ≡ take l.i (bytes_from l.msg (8 * l.first + 4) (length d)) ++ drop l.i d
