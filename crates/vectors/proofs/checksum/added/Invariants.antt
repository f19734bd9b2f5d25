-- `checksum::added`: before each turn both halves are below the modulus.
-- Assumes nothing.
use Prim.Native.Nat.{◌<◌}
use Rattle.vectors.proofs.checksum.added.Given as goal

abbrev pub invariant-loop-byte : goal.invariant-loop-byte
invariant-loop-byte l = (l.a < 65521) × (l.b < 65521)
