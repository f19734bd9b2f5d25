-- `kroot::head`: each value in its place.
-- Assumes nothing.
use native.Mathlib.Omega.{arith}
use Rattle.layouts.specs.Packed.{packed_on}
use Rattle.transmitter.proofs.kroot.head.Goals as goal

pub returns : goal.returns
unfolding packed_on
returns c = omega arith
