-- `fields::put`: before each turn the first `i` bytes are copied.
-- Assumes nothing.
use mathlib.Core.Path.{◌≡◌}
use lib.Seq.{paste}
use Rattle.transmitter.proofs.fields.put.Given as goal

abbrev pub invariant-loop-i : goal.invariant-loop-i
invariant-loop-i l = l.dsm ≡ paste l.initial.dsm l.at l.from l.i
