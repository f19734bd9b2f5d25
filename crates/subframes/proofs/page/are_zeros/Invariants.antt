-- `page::are_zeros`: before each turn it is known whether the bytes so far are zeros.
-- Assumes nothing.
use mathlib.Core.Path.{◌≡◌}
use lib.ListN.{take}
use lib.Dec.{eqb}
use Rattle.subframes.specs.Subframe.{zeros}
use Rattle.subframes.proofs.page.are_zeros.Given as goal

abbrev pub invariant-loop-byte : goal.invariant-loop-byte
invariant-loop-byte l = eqb l.any 0 ≡ zeros (take l.byte-index l.byte-items)
