-- `page::are_zeros`: before each turn it is known whether the bytes so far are zeros.
-- Assumes nothing.
use Rattle.subframes.proofs.Pages.{zeros_none, zeros_turn}
use Rattle.subframes.proofs.page.are_zeros.Goals as goal

pub loop-byte-init : goal.loop-byte-init
loop-byte-init c = zeros_none

pub loop-byte-preserved : goal.loop-byte-preserved
loop-byte-preserved c = zeros_turn _ c.loop-byte.byte-index c.loop-byte.any c.loop-byte-test.true c.loop-byte.invariant
