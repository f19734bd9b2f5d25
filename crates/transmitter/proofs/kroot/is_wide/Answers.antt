-- `kroot::is_wide`: each value with its row; the reserved ones are 0.
-- Assumes nothing.
use Rattle.layouts.specs.Packed.{too_wide}
use Rattle.transmitter.proofs.kroot.is_wide.Goals as goal

pub returns : goal.returns
unfolding too_wide
returns c = c.any_wide.ensures
