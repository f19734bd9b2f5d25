-- `gst::check_svn`: in the range, below it and above it.
-- Assumes nothing.
use Rattle.layouts.proofs.Timed.{satellite_zero, satellite_high, satellite_fits}
use native.Mathlib.Omega.{arith}
use Rattle.layouts.proofs.gst.check_svn.Goals as goal

pub returns-in-1-to-36 : goal.returns-in-1-to-36
returns-in-1-to-36 c = satellite_fits _ (omega arith) (omega arith)

pub returns-in_default : goal.returns-in_default
returns-in_default c = search (satellite_zero, satellite_high)

pub returns-in_default-2 : goal.returns-in_default-2
returns-in_default-2 c = search (satellite_zero, satellite_high)
