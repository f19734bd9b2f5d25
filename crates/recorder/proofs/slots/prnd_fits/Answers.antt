-- `slots::prnd_fits`: the customer's rule.
-- Assumes nothing.
use native.Mathlib.Omega.{arith}
use Rattle.recorder.proofs.TagFit.{self_timing, self_other, cross_low, cross_above, cross_within}
use Rattle.recorder.proofs.slots.prnd_fits.Goals as goal

pub returns-then-adkd-eq4 : goal.returns-then-adkd-eq4
returns-then-adkd-eq4 c = search self_timing

pub returns-else-adkd-eq4 : goal.returns-else-adkd-eq4
returns-else-adkd-eq4 c = search self_other

pub returns-in-1-to-36 : goal.returns-in-1-to-36
returns-in-1-to-36 c = cross_within _ _ _ c.in-CrossAuth.is (omega arith) (omega arith)

pub returns-in_default : goal.returns-in_default
returns-in_default c = search (cross_low, cross_above)

pub returns-in_default-2 : goal.returns-in_default-2
returns-in_default-2 c = search (cross_low, cross_above)
