-- The look-up table as a whole: each statement computes.
-- Assumes nothing.
use mathlib.Core.Path.{refl}
use Rattle.layouts.specs.Maclt.{table}
use Rattle.layouts.specs.MacltTable.{Filled, TimingIsSelf, FewFlx, Timing}

pub filled : Filled
unfolding table
filled = refl

pub timing_is_self : TimingIsSelf
unfolding table
timing_is_self = refl

pub few_flx : FewFlx
unfolding table
few_flx = refl

pub timing : Timing
unfolding table
timing = refl
