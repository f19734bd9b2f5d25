-- `mack::Mack::adkd`: the name of the number.
-- Assumes nothing.
use mathlib.Core.Path.{refl}
use Rattle.layouts.specs.Sizes.{adkds, naming}
use Rattle.layouts.proofs.Refused.{err_same}
use Rattle.layouts.proofs.Tags.{name_told}
use Rattle.layouts.proofs.Readers.{name_hit, name_miss}
use Rattle.layouts.proofs.mack.Mack.adkd.Goals as goal

pub returns-in_err-adkd_number : goal.returns-in_err-adkd_number
returns-in_err-adkd_number c = err_same _ _ _ _ _ _ c.from_residual.ensures.1 c.in_err-adkd_number.ensures

pub returns-in-0 : goal.returns-in-0
unfolding adkds
returns-in-0 c = name_told (naming adkds) _ _ c.in_ok-adkd_number.ensures (search (name_hit, refl))

pub returns-in-4 : goal.returns-in-4
unfolding adkds
returns-in-4 c = name_told (naming adkds) _ _ c.in_ok-adkd_number.ensures (search (name_hit, refl))

pub returns-in-12 : goal.returns-in-12
unfolding adkds
returns-in-12 c = name_told (naming adkds) _ _ c.in_ok-adkd_number.ensures (search (name_hit, refl))

pub returns-in_default : goal.returns-in_default
unfolding adkds
returns-in_default c = name_told (naming adkds) _ _ c.in_ok-adkd_number.ensures (search (name_miss, refl))
