-- `mack::Mack::prnd`: the name of the number.
-- Assumes nothing.
use native.Mathlib.Omega.{arith}
use Rattle.layouts.specs.Mack.{prnd_name}
use Rattle.layouts.proofs.Refused.{err_same}
use Rattle.layouts.proofs.Tags.{name_told, prnd_zero, prnd_svid, prnd_constellation, prnd_reserved}
use Rattle.layouts.proofs.mack.Mack.prnd.Goals as goal

pub returns-in_err-v : goal.returns-in_err-v
returns-in_err-v c = err_same _ _ _ _ _ _ c.from_residual.ensures.1 c.in_err-v.ensures

pub returns-in-1-to-36 : goal.returns-in-1-to-36
returns-in-1-to-36 c = name_told prnd_name _ _ c.in_ok-v.ensures (prnd_svid _ (omega arith) (omega arith))

pub returns-in-255 : goal.returns-in-255
returns-in-255 c = name_told prnd_name _ _ c.in_ok-v.ensures (prnd_constellation _ (omega arith) (omega arith) (omega arith))

pub returns-in_default : goal.returns-in_default
returns-in_default c = name_told prnd_name _ _ c.in_ok-v.ensures (search (prnd_zero, prnd_reserved))

pub returns-in_default-2 : goal.returns-in_default-2
returns-in_default-2 c = name_told prnd_name _ _ c.in_ok-v.ensures (search (prnd_zero, prnd_reserved))
