-- `put::number`: the digits in a buffer of their own, and then these words.
-- Assumes nothing.
use native.Mathlib.Omega.{arith}
use Rattle.texts.proofs.Decimals.{digits_few}
use Rattle.texts.proofs.put.number.Goals as goal

pub put_number-many-requires : goal.put_number-many-requires
put_number-many-requires c = omega (arith, digits_few c.args.n (omega arith))
