-- `Place::is_legal`: each part of the definition.
-- Assumes nothing.
use native.Mathlib.Omega.{arith}
use Rattle.std.proofs.lemmas.Bool.Decides.{nat_tests}
use Rattle.storage.specs.Store.{legal_time}
use Rattle.storage.proofs.mack_storage.Place.is_legal.Goals as goal

pub returns-else-self : goal.returns-else-self
unfolding legal_time
returns-else-self c = grind (arith, nat_tests)

pub returns-then-self-le4095 : goal.returns-then-self-le4095
unfolding legal_time
returns-then-self-le4095 c = grind (arith, nat_tests)

pub returns-else-self-le4095 : goal.returns-else-self-le4095
unfolding legal_time
returns-else-self-le4095 c = grind (arith, nat_tests)
