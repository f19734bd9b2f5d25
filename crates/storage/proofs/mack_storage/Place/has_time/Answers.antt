-- `Place::has_time`: each part of the definition.
-- Assumes nothing.
use native.Mathlib.Omega.{arith}
use Rattle.std.proofs.lemmas.Bool.Decides.{nat_tests}
use Rattle.storage.specs.Store.{is_time}
use Rattle.storage.proofs.mack_storage.Place.has_time.Goals as goal

pub returns-then-self-week : goal.returns-then-self-week
unfolding is_time
returns-then-self-week c = grind (arith, nat_tests)

pub returns-else-self-week : goal.returns-else-self-week
unfolding is_time
returns-else-self-week c = grind (arith, nat_tests)
