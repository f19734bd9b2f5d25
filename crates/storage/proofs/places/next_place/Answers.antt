-- `places::next_place`: the last place is followed by place 0.
-- Assumes nothing.
use native.Mathlib.Omega.{arith}
use Rattle.std.proofs.lemmas.Bool.Decides.{nat_tests}
use Rattle.storage.specs.Store.{next_place}
use Rattle.storage.proofs.places.next_place.Goals as goal

pub returns-then-p-eq11 : goal.returns-then-p-eq11
unfolding next_place
returns-then-p-eq11 c = grind (arith, nat_tests)

pub returns-else-p-eq11 : goal.returns-else-p-eq11
unfolding next_place
returns-else-p-eq11 c = grind (arith, nat_tests)
