-- `places::entry_legal`: each part of the definition.
-- Assumes nothing.
use native.Mathlib.Omega.{arith}
use Rattle.std.proofs.lemmas.Bool.Decides.{nat_tests}
use Rattle.storage.specs.Store.{legal_entry}
use Rattle.storage.proofs.places.entry_legal.Goals as goal

pub returns-then-satellite-le36 : goal.returns-then-satellite-le36
unfolding legal_entry
returns-then-satellite-le36 c = grind (arith, nat_tests)

pub returns-else-satellite-le36 : goal.returns-else-satellite-le36
unfolding legal_entry
returns-else-satellite-le36 c = grind (arith, nat_tests)
