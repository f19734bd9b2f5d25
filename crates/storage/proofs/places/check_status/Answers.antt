-- `places::check_status`: the status, then a full place.
-- Assumes nothing.
use native.Mathlib.Omega.{arith}
use Rattle.std.proofs.lemmas.Bool.Decides.{nat_tests}
use Rattle.layouts.specs.Answer.{refusal}
use Rattle.storage.proofs.places.check_status.Goals as goal

pub returns-then-status-gt3 : goal.returns-then-status-gt3
unfolding refusal
returns-then-status-gt3 c = grind (arith, nat_tests)

pub returns-then-full : goal.returns-then-full
unfolding refusal
returns-then-full c = grind (arith, nat_tests)

pub returns : goal.returns
unfolding refusal
returns c = grind (arith, nat_tests)
