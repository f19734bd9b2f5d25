-- `hexadecimal::digit`: each row of digits.
-- Assumes nothing.
use native.Mathlib.Omega.{arith}
use Rattle.std.proofs.lemmas.Grind.{common_steps}
use Rattle.texts.specs.Hexadecimal.{digit_of}
use Rattle.texts.proofs.hexadecimal.digit.Goals as goal

pub overflow_sub-result-in_default : goal.overflow_sub-result-in_default
unfolding digit_of
overflow_sub-result-in_default c = grind (arith, common_steps)

pub returns-in-48-to-57 : goal.returns-in-48-to-57
unfolding digit_of
returns-in-48-to-57 c = grind (arith, common_steps)

pub returns-in-65-to-70 : goal.returns-in-65-to-70
unfolding digit_of
returns-in-65-to-70 c = grind (arith, common_steps)

pub returns-in_default : goal.returns-in_default
unfolding digit_of
returns-in_default c = grind (arith, common_steps)
