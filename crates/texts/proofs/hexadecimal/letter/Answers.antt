-- `hexadecimal::letter`: a digit, or a letter.
-- Assumes nothing.
use native.Mathlib.Omega.{arith}
use Rattle.std.proofs.lemmas.Grind.{common_steps}
use Rattle.texts.specs.Hexadecimal.{letter}
use Rattle.texts.proofs.hexadecimal.letter.Goals as goal

pub returns-in-0-to-9 : goal.returns-in-0-to-9
unfolding letter
returns-in-0-to-9 c = grind (arith, common_steps)

pub returns-in_default : goal.returns-in_default
unfolding letter
returns-in_default c = grind (arith, common_steps)
