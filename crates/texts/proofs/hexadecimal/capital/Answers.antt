-- `hexadecimal::capital`: the high half, or the low half.
-- Assumes nothing.
use Rattle.texts.proofs.Hexadecimals.{capital_even, capital_odd}
use Rattle.texts.proofs.hexadecimal.capital.Goals as goal

pub returns-then-k-eq0 : goal.returns-then-k-eq0
returns-then-k-eq0 c = search capital_even

pub returns-else-k-eq0 : goal.returns-else-k-eq0
returns-else-k-eq0 c = search capital_odd
