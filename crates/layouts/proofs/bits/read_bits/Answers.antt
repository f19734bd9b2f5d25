-- `bits::read_bits`: each check, in the order of its promise.
-- Assumes nothing.
use Rattle.layouts.proofs.Answers.{checks}
use Rattle.layouts.proofs.bits.read_bits.Goals as goal

pub returns-then-width-eq0 : goal.returns-then-width-eq0
returns-then-width-eq0 c = search checks

pub returns-then-width-gt64 : goal.returns-then-width-gt64
returns-then-width-gt64 c = search checks

pub returns : goal.returns
returns c = search checks
