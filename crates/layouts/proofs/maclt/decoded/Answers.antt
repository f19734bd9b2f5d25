-- `maclt::decoded`: each code, as the list has it.
-- Assumes nothing.
use Rattle.layouts.proofs.LookUp.{code_hit, code_flex}
use Rattle.layouts.proofs.maclt.decoded.Goals as goal

pub returns-in-1 : goal.returns-in-1
returns-in-1 c = search code_hit

pub returns-in-2 : goal.returns-in-2
returns-in-2 c = search code_hit

pub returns-in-3 : goal.returns-in-3
returns-in-3 c = search code_hit

pub returns-in-4 : goal.returns-in-4
returns-in-4 c = search code_hit

pub returns-in-5 : goal.returns-in-5
returns-in-5 c = search code_hit

pub returns-in_default : goal.returns-in_default
returns-in_default c = search code_flex
