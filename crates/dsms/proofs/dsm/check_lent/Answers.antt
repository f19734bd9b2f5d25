-- `dsm::check_lent`: each check, in its order.
-- Assumes nothing.
use Rattle.dsms.proofs.Blocks.{other_memory, other_id, lent}
use Rattle.dsms.proofs.dsm.check_lent.Goals as goal

pub returns-then-dsm-ne208 : goal.returns-then-dsm-ne208
returns-then-dsm-ne208 c = search other_memory

pub returns-then-collector-gt15 : goal.returns-then-collector-gt15
returns-then-collector-gt15 c = search other_id

pub returns : goal.returns
returns c = search lent
