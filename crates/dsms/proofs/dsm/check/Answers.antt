-- `dsm::check`: the block, then the lent bytes and the record.
-- Assumes nothing.
use Rattle.dsms.proofs.Blocks.{other_block, whole_block}
use Rattle.dsms.proofs.dsm.check.Goals as goal

pub returns-then-block-ne13 : goal.returns-then-block-ne13
returns-then-block-ne13 c = search other_block

pub returns : goal.returns
returns c = search whole_block
