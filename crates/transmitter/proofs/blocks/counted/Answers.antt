-- `blocks::counted`: the count of the type that the ID has.
-- Assumes nothing.
use Rattle.transmitter.proofs.Cutting.{kroot_counted, pkr_counted}
use Rattle.transmitter.proofs.blocks.counted.Goals as goal

pub returns-then-id-lt12 : goal.returns-then-id-lt12
returns-then-id-lt12 c = search kroot_counted

pub returns : goal.returns
returns c = search pkr_counted
