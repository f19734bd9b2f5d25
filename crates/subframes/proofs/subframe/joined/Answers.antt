-- `subframe::joined`: the bytes, the first one lowest.
-- Assumes nothing.
use Rattle.subframes.proofs.Counts.{joined_is}
use Rattle.subframes.proofs.subframe.joined.Goals as goal

pub returns : goal.returns
returns c = search joined_is
