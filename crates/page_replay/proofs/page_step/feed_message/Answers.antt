-- `page_step::feed_message`: a call of the DSM collector.
-- Assumes nothing.
use Rattle.page_replay.specs.Replay.{fed_hkroot}
use Rattle.page_replay.proofs.page_step.feed_message.Goals as goal

pub returns : goal.returns
unfolding fed_hkroot
returns c = c.feed.ensures
