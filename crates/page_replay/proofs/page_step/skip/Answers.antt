-- `page_step::skip`: only the time and two totals change.
-- Assumes nothing.
use Rattle.page_replay.specs.ReplayPromises.{state}
use Rattle.page_replay.proofs.PageSteps.{skipped_is}
use Rattle.page_replay.proofs.page_step.skip.Goals as goal

pub returns : goal.returns
returns c = λ h m d. skipped_is (state c.args.«record» h m d) c.later-replay.ensures.satellite c.later-replay.ensures.time
