-- `page_time::later`: within the week, or into the next one.
-- Assumes nothing.
use Rattle.page_replay.proofs.PageSteps.{later_in_week, later_last_week, later_next_week}
use Rattle.page_replay.proofs.page_time.later.Goals as goal

pub returns-then-at-lt604798-clause-time : goal.returns-then-at-lt604798-clause-time
returns-then-at-lt604798-clause-time c = search later_in_week

pub returns-then-at-eq4095-clause-time : goal.returns-then-at-eq4095-clause-time
returns-then-at-eq4095-clause-time c = search later_last_week

pub returns-else-at-eq4095-clause-time : goal.returns-else-at-eq4095-clause-time
returns-else-at-eq4095-clause-time c = search later_next_week
