-- `replay::new`: zeros where it is refused.
-- Assumes nothing.
use Rattle.page_replay.proofs.PageSteps.{begun_refused, begun_ready}
use Rattle.page_replay.proofs.replay.new.Goals as goal

pub returns-in-Ok : goal.returns-in-Ok
returns-in-Ok c = let a = c.args.stamp in begun_ready a.satellite a.week a.time c.in-Ok.ensures c.fresh.ensures

pub returns-in-Err : goal.returns-in-Err
returns-in-Err c = let a = c.args.stamp in begun_refused a.satellite a.week a.time c.in-Err.refusal c.in-Err.ensures c.fresh-in-Err.ensures
