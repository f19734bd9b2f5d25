-- `page_step::page_step`: skipped, or fed to the collectors.
-- Assumes nothing.
use Rattle.page_replay.specs.inner.Steps.{ran}
use Rattle.page_replay.specs.ReplayPromises.{state}
use Rattle.page_replay.proofs.PageSteps.{step_skipped, step_counted}
use mathlib.Core.Path.{ap}
use mathlib.Core.Bool.{not}
use Rattle.page_replay.proofs.page_step.page_step.Goals as goal

pub returns-then-not-counts : goal.returns-then-not-counts
returns-then-not-counts c =
    let a = c.args in
    step_skipped (state c.args.«record» c.args.hkroot.now c.args.mack.now c.args.dsm.now) a.page.now c.counts.ensures (ap not c.if-not-counts.true) (c.skip.ensures a.hkroot.now a.mack.now a.dsm.now)

pub returns : goal.returns
returns c =
    let p = c.feed_page in
    let r = ran p.result p.new.hkroot p.new.mack p.new.dsm in
    step_counted (state c.args.«record» c.args.hkroot.now c.args.mack.now c.args.dsm.now) c.args.page.now c.counts.ensures {r = r} (ap not c.if-not-counts.false) p.ensures
