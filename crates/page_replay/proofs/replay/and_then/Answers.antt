-- `replay::and_then`: the page step, and of what it and the pages before completed the one that is there.
-- Assumes nothing.
use mathlib.Core.Path.{ap, ◌∙◌}
use Rattle.page_replay.specs.ReplayPromises.{meaning_subframes, meaning_dsms}
use Rattle.page_replay.specs.inner.Steps.{ran}
use Rattle.page_replay.proofs.PageSteps.{and_then_is, subframe_at_most, dsm_at_most, last_subframe, last_dsm}
use Rattle.page_replay.proofs.replay.and_then.Goals as goal

pub returns : goal.returns
returns c =
    let a = c.args in
    let before = a.so_far.now in
    let p = c.page_step-next in
    let r = ran before a.hkroot.now a.mack.now a.dsm.now in
    let x = ran p.result p.new.hkroot p.new.mack p.new.dsm in
    let few = c.requires.at_most_one in
    and_then_is r a.page.now {x = x} p.ensures
    (ap meaning_subframes c.keep.ensures ∙ last_subframe before.subframe p.result.subframe (subframe_at_most r a.page.now {x = x} p.ensures few))
    (ap meaning_dsms c.keep-2.ensures ∙ last_dsm before.dsm p.result.dsm (dsm_at_most r a.page.now {x = x} p.ensures few))
