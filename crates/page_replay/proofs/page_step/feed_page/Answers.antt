-- `page_step::feed_page`: a page step of the definition, one function for each part.
-- Assumes nothing.
use mathlib.Core.Path.{◌≡◌, ap, ◌∙◌, sym}
use Rattle.layouts.specs.InavPage.{osnma}
use Rattle.std.specs.Result.{is_ok}
use Rattle.subframes.specs.SubframePromises.{outcome}
use Rattle.page_replay.specs.ReplayPromises.{state}
use Rattle.page_replay.proofs.PageSteps.{fed_is, osnma_read, used_asked, unwrapped}
use Rattle.page_replay.proofs.page_step.feed_page.Goals as goal

pub unwrap-bytes-requires : goal.unwrap-bytes-requires
unwrap-bytes-requires c = ap is_ok (osnma_read c.args.page.now c.requires.2 c.osnma.result c.osnma.ensures)

pub returns : goal.returns
returns c =
    let a = c.args in
    let p = c.feed-fed in
    let bytes : c.unwrap-bytes.result ≡ osnma a.page.now =
    unwrapped (sym c.unwrap-bytes.ensures ∙ osnma_read a.page.now c.requires.2 c.osnma.result c.osnma.ensures) in
    let asked = c.is_used in
    let used = used_asked _ a.hkroot.now a.mack.now c.unwrap-bytes.result _ _ _ asked.result asked.ensures c.is_taken-used.ensures in
    let s = state a.«record» a.hkroot.now a.mack.now a.dsm.now in
    fed_is s a.page.now {f = outcome p.result p.new.hkroot p.new.mack} bytes used p.ensures
    c.pass_on-passed.ensures (c.tally.ensures _ _ _ a.hkroot.now a.mack.now a.dsm.now)
