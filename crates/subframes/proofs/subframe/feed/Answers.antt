-- `subframe::feed`: the refusals, then the page at its counts.
-- Assumes nothing.
use native.Mathlib.Omega.{arith}
use mathlib.Core.Path.{refl, sym}
use Rattle.layouts.proofs.Refused.{number_some}
use Rattle.subframes.specs.SubframePromises.{state, page_of}
use Rattle.subframes.proofs.Pages.{Fine, fine, feed_refused, fed_whole}
use Rattle.subframes.proofs.subframe.feed.Goals as goal
use Rattle.subframes.proofs.subframe.feed.Goals.{In_default}

-- of a page that is not refused
passed : (c : In_default) → let a = c.args in Fine (state a.collector a.hkroot.now a.mack.now) (page_of a.stamp a.page.now)
passed c =
    let a = c.args in fine (state a.collector a.hkroot.now a.mack.now) (page_of a.stamp a.page.now) c.in_default.ensures refl

pub returns-in-Err : goal.returns-in-Err
returns-in-Err c =
    let a = c.args in
    feed_refused (state a.collector a.hkroot.now a.mack.now) (page_of a.stamp a.page.now) c.in-Err.ensures (number_some _)

pub take_page-taken-requires : goal.take_page-taken-requires
take_page-taken-requires c = sym c.in_default.ensures

pub overflow_cast-subframe : goal.overflow_cast-subframe
overflow_cast-subframe c = omega (arith, (passed (goal.at.overflow_cast-subframe c).In_default).in_week)

pub answer_of-pair-requires : goal.answer_of-pair-requires
answer_of-pair-requires c =
    let f = passed (goal.at.answer_of-pair-requires c).In_default in (omega (arith, f.h540), omega (arith, f.m2160), f.some, f.few)

pub returns : goal.returns
returns c = fed_whole c.take_page-taken.ensures c.answer_of-pair.ensures
