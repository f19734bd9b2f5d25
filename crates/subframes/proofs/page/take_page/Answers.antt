-- `page::take_page`: the counts at its week and subframe, then the page of its satellite.
-- Assumes nothing.
use native.Mathlib.Omega.{arith}
use Rattle.subframes.specs.SubframePromises.{page_of}
use Rattle.subframes.specs.inner.Page.{state_of}
use Rattle.subframes.proofs.Pages.{Fine, admitted_entry, page_fed}
use Rattle.subframes.proofs.page.take_page.Goals as goal
use Rattle.subframes.proofs.page.take_page.Goals.{Start}

-- what is known of the page
admitted : (c : Start)
    → Fine (state_of c.args.week c.args.subframe c.args.counts.now c.args.hkroot.now c.args.mack.now)
    (page_of c.args.stamp c.args.page.now)
admitted c = admitted_entry _ _ _ _ _ c.args.stamp c.args.page.now c.requires

pub overflow_cast-number : goal.overflow_cast-number
overflow_cast-number c = omega (arith, (admitted (goal.at.overflow_cast-number c).Start).in_week)

pub overflow_sub-stamp : goal.overflow_sub-stamp
overflow_sub-stamp c = (admitted (goal.at.overflow_sub-stamp c).Start).some

pub offer_at-requires : goal.offer_at-requires
offer_at-requires c = let f = admitted (goal.at.offer_at-requires c).Start in (f.h540, f.m2160, f.p5, omega (arith, f.some, f.few), omega arith)

pub returns : goal.returns
returns c = search page_fed
