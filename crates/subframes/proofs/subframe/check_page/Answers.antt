-- `subframe::check_page`: the page, the lent bytes and the record, then satellite, week and time.
-- Assumes nothing.
use native.Mathlib.Omega.{arith}
use Rattle.layouts.specs.Gst.{svn_gst_checks}
use Rattle.layouts.proofs.Refused.{err_through, ok_on}
use Rattle.subframes.specs.Subframe.{record_checks}
use Rattle.subframes.specs.SubframePromises.{state, page_of}
use Rattle.subframes.proofs.Pages.{other_page, right_page}
use Rattle.subframes.proofs.subframe.check_page.Goals as goal

pub returns-then-page-ne5 : goal.returns-then-page-ne5
returns-then-page-ne5 c = search other_page

pub returns-in_err-check_record : goal.returns-in_err-check_record
returns-in_err-check_record c =
    let a = c.args in
    let s = state a.collector a.hkroot.now a.mack.now in
    let p = a.stamp in
    right_page s (page_of p a.page.now) (omega arith)
    (err_through (record_checks s) (svn_gst_checks p.satellite p.week p.time) _ _ c.from_residual.ensures.1 c.in_err-check_record.ensures)

pub returns : goal.returns
returns c =
    let a = c.args in
    let s = state a.collector a.hkroot.now a.mack.now in
    let p = a.stamp in
    right_page s (page_of p a.page.now) (omega arith)
    (ok_on (record_checks s) (svn_gst_checks p.satellite p.week p.time) tt c.in_ok-check_record.ensures c.check.ensures)
