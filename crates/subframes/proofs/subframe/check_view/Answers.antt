-- `subframe::check_view`: the lent bytes and the record, then the satellite.
-- Assumes nothing.
use Rattle.layouts.specs.Gst.{svn_checks}
use Rattle.layouts.proofs.Refused.{err_through, ok_on}
use Rattle.subframes.specs.Subframe.{record_checks}
use Rattle.subframes.specs.SubframePromises.{state}
use Rattle.subframes.proofs.subframe.check_view.Goals as goal

pub returns-in_err-check_record : goal.returns-in_err-check_record
returns-in_err-check_record c =
    let a = c.args in
    err_through (record_checks (state a.collector a.hkroot.now a.mack.now)) (svn_checks a.satellite) _ _ c.from_residual.ensures.1
    c.in_err-check_record.ensures

pub returns : goal.returns
returns c =
    let a = c.args in
    ok_on (record_checks (state a.collector a.hkroot.now a.mack.now)) (svn_checks a.satellite) tt c.in_ok-check_record.ensures
    (rw c.from.ensures at c.check_svn.ensures)
