-- `subframe::check_asked`: the record, then satellite, week and time.
-- Assumes nothing.
use mathlib.Core.List.{[]}
use Rattle.layouts.specs.Gst.{svn_gst_checks}
use Rattle.layouts.proofs.Refused.{err_through, ok_on}
use Rattle.subframes.specs.Subframe.{range_checks}
use Rattle.subframes.specs.SubframePromises.{state}
use Rattle.subframes.proofs.subframe.check_asked.Goals as goal

pub returns-in_err-check_range : goal.returns-in_err-check_range
returns-in_err-check_range c =
    let p = c.args.stamp in
    err_through (range_checks (state c.args.collector [] [])) (svn_gst_checks p.satellite p.week p.time) _ _ c.from_residual.ensures.1
    c.in_err-check_range.ensures

pub returns : goal.returns
returns c =
    let p = c.args.stamp in
    ok_on (range_checks (state c.args.collector [] [])) (svn_gst_checks p.satellite p.week p.time) tt c.in_ok-check_range.ensures c.check.ensures
