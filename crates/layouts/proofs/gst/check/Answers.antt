-- `gst::check`: the satellite, then week and time.
-- Assumes nothing.
use Rattle.layouts.specs.Gst.{svn_checks, gst_checks}
use Rattle.layouts.proofs.Refused.{err_through, ok_on}
use Rattle.layouts.proofs.Timed.{week_off, time_off, time_on}
use Rattle.layouts.proofs.gst.check.Goals as goal

pub returns-in_err-check_svn : goal.returns-in_err-check_svn
returns-in_err-check_svn c = err_through (svn_checks _) (gst_checks _ _) _ _ c.from_residual.ensures.1 c.in_err-check_svn.ensures

pub returns-then-week-gt4095 : goal.returns-then-week-gt4095
returns-then-week-gt4095 c = ok_on (svn_checks _) (gst_checks _ _) tt c.in_ok-check_svn.ensures (search week_off)

pub returns-then-time-gt604799 : goal.returns-then-time-gt604799
returns-then-time-gt604799 c = ok_on (svn_checks _) (gst_checks _ _) tt c.in_ok-check_svn.ensures (search time_off)

pub returns : goal.returns
returns c = ok_on (svn_checks _) (gst_checks _ _) tt c.in_ok-check_svn.ensures (search time_on)
