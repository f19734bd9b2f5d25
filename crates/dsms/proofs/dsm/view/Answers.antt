-- `dsm::view`: the bytes that `view_shown` tells of.
-- Assumes nothing.
use mathlib.Core.Path.{sym}
use lib.Seq.{length-take-le}
use Rattle.dsms.specs.DsmPromises.{state}
use Rattle.dsms.proofs.Kept.{bytes_fit, bytes_shown}
use Rattle.dsms.proofs.dsm.view.Goals as goal

pub slice_bounds-result-end : goal.slice_bounds-result-end
slice_bounds-result-end c =
    let a = c.args in
    sym (length-take-le c.unwrap_or-bytes.result a.dsm.now
    (rw (c.unwrap_or-bytes.ensures, c.unwrap_or.ensures) (bytes_fit (state a.collector a.dsm.now) c.view_shown.result c.view_shown.ensures)))

pub returns : goal.returns
returns c =
    let a = c.args in
    rw (c.unwrap_or-bytes.ensures, c.unwrap_or.ensures) (bytes_shown (state a.collector a.dsm.now) c.view_shown.result c.view_shown.ensures)
