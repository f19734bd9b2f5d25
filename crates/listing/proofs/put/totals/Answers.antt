-- `put::totals`: the line has room.
-- Assumes nothing.
use native.Mathlib.Omega.{arith}
use Rattle.texts.specs.Lines.{counted_parts, line}
use Rattle.listing.proofs.Putting.{all_totals, Fits}
use Rattle.listing.proofs.put.totals.Goals as goal
use Rattle.listing.proofs.put.totals.Goals.{After-totals_at}

fits : (c : After-totals_at) → Fits (line (counted_parts c.args.counts)) c.args.out.now 0 c.totals_at.result c.totals_at.new.out
fits c =
    let t = c.args.counts in
    let w = c.well_formed in
    all_totals t.pages t.skipped t.subframes t.dsms t.silent t.tail c.args.out.now c.totals_at.result c.totals_at.new.out (omega (arith, w))
    (omega (arith, w)) (omega (arith, w)) (omega (arith, w)) (omega (arith, w)) (omega (arith, w)) c.requires c.totals_at.ensures

pub unwrap-requires : goal.unwrap-requires
unwrap-requires c = (fits (goal.at.unwrap-requires c).After-totals_at).is_there

pub returns : goal.returns
returns c = (fits (goal.at.returns c).After-totals_at).puts c.unwrap.result c.unwrap.ensures
