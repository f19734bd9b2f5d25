-- `put::subframe_line`: the line has room.
-- Assumes nothing.
use native.Mathlib.Omega.{arith}
use Rattle.texts.specs.Lines.{stamp_parts, line}
use Rattle.listing.proofs.Putting.{s_line, s_few, Fits}
use Rattle.listing.proofs.put.subframe_line.Goals as goal
use Rattle.listing.proofs.put.subframe_line.Goals.{After-subframe_at}

fits : (c : After-subframe_at) → Fits (line (stamp_parts c.args.stamp)) c.args.out.now 0 c.subframe_at.result c.subframe_at.new.out
fits c =
    let s = c.args.stamp in
    let w = c.well_formed in
    s_line s.satellite s.week s.time c.args.out.now c.subframe_at.result c.subframe_at.new.out (omega (arith, w)) (omega (arith, w)) (omega (arith, w))
    c.requires c.subframe_at.ensures

pub unwrap-requires : goal.unwrap-requires
unwrap-requires c = (fits (goal.at.unwrap-requires c).After-subframe_at).is_there

pub returns : goal.returns
returns c =
    let s = c.args.stamp in
    let w = c.well_formed in
    let puts = (fits (goal.at.returns c).After-subframe_at).puts c.unwrap.result c.unwrap.ensures in
    record { puts = puts; upper_bound = s_few s.satellite s.week s.time c.args.out.now (omega (arith, w)) (omega (arith, w)) (omega (arith, w)) puts }
