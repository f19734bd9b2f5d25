-- `put::dsm_line`: the line has room.
-- Assumes nothing.
use native.Mathlib.Omega.{arith}
use Rattle.texts.specs.Lines.{dsm_parts, line}
use Rattle.listing.proofs.Putting.{d_line, Fits}
use Rattle.listing.proofs.put.dsm_line.Goals as goal
use Rattle.listing.proofs.put.dsm_line.Goals.{After-dsm_at}

fits : (c : After-dsm_at) → Fits (line (dsm_parts c.args.id c.args.bytes)) c.args.out.now c.args.at c.dsm_at.result c.dsm_at.new.out
fits c =
    d_line c.args.id c.args.bytes c.args.at c.args.out.now c.dsm_at.result c.dsm_at.new.out (omega (arith, c.ranges.id)) (omega (arith, c.ranges.bytes))
    c.requires c.dsm_at.ensures

pub unwrap-requires : goal.unwrap-requires
unwrap-requires c = (fits (goal.at.unwrap-requires c).After-dsm_at).is_there

pub returns : goal.returns
returns c = (fits (goal.at.returns c).After-dsm_at).puts c.unwrap.result c.unwrap.ensures
