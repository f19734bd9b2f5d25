-- `put::refused`: the line has room.
-- Assumes nothing.
use native.Mathlib.Omega.{arith}
use Rattle.texts.specs.Lines.{refused_parts, line}
use Rattle.listing.proofs.Putting.{a_refusal, Fits}
use Rattle.listing.proofs.put.refused.Goals as goal
use Rattle.listing.proofs.put.refused.Goals.{After-refused_at}

fits : (c : After-refused_at) → Fits (line (refused_parts c.number.result)) c.args.out.now 0 c.refused_at.result c.refused_at.new.out
fits c =
    a_refusal c.number.result c.args.out.now c.refused_at.result c.refused_at.new.out (omega (arith, c.number.type_inv)) c.requires c.refused_at.ensures

pub unwrap-requires : goal.unwrap-requires
unwrap-requires c = (fits (goal.at.unwrap-requires c).After-refused_at).is_there

pub returns : goal.returns
returns c = rw c.number.ensures at ((fits (goal.at.returns c).After-refused_at).puts c.unwrap.result c.unwrap.ensures)
