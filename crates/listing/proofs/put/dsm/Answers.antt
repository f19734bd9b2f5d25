-- `put::dsm`: nothing, or the line.
-- Assumes nothing.
use Rattle.listing.proofs.Putting.{no_dsm, a_dsm}
use Rattle.listing.proofs.put.dsm.Goals as goal

pub returns-in-None : goal.returns-in-None
returns-in-None c = search no_dsm

pub returns-in-Some : goal.returns-in-Some
returns-in-Some c = search a_dsm
