-- `put::completed`: one after the other.
-- Assumes nothing.
use Rattle.listing.proofs.Putting.{puts_both}
use Rattle.listing.proofs.put.completed.Goals as goal

pub returns : goal.returns
returns c = search puts_both
