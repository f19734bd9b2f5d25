-- `put::subframe`: nothing, or the line.
-- Assumes nothing.
use Rattle.listing.proofs.Putting.{no_subframe, a_subframe}
use borrow.Author.Rules.{rules}
use Rattle.listing.proofs.put.subframe.Goals as goal

pub returns-in-None : goal.returns-in-None
returns-in-None c = search (no_subframe, rules)

pub returns-in-Some : goal.returns-in-Some
returns-in-Some c = search a_subframe
