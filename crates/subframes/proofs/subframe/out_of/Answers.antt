-- `subframe::out_of`: silent or complete.
-- Assumes nothing.
use Rattle.subframes.proofs.Pages.{out_silent, out_complete}
use Rattle.subframes.proofs.subframe.out_of.Goals as goal

pub returns-then-silent : goal.returns-then-silent
returns-then-silent c = search out_silent

pub returns : goal.returns
returns c = search out_complete
