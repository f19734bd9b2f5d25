-- `trace::ended`: by whether it is the first entry.
-- Assumes nothing.
use Rattle.subframes.proofs.Entries.{not_first, is_first}
use Rattle.subframes.proofs.trace.ended.Goals as goal

pub returns-then-consumed-ne0 : goal.returns-then-consumed-ne0
returns-then-consumed-ne0 c = search not_first

pub returns : goal.returns
returns c = search is_first
