-- `trace::check_trace`: the trace, then the lent bytes and the record.
-- Assumes nothing.
use Rattle.subframes.proofs.Entries.{not_whole, whole}
use Rattle.subframes.proofs.trace.check_trace.Goals as goal

pub returns-then-trace-ne0 : goal.returns-then-trace-ne0
returns-then-trace-ne0 c = search not_whole

pub returns : goal.returns
returns c = search whole
