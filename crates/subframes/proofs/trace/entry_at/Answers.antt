-- `trace::entry_at`: the bytes of the entry.
-- Assumes nothing.
use Rattle.subframes.proofs.Entries.{entry_is}
use Rattle.subframes.proofs.trace.entry_at.Goals as goal

pub returns : goal.returns
returns c = entry_is c.args.trace.now c.args.k c.from_be_bytes.ensures c.from_be_bytes-2.ensures
