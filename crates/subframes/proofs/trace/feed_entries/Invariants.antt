-- `trace::feed_entries`: before each turn, feeding what is left one by one gives what feeding all does.
-- Assumes nothing.

use Rattle.subframes.specs.inner.Page.{state_of}
use Rattle.subframes.proofs.Entries.{Left}
use Rattle.subframes.proofs.trace.feed_entries.Given as goal

abbrev pub invariant-loop-n : goal.invariant-loop-n
invariant-loop-n l =
    Left (state_of l.initial.week l.initial.subframe l.initial.counts l.initial.hkroot l.initial.mack) l.trace l.n (state_of l.week l.subframe l.counts l.hkroot l.mack)
