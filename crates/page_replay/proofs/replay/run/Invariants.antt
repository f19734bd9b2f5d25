-- `replay::run`: before each turn the state is what the first `k` pages make of the record.
-- Assumes nothing.
use mathlib.Core.Path.{◌≡◌}
use Rattle.page_replay.specs.Replay.{replayed, pages_of}
use Rattle.page_replay.specs.inner.Steps.{ran}
use Rattle.page_replay.specs.ReplayPromises.{state}
use Rattle.page_replay.proofs.replay.run.Given as goal

abbrev pub invariant-loop-k : goal.invariant-loop-k
invariant-loop-k l =
    ran l.so_far l.hkroot l.mack l.dsm ≡ replayed (state l.initial.so_far.replay l.initial.hkroot l.initial.mack l.initial.dsm) (pages_of l.k l.pages)
