-- What `feed_all` promises.
-- Assumes nothing.
use Rattle.std.specs.Prelude.{ℕ, List, ◌≡◌}
use Rattle.subframes.specs.SubframePromises.{state, meaning_subframe}
use Rattle.subframes.specs.Trace.{FedMany, feed_all}
use Rattle.subframes.specs.declared.subframe.CollectSubframe.{CollectSubframe}
use Rattle.subframes.specs.declared.trace.TraceFed.{TraceFed}

-- the record, the answer and the number handed back, with the lent bytes then
abbrev pub outcome_all : TraceFed → List ℕ → List ℕ → FedMany
outcome_all r hkroot mack = record { state = state r.collector hkroot mack; answer = meaning_subframe r.answer; consumed = r.consumed }

-- as many entries as are consumed, fed one by one
abbrev pub FeedAll : CollectSubframe → List ℕ → List ℕ → List ℕ → TraceFed → List ℕ → List ℕ → Type 0
FeedAll c hkroot mack trace r hkroot-after mack-after = outcome_all r hkroot-after mack-after ≡ feed_all (state c hkroot mack) trace
