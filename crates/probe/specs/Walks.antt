-- The functions over the recorder: what `recorder` promises, told in numbers.
-- Assumes nothing.
use Rattle.std.specs.Prelude.{ℕ, List, ◌≡◌}
use Rattle.layouts.specs.Answer.{Copied}
use Rattle.subframes.specs.SubframePromises.{state}
use Rattle.recorder.specs.Timing.{timing_tags}
use Rattle.recorder.specs.Walk.{Walk, walk, walk_complete}
use Rattle.probe.specs.Telling.{told}
use Rattle.probe.specs.Subframe.{collector_of}
use Rattle.probe.specs.declared.subframe.SubframeRecord.{SubframeRecord}
use Rattle.probe.specs.declared.walks.WalkTold.{WalkTold}
use Rattle.probe.specs.declared.walks.TimingTold.{TimingTold}

-- how many tags hold ADKD 4 in numbers, and their nine bytes
abbrev pub timing_told : Copied → TimingTold
timing_told c = record { timing = told c.answer; tags = c.bytes }

-- before them the verdict on the slots in numbers
abbrev pub walk_told : Walk → WalkTold
walk_told w = record { slots = told w.slots; timing = told w.timing.answer; tags = w.timing.bytes }

abbrev pub WalkSlots : List ℕ → ℕ → ℕ → ℕ → ℕ → ℕ → WalkTold → Type 0
WalkSlots m k T sender id msg r = r ≡ walk_told (walk m k T sender id msg)

abbrev pub TimingTagsRead : List ℕ → ℕ → ℕ → TimingTold → Type 0
TimingTagsRead m k T r = r ≡ timing_told (timing_tags m k T)

abbrev pub WalkComplete : SubframeRecord → List ℕ → List ℕ → ℕ → ℕ → ℕ → ℕ → WalkTold → Type 0
WalkComplete c hkroot mack satellite k T id r = r ≡ walk_told (walk_complete (state (collector_of c) hkroot mack) satellite k T id)
