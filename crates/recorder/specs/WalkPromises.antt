-- What the recorder promises, and the paper's numbers and values for each case of its answers.
-- Assumes nothing.
use Rattle.std.specs.Prelude.{ℕ, List, [], ◌∷◌, ◌≡◌, Result, Ok, Err, Option, Some, None}
use Rattle.layouts.specs.Answer.{refused, nothing, gives, Copied}
use Rattle.layouts.specs.Refusals.{refusal_number, with_bytes}
use Rattle.layouts.specs.declared.refusal.Refusal.{Refusal}
use Rattle.subframes.specs.SubframePromises.{state}
use Rattle.subframes.specs.declared.subframe.CollectSubframe.{CollectSubframe}
use Rattle.recorder.specs.Timing.{timing_tags}
use Rattle.recorder.specs.Walk.{Walk, walk, walk_complete, unjudged}
use Rattle.recorder.specs.declared.slots.TagField.{TagField}
use Rattle.recorder.specs.declared.slots.TagField.TheVariants.{Adkd, Prnd}
use Rattle.recorder.specs.declared.slots.Verdict.{Verdict}
use Rattle.recorder.specs.declared.slots.Verdict.TheVariants.{AllFit, Breaks, TagsDiffer}
use Rattle.recorder.specs.declared.timing.TimingTags.{TimingTags}
use Rattle.recorder.specs.declared.walk.Walked.{Walked}

-- 1 ADKD, 2 PRND
abbrev pub field_number : TagField → ℕ
field_number Adkd = 1
field_number Prnd = 2

-- 0 all fit; 1, the tag and the field that breaks; 2 and both nt
abbrev pub verdict_numbers : Verdict → List ℕ
verdict_numbers AllFit = 0 ∷ []
verdict_numbers (Breaks tag f) = 1 ∷ tag ∷ field_number f ∷ []
verdict_numbers (TagsDiffer table message) = 2 ∷ table ∷ message ∷ []

abbrev pub listed : TimingTags → Copied
listed t = record { answer = gives (t.count ∷ []); bytes = t.tags }

abbrev pub meaning_timing : Result TimingTags Refusal → Copied
meaning_timing r = with_bytes 9 (λ (t : TimingTags). t.count ∷ []) (λ (t : TimingTags). t.tags) r

-- what was judged
abbrev pub judged_walk : Walked → Walk
judged_walk w = record { slots = gives (verdict_numbers w.slots); timing = listed w.timing }

abbrev pub meaning_walk : Result Walked Refusal → Walk
meaning_walk (Ok w) = judged_walk w
meaning_walk (Err e) = unjudged (refused (refusal_number e))

-- or nothing: there is no message to judge
abbrev pub meaning_complete : Result (Option Walked) Refusal → Walk
meaning_complete (Ok (Some w)) = judged_walk w
meaning_complete (Ok None) = unjudged nothing
meaning_complete (Err e) = unjudged (refused (refusal_number e))

abbrev pub TimingTagsRead : List ℕ → ℕ → ℕ → Result TimingTags Refusal → Type 0
TimingTagsRead m k T r = meaning_timing r ≡ timing_tags m k T

abbrev pub WalkSlots : List ℕ → ℕ → ℕ → ℕ → ℕ → ℕ → Result Walked Refusal → Type 0
WalkSlots m k T sender id msg r = meaning_walk r ≡ walk m k T sender id msg

abbrev pub WalkComplete : CollectSubframe → List ℕ → List ℕ → ℕ → ℕ → ℕ → ℕ → Result (Option Walked) Refusal → Type 0
WalkComplete c hkroot mack satellite k T id r = meaning_complete r ≡ walk_complete (state c hkroot mack) satellite k T id
