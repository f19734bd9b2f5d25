-- What the subframe collector promises, and the paper's numbers and values for each case of its answers.
-- Assumes nothing.
use Rattle.std.specs.Prelude.{ℕ, List, [], ◌∷◌, Bool, true, false, ◌≡◌, Result, Ok, Err, Option, Some, None, replicate}
use Rattle.layouts.specs.Answer.{Answer, refused, nothing, gives, shown, Copied, copied}
use Rattle.layouts.specs.Refusals.{refusal_number}
use Rattle.layouts.specs.declared.gst.Stamp.{Stamp}
use Rattle.layouts.specs.declared.refusal.Refusal.{Refusal}
use Rattle.subframes.specs.Subframe.{State, new, Page, WordStep, take_word, Fed, feed, used_answer, view, came_out}
use Rattle.subframes.specs.declared.subframe.CollectSubframe.{CollectSubframe}
use Rattle.subframes.specs.declared.subframe.Pair.{Pair}
use Rattle.subframes.specs.declared.subframe.Pair.TheVariants.{Complete, Silent}
use Rattle.subframes.specs.declared.subframe.SubframeFed.{SubframeFed}
use Rattle.subframes.specs.declared.subframe.HkrootMessage.{HkrootMessage}
use Rattle.subframes.specs.declared.subframe.Message.{Message}
use Rattle.subframes.specs.declared.subframe.Message.TheVariants.{Hkroot, Mack}
use Rattle.layouts.specs.declared.part.Part.{Part}
use Rattle.subframes.specs.declared.subframe.WordTaken.{WordTaken}

-- the record with the lent bytes beside it
abbrev pub state : CollectSubframe → List ℕ → List ℕ → State
state c hkroot mack = record { week = c.week; subframe = c.subframe; counts = c.counts; hkroot = hkroot; mack = mack }

-- a call with a page, from what it is handed
abbrev pub call : List ℕ → ℕ → ℕ → ℕ → Page
call bytes satellite week time = record { bytes = bytes; satellite = satellite; week = week; time = time }

-- the same of a stamp
abbrev pub page_of : Stamp → List ℕ → Page
page_of s bytes = call bytes s.satellite s.week s.time

-- a pair that came out
abbrev pub meaning_pair : Pair → Answer
meaning_pair (Complete week time) = gives (week ∷ time ∷ [])
meaning_pair (Silent week time) = gives (week ∷ time ∷ 1 ∷ [])

abbrev pub meaning_subframe : Result (Option Pair) Refusal → Answer
meaning_subframe (Err e) = refused (refusal_number e)
meaning_subframe (Ok None) = nothing
meaning_subframe (Ok (Some p)) = meaning_pair p

abbrev pub meaning_word : Result Bool Refusal → Answer
meaning_word (Err e) = refused (refusal_number e)
meaning_word (Ok false) = nothing
meaning_word (Ok true) = gives []

-- the record and the answer handed back, with the lent bytes then
abbrev pub outcome : SubframeFed → List ℕ → List ℕ → Fed
outcome r hkroot mack = record { state = state r.collector hkroot mack; answer = meaning_subframe r.answer }

abbrev pub NewSubframe : CollectSubframe → Type 0
NewSubframe r = state r [] [] ≡ new [] []

abbrev pub TakeWord : ℕ → ℕ → WordTaken → Type 0
TakeWord count word r = ◌≡◌ {A = WordStep} (record { next = r.next.words; answer = meaning_word r.used }) (take_word count word)

abbrev pub FeedSubframe : CollectSubframe → List ℕ → List ℕ → Page → SubframeFed → List ℕ → List ℕ → Type 0
FeedSubframe c hkroot mack page r hkroot-after mack-after = outcome r hkroot-after mack-after ≡ feed (state c hkroot mack) page

-- whether `feed` would use a page of that satellite, week and time
abbrev pub IsUsed : CollectSubframe → ℕ → ℕ → ℕ → Result Bool Refusal → Type 0
IsUsed c satellite week time r = meaning_word r ≡ used_answer (state c [] []) (call [] satellite week time)

abbrev pub meaning_shown : Result (Option Part) Refusal → Answer
meaning_shown (Err e) = refused (refusal_number e)
meaning_shown (Ok None) = nothing
meaning_shown (Ok (Some p)) = gives (p.first ∷ p.many ∷ [])

-- an HKROOT message has 15 bytes, a MACK message 60; each kind has its buffer
abbrev pub size_of : Message → ℕ
size_of Hkroot = 15
size_of Mack = 60

abbrev pub buffer_of : Message → List ℕ → List ℕ → List ℕ
buffer_of Hkroot hkroot mack = hkroot
buffer_of Mack hkroot mack = mack

abbrev pub ViewSubframeShown : CollectSubframe → List ℕ → List ℕ → Message → ℕ → Result (Option Part) Refusal → Type 0
ViewSubframeShown c hkroot mack m satellite r = meaning_shown r ≡ view (state c hkroot mack) (size_of m) satellite

abbrev pub ViewSubframe : CollectSubframe → List ℕ → List ℕ → Message → ℕ → List ℕ → Type 0
ViewSubframe c hkroot mack m satellite r = r ≡ shown (buffer_of m hkroot mack) (view (state c hkroot mack) (size_of m) satellite)

-- what has come out of the satellite, complete or silent
abbrev pub CameOut : CollectSubframe → List ℕ → List ℕ → ℕ → Result (Option Pair) Refusal → Type 0
CameOut c hkroot mack satellite r = meaning_subframe r ≡ came_out (state c hkroot mack) satellite

-- an HKROOT message by value: where there is none the paper's bytes are zeros
abbrev pub meaning_message : Result (Option HkrootMessage) Refusal → Copied
meaning_message (Err e) = record { answer = refused (refusal_number e); bytes = replicate 15 0 }
meaning_message (Ok None) = record { answer = nothing; bytes = replicate 15 0 }
meaning_message (Ok (Some m)) = record { answer = gives (m.part.first ∷ m.part.many ∷ []); bytes = m.bytes }

-- "An HKROOT message is also handed over whole, as its 15 bytes, under the same rule."
abbrev pub HkrootMessageRead : CollectSubframe → List ℕ → List ℕ → ℕ → Result (Option HkrootMessage) Refusal → Type 0
HkrootMessageRead c hkroot mack satellite r = meaning_message r ≡ copied 15 hkroot (view (state c hkroot mack) 15 satellite)
