-- The functions over the subframe collector: what `subframes` promises, told in numbers.
-- Assumes nothing.
use Rattle.std.specs.Prelude.{ℕ, List, [], ◌≡◌, Bool, cond}
use Rattle.layouts.specs.Answer.{Copied, copied}
use Rattle.subframes.specs.Subframe.{State, Page, Fed, WordStep, take_word, new, feed, view, came_out}
use Rattle.subframes.specs.SubframePromises.{state, size_of, buffer_of}
use Rattle.subframes.specs.Trace.{FedMany, feed_all}
use Rattle.subframes.specs.declared.subframe.CollectSubframe.{CollectSubframe}
use Rattle.subframes.specs.declared.subframe.Message.{Message}
use Rattle.subframes.specs.declared.subframe.Message.TheVariants.{Hkroot, Mack}
use Rattle.probe.specs.Telling.{told, Viewed, viewed}
use Rattle.probe.specs.declared.tell.Told.{Told}
use Rattle.probe.specs.declared.subframe.SubframeRecord.{SubframeRecord}
use Rattle.probe.specs.declared.subframe.SubframeCalled.{SubframeCalled}
use Rattle.probe.specs.declared.subframe.SubframeTraced.{SubframeTraced}
use Rattle.probe.specs.declared.subframe.HkrootTold.{HkrootTold}
use Rattle.probe.specs.declared.subframe.WordTold.{WordTold}

-- the same record under its two names
abbrev pub collector_of : SubframeRecord → CollectSubframe
collector_of c = record { week = c.week; subframe = c.subframe; counts = c.counts }

abbrev pub record_of : CollectSubframe → SubframeRecord
record_of c = record { week = c.week; subframe = c.subframe; counts = c.counts }

-- the state after a call, and the answer in numbers
pub record Called : Type 0 where
  pub state : State
  pub answer : Told

abbrev pub called : Fed → Called
called f = record { state = f.state; answer = told f.answer }

abbrev pub message_of : Bool → Message
message_of mack = cond mack Mack Hkroot

abbrev pub SubframeNew : SubframeRecord → Type 0
SubframeNew r = state (collector_of r) [] [] ≡ new [] []

abbrev pub SubframeFeed : SubframeRecord → List ℕ → List ℕ → Page → SubframeCalled → List ℕ → List ℕ → Type 0
SubframeFeed c hkroot mack page r hkroot-after mack-after =
    ◌≡◌ {A = Called} (record { state = state (collector_of r.collector) hkroot-after mack-after; answer = r.answer })
    (called (feed (state (collector_of c) hkroot mack) page))

-- the state after a trace, the answer in numbers, and how many entries were consumed
pub record Traced : Type 0 where
  pub state : State
  pub answer : Told
  pub consumed : ℕ

abbrev pub traced : FedMany → Traced
traced f = record { state = f.state; answer = told f.answer; consumed = f.consumed }

abbrev pub SubframeFeedAll : SubframeRecord → List ℕ → List ℕ → List ℕ → SubframeTraced → List ℕ → List ℕ → Type 0
SubframeFeedAll c hkroot mack trace r hkroot-after mack-after =
    ◌≡◌ {A = Traced} (record { state = state (collector_of r.collector) hkroot-after mack-after; answer = r.answer; consumed = r.consumed })
    (traced (feed_all (state (collector_of c) hkroot mack) trace))

abbrev pub SubframeView : SubframeRecord → List ℕ → List ℕ → Bool → ℕ → List ℕ → Told → List ℕ → Type 0
SubframeView c hkroot mack of-mack satellite out r out-after =
    ◌≡◌ {A = Viewed} (record { answer = r; out = out-after })
    (viewed out (buffer_of (message_of of-mack) hkroot mack) (view (state (collector_of c) hkroot mack) (size_of (message_of of-mack)) satellite))

abbrev pub SubframeCameOut : SubframeRecord → List ℕ → List ℕ → ℕ → Told → Type 0
SubframeCameOut c hkroot mack satellite r = r ≡ told (came_out (state (collector_of c) hkroot mack) satellite)

-- an HKROOT message in numbers and bytes
pub record Message15 : Type 0 where
  pub answer : Told
  pub bytes : List ℕ

abbrev pub message15 : Copied → Message15
message15 c = record { answer = told c.answer; bytes = c.bytes }

abbrev pub SubframeHkrootMessage : SubframeRecord → List ℕ → List ℕ → ℕ → HkrootTold → Type 0
SubframeHkrootMessage c hkroot mack satellite r =
    ◌≡◌ {A = Message15} (record { answer = r.answer; bytes = r.bytes })
    (message15 (copied 15 hkroot (view (state (collector_of c) hkroot mack) 15 satellite)))

-- a count in numbers
pub record Word : Type 0 where
  pub next : ℕ
  pub answer : Told

abbrev pub word_of : WordStep → Word
word_of s = record { next = s.next; answer = told s.answer }

abbrev pub WordTake : ℕ → ℕ → WordTold → Type 0
WordTake words word r = ◌≡◌ {A = Word} (record { next = r.next; answer = r.answer }) (word_of (take_word words word))
