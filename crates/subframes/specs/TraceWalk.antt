-- A whole trace: `feed_all` called again and again, each time with the entries that are left (docs/FORMATS.md, "A trace of pages"), stepping over each entry
-- that it refuses, gives all entries' answers in their order, as `feed` gives them.
-- Assumes nothing.
use Rattle.std.specs.Prelude.{ℕ, ◌+◌, ◌-◌, ◌*◌, ◌%◌, ◌≤◌, ◌<◌, List, [], ◌∷◌, ◌++◌, ◌≡◌, length, take, drop, replicate}
use Rattle.layouts.specs.Answer.{Answer, refused, nothing, gives}
use Rattle.subframes.specs.Subframe.{State, Page, feed}
use Rattle.subframes.specs.Trace.{entries}
use Rattle.subframes.specs.SubframePromises.{state, meaning_subframe}
use Rattle.subframes.specs.TracePromises.{FeedAll}
use Rattle.subframes.specs.SubframeRecovery.{run, after}
use Rattle.subframes.specs.SubframeHistory.{History}
use Rattle.subframes.specs.declared.subframe.CollectSubframe.{CollectSubframe}
use Rattle.subframes.specs.declared.trace.TraceFed.{TraceFed}

-- the answers of pages that are fed one by one
abbrev pub answers : State → List Page → List Answer
answers s [] = []
answers s (p ∷ ps) = (feed s p).answer ∷ answers (feed s p).state ps

-- What one call tells of the entries that it was given: those that it consumed brought nothing, but for a last one with which a pair came out. Where it
-- refuses, it tells of the first entry alone, and the caller steps over that.
abbrev pub told : ℕ → Answer → List Answer
told n (refused q) = refused q ∷ []
told n nothing = replicate n nothing
told n (gives l) = replicate (n - 1) nothing ++ (gives l ∷ [])

abbrev pub tells : TraceFed → List Answer
tells r = told r.consumed (meaning_subframe r.answer)

-- The calls so far, from a record c and the memory then: how many entries of the trace were told of, their answers, and what the caller holds now.
pub data Walk (trace : List ℕ) (c : CollectSubframe) (hkroot mack : List ℕ) : ℕ → List Answer → CollectSubframe → List ℕ → List ℕ → Type 0 where
  begins : Walk trace c hkroot mack 0 [] c hkroot mack
  goes_on : {k : ℕ} {done : List Answer} {d : CollectSubframe} {x y : List ℕ} → Walk trace c hkroot mack k done d x y
      → (r : TraceFed) (x' y' : List ℕ) → FeedAll d x y (drop (12 * k) trace) r x' y'
      → Walk trace c hkroot mack (k + length (tells r)) (done ++ tells r) r.collector x' y'

-- What holds of such calls, where those before had the pages ps.
pub record Walks (trace : List ℕ) (c : CollectSubframe) (hkroot mack : List ℕ) (ps : List Page) (k : ℕ) (done : List Answer) (d : CollectSubframe)
    (x y : List ℕ) : Type 0 where
  pub inside : k ≤ length (entries trace)
  -- record and memory, and the answers in their order, are those of the first k entries fed one by one
  pub state_is : state d x y ≡ after (state c hkroot mack) (take k (entries trace))
  pub done_is : done ≡ answers (state c hkroot mack) (take k (entries trace))
  -- so that what holds of a history holds after them, in the same run
  pub history : (qs : List Page) × History d x y qs × (run qs ≡ run (ps ++ take k (entries trace)))
  -- while an entry is left the next call tells of one at least: the calls come to the end
  pub onward : k < length (entries trace) → (r : TraceFed) (x' y' : List ℕ) → FeedAll d x y (drop (12 * k) trace) r x' y' → 0 < length (tells r)

abbrev pub TraceWalked : Type 0
TraceWalked =
    (trace : List ℕ) → length trace % 12 ≡ 0 → (c : CollectSubframe) (hkroot mack : List ℕ) (ps : List Page) → History c hkroot mack ps
    → (k : ℕ) (done : List Answer) (d : CollectSubframe) (x y : List ℕ) → Walk trace c hkroot mack k done d x y → Walks trace c hkroot mack ps k done d x y

-- An example: word 0 of satellite 7, a page of satellite 37, word 1 of satellite 7. Three calls: nothing, refused 2, nothing.
abbrev pub three_entries : List ℕ
three_entries =
    7 ∷ 4 ∷ 176 ∷ 0 ∷ 0 ∷ 0 ∷ 60 ∷ replicate 5 0 ++
    (37 ∷ 4 ∷ 176 ∷ 0 ∷ 0 ∷ 0 ∷ 60 ∷ replicate 5 0 ++
    (7 ∷ 4 ∷ 176 ∷ 0 ∷ 0 ∷ 0 ∷ 62 ∷ replicate 5 0))

-- week 1200, subframe 2, and so many words of satellite 7
abbrev pub seven_at : ℕ → CollectSubframe
seven_at n = record { week = 1200; subframe = 2; counts = replicate 6 0 ++ (n ∷ replicate 29 0) }

abbrev pub WalkExample : Type 0
WalkExample =
    Walk three_entries (record { week = 0; subframe = 0; counts = replicate 36 0 }) (replicate 540 0) (replicate 2160 0)
    3 (nothing ∷ refused 2 ∷ nothing ∷ []) (seven_at 2) (replicate 540 0) (replicate 2160 0)
