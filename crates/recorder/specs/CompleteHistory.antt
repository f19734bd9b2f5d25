-- From pages to the verdict, of the code: what `walk_complete` answers after any history of calls of the subframe collector, each of which did what it
-- promises.
-- Assumes nothing.
use Rattle.std.specs.Prelude.{ℕ, ◌+◌, ◌*◌, ◌%◌, ◌≤◌, ◌<◌, List, true, false, ◌≡◌, get_or, Result, Option}
use Rattle.layouts.specs.Answer.{refused, nothing, refusal, answered}
use Rattle.layouts.specs.Gst.{svn_checks}
use Rattle.layouts.specs.declared.refusal.Refusal.{Refusal}
use Rattle.runs.specs.Rising.{Earliest}
use Rattle.subframes.specs.Subframe.{Page, subframe_of}
use Rattle.subframes.specs.SubframeRecovery.{run, no_page, has_word, Words, mack_of, are_zeros}
use Rattle.subframes.specs.SubframeHistory.{History, Misfit}
use Rattle.subframes.specs.declared.subframe.CollectSubframe.{CollectSubframe}
use Rattle.recorder.specs.Walk.{unjudged, table_checks, walk}
use Rattle.recorder.specs.WalkPromises.{meaning_complete, WalkComplete}
use Rattle.recorder.specs.declared.walk.Walked.{Walked}

-- the message number of a page: that of its subframe
abbrev pub message_at : Page → ℕ
message_at p = subframe_of p.time % 2

-- no message: both parts say nothing, or 7 or 8 where the sizes or the ID are refused
abbrev pub NoMessage : ℕ → ℕ → ℕ → Result (Option Walked) Refusal → Type 0
NoMessage k T id r = meaning_complete r ≡ unjudged (answered (refusal (table_checks k T id 0)) nothing)

-- A satellite whose words are all in the run r.
pub record WalksPair (r : List Page) (satellite k T id : ℕ) (w : Result (Option Walked) Refusal) : Type 0 where
  pub choice : Words satellite r
  pub earliest : Earliest (has_word satellite) no_page choice
  -- the verdict and the list are what `walk` promises of the MACK message that is built from the earliest choice of the satellite's pages in the run, with the
  -- satellite as the sender and the message number of any of these pages
  pub judges : are_zeros r choice.at ≡ false → (j : ℕ) → j < 15
      → meaning_complete w ≡ walk (mack_of (λ i. get_or r (choice.at i) no_page) 15) k T satellite id (message_at (get_or r (choice.at j) no_page))
  -- a silent pair is not judged
  pub silent : are_zeros r choice.at ≡ true → NoMessage k T id w

-- Whatever came before: pages lost, doubled, reordered or altered, the clock that jumps, calls that are refused.
pub record CompleteWalked : Type 0 where
  pub pair : {c : CollectSubframe} {hkroot mack : List ℕ} {ps : List Page} → History c hkroot mack ps
      → (satellite : ℕ) → 1 ≤ satellite → satellite ≤ 36 → Words satellite (run ps)
      → (k T id : ℕ) (w : Result (Option Walked) Refusal) → WalkComplete c hkroot mack satellite k T id w → WalksPair (run ps) satellite k T id w
  -- words are missing
  pub none : {c : CollectSubframe} {hkroot mack : List ℕ} {ps : List Page} → History c hkroot mack ps
      → (satellite : ℕ) → 1 ≤ satellite → satellite ≤ 36 → (Words satellite (run ps) → ⊥)
      → (k T id : ℕ) (w : Result (Option Walked) Refusal) → WalkComplete c hkroot mack satellite k T id w → NoMessage k T id w
  -- a satellite that is refused, 2, and lent bytes of other lengths, 1
  pub no_satellite : {c : CollectSubframe} {hkroot mack : List ℕ} {ps : List Page} → History c hkroot mack ps
      → (satellite : ℕ) → (refusal (svn_checks satellite) ≡ 0 → ⊥)
      → (k T id : ℕ) (w : Result (Option Walked) Refusal) → WalkComplete c hkroot mack satellite k T id w → meaning_complete w ≡ unjudged (refused 2)
  pub misfit : (c : CollectSubframe) (x y : List ℕ) → Misfit x y
      → (satellite k T id : ℕ) (w : Result (Option Walked) Refusal) → WalkComplete c x y satellite k T id w → meaning_complete w ≡ unjudged (refused 1)

-- A message is 0 in the first half of a minute and 1 in the second, also over a week's end: a week has 20,160 subframes.
abbrev pub HalfMinutes : Type 0
HalfMinutes = (week time : ℕ) → time < 604800 → subframe_of (604800 * week + time) % 2 ≡ subframe_of time % 2
