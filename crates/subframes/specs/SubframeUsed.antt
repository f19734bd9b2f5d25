-- Whether a page is used: one rule, `takes`, for one satellite's count, for `feed` and for the question `is_used`.
-- Assumes nothing.
use Rattle.std.specs.Prelude.{ℕ, ◌-◌, List, [], Bool, true, false, cond, Result, ◌≡◌, replicate}
use Rattle.layouts.specs.Answer.{nothing, gives, refusal}
use Rattle.subframes.specs.Subframe.{State, new, Page, word_of, subframe_of, feed_checks, changed, used, is_used, feed}
use Rattle.subframes.specs.SubframePromises.{state, call, meaning_word, IsUsed}
use Rattle.subframes.specs.declared.subframe.CollectSubframe.{CollectSubframe}
use Rattle.layouts.specs.declared.refusal.Refusal.{Refusal}

-- "If the word differs from the satellite's count: nothing. Otherwise its bytes go to that place and the count rises": an admitted page is called used
-- exactly where `feed` takes it
abbrev pub UsedIsTaken : Type 0
UsedIsTaken =
    (s : State) (p : Page) → refusal (feed_checks s p) ≡ 0
    → feed s p
    ≡ cond (is_used s p) (used (changed s p.week (subframe_of p.time)) p.bytes (p.satellite - 1) (word_of p.time))
    (record { state = changed s p.week (subframe_of p.time); answer = nothing })

-- and so does `is_used` say of a page that `feed` admits, whatever its bytes and the lent ones
abbrev pub UsedIsAsked : Type 0
UsedIsAsked =
    (c : CollectSubframe) (hkroot mack bytes : List ℕ) (satellite week time : ℕ) (r : Result Bool Refusal)
    → refusal (feed_checks (state c hkroot mack) (call bytes satellite week time)) ≡ 0 → IsUsed c satellite week time r
    → meaning_word r ≡ cond (is_used (state c hkroot mack) (call bytes satellite week time)) (gives []) nothing

-- An admitted page at a new collector: word 0 is used, word 1 is not.
abbrev pub new_one : State
new_one = new (replicate 540 0) (replicate 2160 0)

pub record UsedExample : Type 0 where
  pub word_0_admitted : refusal (feed_checks new_one (call (replicate 5 0) 7 1200 60)) ≡ 0
  pub word_0 : is_used new_one (call (replicate 5 0) 7 1200 60) ≡ true
  pub word_1_admitted : refusal (feed_checks new_one (call (replicate 5 0) 7 1200 62)) ≡ 0
  pub word_1 : is_used new_one (call (replicate 5 0) 7 1200 62) ≡ false
