-- Document 02, [8]: "We run two receiver cards and merge their pages; which comes first is chance." A merge by week and time, those of the same second as they
-- come, is the same whichever way: also of a satellite that both cards follow, where each card has the bytes that were sent.
-- Assumes nothing.
use Rattle.std.specs.Prelude.{ℕ, List, [], ◌∷◌, ◌++◌, Bool, true, false, cond, ◌&&◌, ◌≡◌, replicate, leb, eqb}
use Rattle.subframes.specs.Subframe.{State, Page}
use Rattle.subframes.specs.SubframeRecovery.{after}
use Rattle.subframes.specs.SubframeUsed.{new_one}
use Rattle.subframes.specs.PageOrder.{held, page}
use Rattle.subframes.specs.CardMerges.{those, EndSame, Merge}

-- by week, then by time
abbrev pub not_later : Page → Page → Bool
not_later p q = cond (eqb p.week q.week) (leb p.time q.time) (leb p.week q.week)

-- no page before one of an earlier second
unfoldable pub in_time : List Page → Bool
in_time [] = true
in_time (p ∷ []) = true
in_time (p ∷ q ∷ ps) = not_later p q && in_time (q ∷ ps)

-- a page of that satellite in that second
abbrev pub is_at : ℕ → ℕ → ℕ → Page → Bool
is_at satellite week time p = eqb p.satellite satellite && (eqb p.week week && eqb p.time time)

-- Two lists in the order of time, with the same pages of each satellite in each second, end the same.
abbrev pub TimeOrder : Type 0
TimeOrder =
    (s : State) (ps qs : List Page) → in_time ps ≡ true → in_time qs ≡ true
    → ((satellite week time : ℕ) → those (is_at satellite week time) ps ≡ those (is_at satellite week time) qs) → EndSame s ps qs

-- each page has the bytes that its satellite sent then
pub data Received (sent : ℕ → ℕ → ℕ → List ℕ) : List Page → Type 0 where
  none : Received sent []
  and : {ps : List Page} (p : Page) → p.bytes ≡ sent p.satellite p.week p.time → Received sent ps → Received sent (p ∷ ps)

-- Two merges of two cards in the order of time.
abbrev pub TimeMerges : Type 0
TimeMerges =
    (s : State) (sent : ℕ → ℕ → ℕ → List ℕ) (one two ps qs : List Page) → Received sent one → Received sent two → Merge one two ps → Merge one two qs
    → in_time ps ≡ true → in_time qs ≡ true → EndSame s ps qs

-- An example: satellite 1 on both cards, each of which has lost a word of it, and satellite 2 on the second.
abbrev pub number : ℕ → ℕ → ℕ → List ℕ
number satellite week time = satellite ∷ replicate 4 0

abbrev pub card_one : List Page
card_one = page 1 1 0 0 ∷ page 1 1 0 4 ∷ []

abbrev pub card_two : List Page
card_two = page 2 2 0 0 ∷ page 1 1 0 0 ∷ page 1 1 0 2 ∷ []

abbrev pub one_first : List Page
one_first = page 1 1 0 0 ∷ page 2 2 0 0 ∷ page 1 1 0 0 ∷ page 1 1 0 2 ∷ page 1 1 0 4 ∷ []

abbrev pub two_first : List Page
two_first = page 2 2 0 0 ∷ page 1 1 0 0 ∷ page 1 1 0 0 ∷ page 1 1 0 2 ∷ page 1 1 0 4 ∷ []

pub record TimeExample : Type 0 where
  pub one_received : Received number card_one
  pub two_received : Received number card_two
  pub one_merged : Merge card_one card_two one_first
  pub two_merged : Merge card_one card_two two_first
  pub one_in_time : in_time one_first ≡ true
  pub two_in_time : in_time two_first ≡ true
  pub all_there : after new_one two_first ≡ held 0 0 3 1 (1 ∷ 1 ∷ 1 ∷ replicate 12 0 ++ (2 ∷ replicate 524 0))
  -- one card behind the other is not in the order of time, and word 2 of satellite 1 is lost
  pub behind : in_time (card_one ++ card_two) ≡ false
  pub one_lost : after new_one (card_one ++ card_two) ≡ held 0 0 2 1 (1 ∷ 1 ∷ replicate 13 0 ++ (2 ∷ replicate 524 0))
