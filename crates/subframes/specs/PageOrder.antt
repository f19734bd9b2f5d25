-- Document 02, [8], "Order of two receivers' pages": "We run two receiver cards and merge their pages; which comes first is chance. Show that two admitted
-- pages of different satellites with the same week and subframe may be fed in either order: the record and all lent bytes end the same, and each page gets
-- the same answer. For pages of different subframes this doesn't hold, so please say so beside it." Here of two pages; of whole cards in `CardMerges.antt`,
-- of pages that come twice in `DoubledPages.antt`, of the code in `OrderHistory.antt`.
-- Assumes nothing.
use Rattle.std.specs.Prelude.{ℕ, zero, suc, ◌*◌, List, [], ◌∷◌, ◌++◌, ◌≡◌, get_or, take, drop, replicate}
use Rattle.layouts.specs.Answer.{Answer, nothing}
use Rattle.subframes.specs.Subframe.{State, Page, subframe_of, complete, feed}
use Rattle.subframes.specs.SubframePromises.{call}
use Rattle.subframes.specs.SubframeRecovery.{after}
use Rattle.subframes.specs.SubframeUsed.{new_one}

-- Two pages, p first or q first. A state is the record and all lent bytes.
pub record Commute (s : State) (p q : Page) : Type 0 where
  pub ends : (feed (feed s p).state q).state ≡ (feed (feed s q).state p).state
  pub answer_p : (feed s p).answer ≡ (feed (feed s q).state p).answer
  pub answer_q : (feed (feed s p).state q).answer ≡ (feed s q).answer

-- From any state, and of refused pages too: a refused page changes nothing, and at a record out of range, or lent bytes of other lengths, both are refused.
abbrev pub EitherOrder : Type 0
EitherOrder =
    (s : State) (p q : Page) → (p.satellite ≡ q.satellite → ⊥) → p.week ≡ q.week → subframe_of p.time ≡ subframe_of q.time → Commute s p q

-- what two pages were answered, the first first, and the state then
pub record FedBoth : Type 0 where
  pub state : State
  pub first : Answer
  pub second : Answer

abbrev pub both : State → Page → Page → FedBoth
both s p q = record { state = (feed (feed s p).state q).state; first = (feed s p).answer; second = (feed (feed s p).state q).answer }

-- a record in that week and subframe with those counts of satellites 1 and 2, beside those HKROOT bytes and MACK bytes of 0
abbrev pub held : ℕ → ℕ → ℕ → ℕ → List ℕ → State
held week subframe one two hkroot =
    record { week = week; subframe = subframe; counts = one ∷ two ∷ replicate 34 0; hkroot = hkroot; mack = replicate 2160 0 }

-- a page with that HKROOT byte and MACK bytes of 0
abbrev pub page : ℕ → ℕ → ℕ → ℕ → Page
page byte satellite week time = call (byte ∷ replicate 4 0) satellite week time

-- n pages of satellite 1 in week 0 and subframe 0, from that word on, all zeros
abbrev pub zeros_from : ℕ → ℕ → List Page
zeros_from word zero = []
zeros_from word (suc n) = page 0 1 0 (2 * word) ∷ zeros_from (suc word) n

-- all words of satellite 1 but the last
abbrev pub fourteen : State
fourteen = after new_one (zeros_from 0 14)

-- Different satellites, one subframe: word 14 of satellite 1, and word 0 of satellite 2. Both are used, and the first comes out, either way.
pub record OrderExample : Type 0 where
  pub one_first : both fourteen (page 1 1 0 28) (page 2 2 0 0)
      ≡ record { state = held 0 0 15 1 (replicate 14 0 ++ (1 ∷ 2 ∷ replicate 524 0)); first = complete 0 0; second = nothing }
  pub two_first : both fourteen (page 2 2 0 0) (page 1 1 0 28)
      ≡ record { state = held 0 0 15 1 (replicate 14 0 ++ (1 ∷ 2 ∷ replicate 524 0)); first = nothing; second = complete 0 0 }

-- The last MACK bytes of satellite 1 and the first of satellite 2 lie side by side: each keeps its own, either way.
abbrev pub last_word : Page
last_word = call (1 ∷ 0 ∷ 0 ∷ 0 ∷ 9 ∷ []) 1 0 28

abbrev pub first_word : Page
first_word = call (2 ∷ 5 ∷ 0 ∷ 0 ∷ 0 ∷ []) 2 0 0

pub record SideBySide : Type 0 where
  pub one_first : take 8 (drop 56 (both fourteen last_word first_word).state.mack) ≡ 0 ∷ 0 ∷ 0 ∷ 9 ∷ 5 ∷ 0 ∷ 0 ∷ 0 ∷ []
  pub two_first : take 8 (drop 56 (both fourteen first_word last_word).state.mack) ≡ 0 ∷ 0 ∷ 0 ∷ 9 ∷ 5 ∷ 0 ∷ 0 ∷ 0 ∷ []

-- "For pages of different subframes this doesn't hold": word 14 of satellite 1, and satellite 2 in the next subframe. The record, the bytes and the answer of
-- the first differ.
pub record OrderMatters : Type 0 where
  pub in_time : both fourteen (page 1 1 0 28) (page 0 2 0 30)
      ≡ record { state = held 0 1 0 1 (replicate 14 0 ++ (1 ∷ replicate 525 0)); first = complete 0 0; second = nothing }
  pub too_late : both fourteen (page 0 2 0 30) (page 1 1 0 28)
      ≡ record { state = held 0 0 0 0 (replicate 540 0); first = nothing; second = nothing }

-- The smallest such case, at a new collector: the page that comes last decides the subframe, and the other one is forgotten.
pub record SmallestOrder : Type 0 where
  pub in_time : (both new_one (page 0 1 0 0) (page 0 2 0 30)).state ≡ held 0 1 0 1 (replicate 540 0)
  pub too_late : (both new_one (page 0 2 0 30) (page 0 1 0 0)).state ≡ held 0 0 1 0 (replicate 540 0)

-- The same subframe number of another week is another subframe.
pub record WeekMatters : Type 0 where
  pub in_time : (both new_one (page 0 1 0 0) (page 0 2 1 0)).state ≡ held 1 0 0 1 (replicate 540 0)
  pub too_late : (both new_one (page 0 2 1 0) (page 0 1 0 0)).state ≡ held 0 0 1 0 (replicate 540 0)

-- Of one satellite the order matters: words in their order, and two copies of a word whose bytes differ, of which the first is used.
pub record OwnOrderMatters : Type 0 where
  pub in_order : (both new_one (page 1 1 0 0) (page 2 1 0 2)).state ≡ held 0 0 2 0 (1 ∷ 2 ∷ replicate 538 0)
  pub out_of_order : (both new_one (page 2 1 0 2) (page 1 1 0 0)).state ≡ held 0 0 1 0 (1 ∷ replicate 539 0)
  pub one_copy : (both new_one (page 1 1 0 0) (page 2 1 0 0)).state ≡ held 0 0 1 0 (1 ∷ replicate 539 0)
  pub other_copy : (both new_one (page 2 1 0 0) (page 1 1 0 0)).state ≡ held 0 0 1 0 (2 ∷ replicate 539 0)
  -- so too of satellite 36
  pub last_in_order : get_or (both new_one (page 1 36 0 0) (page 2 36 0 2)).state.counts 35 0 ≡ 2
  pub last_out_of_order : get_or (both new_one (page 2 36 0 2) (page 1 36 0 0)).state.counts 35 0 ≡ 1
