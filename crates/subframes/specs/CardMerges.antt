-- Document 02, [8]: "We run two receiver cards and merge their pages; which comes first is chance." Any merge that keeps each satellite's own order within a
-- subframe ends the same, and answers each page the same; over a whole recording, subframe by subframe.
-- Assumes nothing.
use Rattle.std.specs.Prelude.{ℕ, List, [], ◌∷◌, ◌++◌, Bool, true, cond, ◌≡◌, ◌⊎◌, replicate, eqb}
use Rattle.layouts.specs.Answer.{Answer, refused, nothing}
use Rattle.subframes.specs.Subframe.{State, Page, complete, silent, came_out}
use Rattle.subframes.specs.SubframePromises.{call}
use Rattle.subframes.specs.SubframeRecovery.{after}
use Rattle.subframes.specs.SubframeHistory.{words_from}
use Rattle.subframes.specs.SubframeUsed.{new_one}
use Rattle.subframes.specs.TraceWalk.{answers}
use Rattle.subframes.specs.PageOrder.{page, fourteen, last_word, first_word}
use Rattle.subframes.specs.DoubledPages.{one_subframe}

-- the pages that pass a test, in their order
abbrev pub those : (Page → Bool) → List Page → List Page
those test [] = []
those test (p ∷ ps) = cond (test p) (p ∷ those test ps) (those test ps)

-- the pages of a satellite; refused ones have a number too
abbrev pub of_satellite : ℕ → List Page → List Page
of_satellite n ps = those (λ (p : Page). eqb p.satellite n) ps

-- and their answers, from those of all pages: one for each page of `of_satellite`
abbrev pub answers_of : ℕ → List Page → List Answer → List Answer
answers_of n [] [] = []
answers_of n [] (a ∷ l) = []
answers_of n (p ∷ ps) [] = []
answers_of n (p ∷ ps) (a ∷ l) = cond (eqb p.satellite n) (a ∷ answers_of n ps l) (answers_of n ps l)

-- Two merges of the same pages: each satellite's own order is the same in both.
abbrev pub SameOrder : List Page → List Page → Type 0
SameOrder ps qs = (n : ℕ) → of_satellite n ps ≡ of_satellite n qs

-- Fed from a state, two merges end with the same record and lent bytes, and each page gets the same answer: the pages of each satellite are the same, in the
-- same order, and so are their answers.
pub record EndSame (s : State) (ps qs : List Page) : Type 0 where
  pub state_is : after s ps ≡ after s qs
  pub pages_are : SameOrder ps qs
  pub answers_are : (n : ℕ) → answers_of n ps (answers s ps) ≡ answers_of n qs (answers s qs)

-- What is compared, of a word that completes a pair, one of satellite 2, and one with four bytes, which is refused.
abbrev pub short : Page
short = call (replicate 4 0) 1 0 28

abbrev pub three : List Page
three = last_word ∷ first_word ∷ short ∷ []

pub record AnswersExample : Type 0 where
  pub pages_of_1 : of_satellite 1 three ≡ last_word ∷ short ∷ []
  pub answers_of_1 : answers_of 1 three (answers fourteen three) ≡ complete 0 0 ∷ refused 1 ∷ []
  pub answers_of_2 : answers_of 2 three (answers fourteen three) ≡ nothing ∷ []

-- Within a subframe, from any state, with refused pages anywhere among them. (Where ps are of one subframe, so are qs: they are the same pages.)
abbrev pub Merges : Type 0
Merges = (s : State) (week subframe : ℕ) (ps qs : List Page) → one_subframe week subframe ps ≡ true → SameOrder ps qs → EndSame s ps qs

-- A whole recording merged in two ways: subframe by subframe, in the same order of subframes.
pub data Recording : List Page → List Page → Type 0 where
  ends : Recording [] []
  next : {rest others : List Page} (week subframe : ℕ) (ps qs : List Page) → one_subframe week subframe ps ≡ true → SameOrder ps qs → Recording rest others
      → Recording (ps ++ rest) (qs ++ others)

abbrev pub RecordingMerges : Type 0
RecordingMerges = (s : State) (ps qs : List Page) → Recording ps qs → EndSame s ps qs

-- A merge of two cards: every page of both, each card's own order kept.
pub data Merge : List Page → List Page → List Page → Type 0 where
  none : Merge [] [] []
  from_one : {one two merged : List Page} (p : Page) → Merge one two merged → Merge (p ∷ one) two (p ∷ merged)
  from_two : {one two merged : List Page} (p : Page) → Merge one two merged → Merge one (p ∷ two) (p ∷ merged)

-- no satellite is on both cards
abbrev pub Apart : List Page → List Page → Type 0
Apart one two = (n : ℕ) → (of_satellite n one ≡ []) ⊎ (of_satellite n two ≡ [])

-- Two merges of two cards, subframe by subframe: what the cards have of each subframe, where no satellite is on both.
pub data TwoMerges : List Page → List Page → Type 0 where
  no_more : TwoMerges [] []
  and_then : {rest others : List Page} (week subframe : ℕ) (one two merged other : List Page) → one_subframe week subframe one ≡ true
      → one_subframe week subframe two ≡ true → Apart one two → Merge one two merged → Merge one two other → TwoMerges rest others
      → TwoMerges (merged ++ rest) (other ++ others)

-- They are one recording merged in two ways.
abbrev pub CardsMerge : Type 0
CardsMerge = (ps qs : List Page) → TwoMerges ps qs → Recording ps qs

-- An example: satellite 1 on one card, satellite 2 on the other, in two subframes.
abbrev pub CardsExample : Type 0
CardsExample =
    TwoMerges (page 1 1 0 0 ∷ page 2 1 0 2 ∷ page 3 2 0 0 ∷ page 4 2 0 30 ∷ page 5 1 0 30 ∷ [])
    (page 3 2 0 0 ∷ page 1 1 0 0 ∷ page 2 1 0 2 ∷ page 5 1 0 30 ∷ page 4 2 0 30 ∷ [])

-- Satellite 7 on both cards: one has lost word 3, the other word 5. Both merges keep each card's own order, and not the satellite's: with one card behind the
-- other no pair comes out, with its words in their order one does.
abbrev pub no_word3 : List Page
no_word3 = words_from 0 3 ++ words_from 4 11

abbrev pub no_word5 : List Page
no_word5 = words_from 0 5 ++ words_from 6 9

abbrev pub by_words : List Page
by_words = words_from 0 3 ++ (words_from 0 5 ++ (words_from 4 11 ++ words_from 6 9))

pub record SharedSatellite : Type 0 where
  pub one_behind : Merge no_word3 no_word5 (no_word3 ++ no_word5)
  pub merged_by_words : Merge no_word3 no_word5 by_words
  pub lost : came_out (after new_one (no_word3 ++ no_word5)) 7 ≡ nothing
  pub found : came_out (after new_one by_words) 7 ≡ silent 1200 2
