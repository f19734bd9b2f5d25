-- Document 02, [2], "Silent satellites show up as complete": "A pair whose 75 bytes are all zero is to be answered "silent" in place of complete. Nothing
-- else of the collecting rule moves". Examples of the rule, and of what looks like it and is another.
-- Assumes nothing.
use Rattle.std.specs.Prelude.{ℕ, ◌+◌, ◌*◌, List, [], ◌∷◌, Bool, cond, ◌≡◌, get_or, replicate, eqb}
use Rattle.layouts.specs.Answer.{Answer, refused, nothing, gives}
use Rattle.subframes.specs.Subframe.{new, Page, complete, silent, answer_at, feed, view, came_out}
use Rattle.subframes.specs.SubframePromises.{call}
use Rattle.subframes.specs.SubframeRecovery.{after}
use Rattle.subframes.specs.SubframeHistory.{word_page, words_from, last_page}
use Rattle.subframes.specs.SubframeUsed.{new_one}

-- "in place of complete": where a silent answer is read as a complete one, each answer is document 01's
abbrev pub as_complete : Answer → Answer
as_complete (refused n) = refused n
as_complete nothing = nothing
as_complete (gives []) = gives []
as_complete (gives (w ∷ [])) = gives (w ∷ [])
as_complete (gives (w ∷ t ∷ l)) = gives (w ∷ t ∷ [])

abbrev pub InPlaceOfComplete : Type 0
InPlaceOfComplete =
    (count week subframe : ℕ) (are_zeros : Bool)
    → as_complete (answer_at count week subframe are_zeros) ≡ cond (eqb count 15) (complete week subframe) nothing

-- a page of that word with an HKROOT byte of 1, of satellite 7, and one of satellite 8
abbrev pub one_page : ℕ → Page
one_page word = call (1 ∷ replicate 4 0) 7 1200 (60 + 2 * word)

abbrev pub neighbour_page : Page
neighbour_page = call (replicate 5 1) 8 1200 60

-- the answer to a page after others, at a new collector
abbrev pub answer_to : List Page → Page → Answer
answer_to ps p = (feed (after new_one ps) p).answer

pub record SilentPairs : Type 0 where
  -- fifteen pages of zeros, in week 1200 and subframe 2; with one byte of either message, the first or the last, it is complete
  pub all_zeros : answer_to (words_from 0 14) (word_page 14) ≡ silent 1200 2
  pub hkroot_byte : answer_to (one_page 0 ∷ words_from 1 13) (word_page 14) ≡ complete 1200 2
  pub mack_byte : answer_to (words_from 0 14) last_page ≡ complete 1200 2
  -- the zeros are shown like any pair, and after them nothing comes out until the next change
  pub shown_zeros : view (after new_one (words_from 0 15)) 15 7 ≡ gives (90 ∷ 15 ∷ [])
  pub then_nothing : answer_to (words_from 0 15) (word_page 14) ≡ nothing
  -- neither old bytes in lent memory nor another satellite's matter
  pub old_bytes : (feed (after (new (replicate 540 1) (replicate 2160 1)) (words_from 0 14)) (word_page 14)).answer ≡ silent 1200 2
  pub neighbour : answer_to (neighbour_page ∷ words_from 0 14) (word_page 14) ≡ silent 1200 2
  pub neighbour_there : let s = after new_one (neighbour_page ∷ words_from 0 15) in (get_or s.counts 7 0 ≡ 1) × (get_or s.hkroot 105 0 ≡ 1)
  -- It is not "all pages of the satellite are zeros": word 1 comes with a byte of 1, unused, and then again.
  pub unused_page : answer_to (one_page 1 ∷ words_from 0 14) (word_page 14) ≡ silent 1200 2
  -- It is not "the last copy of each word is zeros": word 0 comes with a byte of 1, and then again.
  pub first_copy : answer_to (one_page 0 ∷ words_from 0 14) (word_page 14) ≡ complete 1200 2
  -- It is not "the bytes in memory are zeros", whatever the count.
  pub fourteen : answer_to (words_from 0 13) (word_page 13) ≡ nothing
  -- What has come out is told afterwards too, with the same words: not before the last of them, and of no other satellite.
  pub told_silent : came_out (after new_one (words_from 0 15)) 7 ≡ silent 1200 2
  pub told_complete : came_out (after new_one (one_page 0 ∷ words_from 1 14)) 7 ≡ complete 1200 2
  pub told_fourteen : came_out (after new_one (words_from 0 14)) 7 ≡ nothing
  pub told_neighbour : came_out (after new_one (words_from 0 15)) 8 ≡ nothing
  pub told_refused : came_out (after new_one (words_from 0 15)) 37 ≡ refused 2
