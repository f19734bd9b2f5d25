-- Document 02, [8]: "We run two receiver cards and merge their pages": where both cards follow a satellite, its pages come twice. A later copy of a page that
-- was used, in the same run, is answered nothing and changes nothing, whatever came between; so is any page of a word that the satellite has already.
-- Assumes nothing.
use Rattle.std.specs.Prelude.{ℕ, ◌≤◌, List, [], ◌∷◌, ◌++◌, Bool, true, false, cond, ◌&&◌, ◌≡◌, length, get_or, replicate, eqb}
use Rattle.layouts.specs.Answer.{nothing, refusal}
use Rattle.subframes.specs.Subframe.{State, Page, word_of, subframe_of, feed_checks, is_used, feed}
use Rattle.subframes.specs.SubframePromises.{call}
use Rattle.subframes.specs.SubframeRecovery.{is_admitted, after}
use Rattle.subframes.specs.SubframeUsed.{new_one}
use Rattle.subframes.specs.TraceWalk.{answers}
use Rattle.subframes.specs.PageOrder.{held, page}

-- A page of that week and subframe, or a refused one, which belongs to no run and ends none.
abbrev pub stays_in : ℕ → ℕ → Page → Bool
stays_in week subframe p = cond (is_admitted p) (eqb p.week week && eqb (subframe_of p.time) subframe) true

-- pages within one run
unfoldable pub one_subframe : ℕ → ℕ → List Page → Bool
one_subframe week subframe [] = true
one_subframe week subframe (p ∷ ps) = stays_in week subframe p && one_subframe week subframe ps

-- a page of five bytes, whatever they are, of p's satellite, week and subframe, with p's word or one before it: the satellite has it where p was used
pub record Copy (p q : Page) : Type 0 where
  pub five : length q.bytes ≡ 5
  pub satellite_is : q.satellite ≡ p.satellite
  pub week_is : q.week ≡ p.week
  pub subframe_is : subframe_of q.time ≡ subframe_of p.time
  pub word_is : word_of q.time ≤ word_of p.time

-- Of any state with "36 word counts": p was admitted and used, other pages came in the same run, and then the copy q.
abbrev pub Doubled : Type 0
Doubled =
    (s : State) → length s.counts ≡ 36 → (p q : Page) (between : List Page) → refusal (feed_checks s p) ≡ 0 → is_used s p ≡ true
    → one_subframe p.week (subframe_of p.time) between ≡ true → Copy p q
    → feed (after (feed s p).state between) q ≡ record { state = after (feed s p).state between; answer = nothing }

-- So that it may be left out, whatever comes behind it: the end is the same, and so is each other page's answer.
abbrev pub LeftOut : Type 0
LeftOut =
    (s : State) → length s.counts ≡ 36 → (p q : Page) (between behind : List Page) → refusal (feed_checks s p) ≡ 0 → is_used s p ≡ true
    → one_subframe p.week (subframe_of p.time) between ≡ true → Copy p q
    → let with_it = p ∷ (between ++ (q ∷ behind)) in
    let without = p ∷ (between ++ behind) in
    (after s with_it ≡ after s without)
    × (answers s with_it ≡ answers s (p ∷ between) ++ (nothing ∷ answers (after s (p ∷ between)) behind))
    × (answers s without ≡ answers s (p ∷ between) ++ answers (after s (p ∷ between)) behind)

-- word 0 of satellite 2, and a page of satellite 37, which is refused, in another week
abbrev pub others : List Page
others = page 2 2 0 0 ∷ page 0 37 5 0 ∷ []

-- Word 0 of satellite 1 is used; after the others a copy of it comes, a second later and with another byte.
pub record DoubledExample : Type 0 where
  pub admitted : refusal (feed_checks new_one (page 1 1 0 0)) ≡ 0
  pub used : is_used new_one (page 1 1 0 0) ≡ true
  pub one_run : one_subframe 0 0 others ≡ true
  pub copied : feed (after new_one (page 1 1 0 0 ∷ others)) (page 3 1 0 1)
      ≡ record { state = held 0 0 1 1 (1 ∷ replicate 14 0 ++ (2 ∷ replicate 524 0)); answer = nothing }

-- a record without counts, which the code cannot have
abbrev pub no_counts : State
no_counts = record { week = 0; subframe = 0; counts = []; hkroot = replicate 540 0; mack = replicate 2160 0 }

-- What is no such copy is used: one that comes in another run of the same subframe, one of a page that was not used (word 1 before word 0), and one of a page
-- that was refused (four bytes). Without counts nothing would be remembered.
pub record NotDoubled : Type 0 where
  pub two_runs : one_subframe 0 0 (page 0 2 0 30 ∷ []) ≡ false
  pub used_again : after new_one (page 1 1 0 0 ∷ page 0 2 0 30 ∷ page 3 1 0 0 ∷ []) ≡ held 0 0 1 0 (3 ∷ replicate 539 0)
  pub unused : is_used new_one (page 2 1 0 2) ≡ false
  pub used_then : after new_one (page 2 1 0 2 ∷ page 1 1 0 0 ∷ page 3 1 0 2 ∷ []) ≡ held 0 0 2 0 (1 ∷ 3 ∷ replicate 538 0)
  pub refused_first : after new_one (call (replicate 4 1) 1 0 0 ∷ page 3 1 0 0 ∷ []) ≡ held 0 0 1 0 (3 ∷ replicate 539 0)
  pub forgotten : get_or (after no_counts (page 1 1 0 0 ∷ page 2 1 0 0 ∷ [])).hkroot 0 0 ≡ 2
