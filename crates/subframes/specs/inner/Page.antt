-- What functions of `page` need and do.
-- Assumes nothing.
use Rattle.std.specs.Prelude.{ℕ, ◌-◌, ◌≡◌, List, Bool, true, false, get_or, eqb}
use Rattle.layouts.specs.Answer.{Answer, nothing}
use Rattle.subframes.specs.Subframe.{State, Page, Fed, subframe_of, is_silent, out_of, is_used, offered, feed}
use Rattle.subframes.specs.declared.page.PageTaken.{PageTaken}
use Rattle.subframes.specs.declared.page.PageTaken.TheVariants.{Unused, Used, Last}

-- a state whose counts are lent
abbrev pub state_of : ℕ → ℕ → List ℕ → List ℕ → List ℕ → State
state_of week subframe counts hkroot mack = record { week = week; subframe = subframe; counts = counts; hkroot = hkroot; mack = mack }

-- what an admitted page answers, where its satellite's bytes are zeros or not, and whether it was used
abbrev pub answer_of : PageTaken → ℕ → ℕ → Bool → Answer
answer_of Unused week subframe are_zeros = nothing
answer_of Used week subframe are_zeros = nothing
answer_of Last week subframe are_zeros = out_of are_zeros week subframe

abbrev pub used_of : PageTaken → Bool
used_of Unused = false
used_of Used = true
used_of Last = true

-- a page at lent counts, in any week and subframe
pub record Offered (counts hkroot mack bytes : List ℕ) (i word : ℕ) (r : PageTaken) (counts' hkroot' mack' : List ℕ) : Type 0 where
  pub fed : (week subframe : ℕ)
      → ◌≡◌ {A = Fed}
      (record { state = state_of week subframe counts' hkroot' mack'; answer = answer_of r week subframe (is_silent hkroot' mack' i) })
      (offered (state_of week subframe counts hkroot mack) bytes i word)
  pub used_as : used_of r ≡ eqb word (get_or counts i 0)

-- an admitted page at lent counts: what `feed` makes of it, and whether it was used
pub record PageFed (s : State) (p : Page) (r : PageTaken) (counts hkroot mack : List ℕ) : Type 0 where
  pub fed :
      ◌≡◌ {A = Fed}
      (record {
        state = state_of p.week (subframe_of p.time) counts hkroot mack;
        answer = answer_of r p.week (subframe_of p.time) (is_silent hkroot mack (p.satellite - 1));
      })
      (feed s p)
  pub used_as : used_of r ≡ is_used s p
