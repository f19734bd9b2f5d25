-- Examples of silent pairs, computed.
-- Assumes nothing.
use mathlib.Core.Path.{◌≡◌, refl}
use mathlib.Core.Bool.{Bool, true, false, cond}
use lib.Dec.{eqb}
use Rattle.layouts.specs.Answer.{nothing, refusal}
use Rattle.subframes.specs.Subframe.{small, changed, zeros, is_silent, out_of, complete, answer_at, used, offered, feed, view, came_out}
use Rattle.subframes.specs.SilentPairs.{as_complete, InPlaceOfComplete, SilentPairs}

pub in_place_of_complete : InPlaceOfComplete
unfolding answer_at
in_place_of_complete count week subframe are_zeros = go (eqb count 15) are_zeros
  where
    go : (a b : Bool) → as_complete (cond a (out_of b week subframe) nothing) ≡ cond a (complete week subframe) nothing
    go true true = refl
    go true false = refl
    go false b = refl

pub silent_pairs : SilentPairs
unfolding feed offered used changed answer_at is_silent zeros refusal small view came_out
silent_pairs =
    record {
      all_zeros = refl;
      hkroot_byte = refl;
      mack_byte = refl;
      shown_zeros = refl;
      then_nothing = refl;
      old_bytes = refl;
      neighbour = refl;
      neighbour_there = (refl, refl);
      unused_page = refl;
      first_copy = refl;
      fourteen = refl;
      told_silent = refl;
      told_complete = refl;
      told_fourteen = refl;
      told_neighbour = refl;
      told_refused = refl;
    }
