-- The tags that speak for the timing data: document 02, [4], "It also lists the message's tag numbers holding ADKD 4, ascending, whether or not the slots fit."
-- Assumes nothing.
use Rattle.std.specs.Prelude.{ℕ, zero, suc, ◌-◌, List, [], ◌∷◌, ◌++◌, cond, length, take, replicate, eqb}
use Rattle.layouts.specs.Answer.{gives, Copied, answered_with}
use Rattle.layouts.specs.Mack.{mack_checks, nt}
use Rattle.recorder.specs.Slots.{adkd_at}

-- those of tags 1 to j
unfoldable pub timing : List ℕ → ℕ → ℕ → List ℕ
timing m T zero = []
timing m T (suc j) = timing m T j ++ cond (eqb (adkd_at m T (suc j)) 4) (suc j ∷ []) []

-- those of the message, by its own nt
abbrev pub timing_of : List ℕ → ℕ → ℕ → List ℕ
timing_of m k T = timing m T (nt k T - 1)

-- nine bytes: zeros behind the last
abbrev pub nine : List ℕ → List ℕ
nine l = take 9 (l ++ replicate 9 0)

-- how many, and beside that the nine bytes
abbrev pub tags_listed : List ℕ → ℕ → ℕ → Copied
tags_listed m k T = record { answer = gives (length (timing_of m k T) ∷ []); bytes = nine (timing_of m k T) }

-- of a message alone: 1, then 7 for its sizes; zeros where refused
unfoldable pub timing_tags : List ℕ → ℕ → ℕ → Copied
timing_tags m k T = answered_with (mack_checks m k T) (gives (length (timing_of m k T) ∷ [])) (nine (timing_of m k T)) (replicate 9 0)
