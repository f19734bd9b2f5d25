-- An answer in the form of a record: the refusal's number, 0 for none, and the values, zeros where it is refused.
-- Assumes nothing.
use Rattle.std.specs.Prelude.{ℕ, List, [], ◌∷◌, Result, Ok, Err}
use Rattle.layouts.specs.Refusals.{refusal_number}
use Rattle.layouts.specs.declared.refusal.Refusal.{Refusal}

abbrev pub refusal_in : Result (List ℕ) Refusal → ℕ
refusal_in (Ok l) = 0
refusal_in (Err e) = refusal_number e

abbrev pub values_in : Result (List ℕ) Refusal → List ℕ
values_in (Ok l) = l
values_in (Err e) = 0 ∷ 0 ∷ 0 ∷ []
