-- The arguments of a page replay: document 01, "Page replay".
-- Assumes nothing.
use Rattle.std.specs.Prelude.{ℕ, min, ◌≡◌, List, [], ◌∷◌, ◌++◌, not, eqb, Result}
use Rattle.layouts.specs.Answer.{Answer, gives, Check, ◌when◌, refusal, answered}
use Rattle.layouts.specs.Gst.{svn_gst_checks}
use Rattle.layouts.specs.Refusals.{answer_of}
use Rattle.layouts.specs.declared.gst.Stamp.{Stamp}
use Rattle.layouts.specs.declared.refusal.Refusal.{Refusal}
use Rattle.texts.specs.Decimal.{is_decimal, number, most}

-- "a missing, extra or non-decimal one (digits only, at least one) is 7, tested before all else here"
abbrev pub text_checks : ℕ → List ℕ → List ℕ → List ℕ → List Check
text_checks many satellite week time =
    7 when not (eqb many 3) ∷ 7 when not (is_decimal satellite) ∷ 7 when not (is_decimal week) ∷ 7 when not (is_decimal time) ∷ []

abbrev pub meaning_arguments : Result Stamp Refusal → Answer
meaning_arguments r = answer_of (λ s. s.satellite ∷ s.week ∷ s.time ∷ []) r

-- one argument by itself; a number of more than 64 bits is answered as the largest that they hold, which is out of every range
abbrev pub ReadDecimal : List ℕ → Result ℕ Refusal → Type 0
ReadDecimal text r = answer_of (λ n. n ∷ []) r ≡ answered (refusal (7 when not (is_decimal text) ∷ [])) (gives (min (number text) most ∷ []))

-- "Satellite, week and first time are program arguments, decimal": how many arguments there are, and the three texts. "digits of any length that exceed a
-- range are 2, 3 or 4"
abbrev pub arguments_answer : ℕ → List ℕ → List ℕ → List ℕ → Answer
arguments_answer many satellite week time =
    answered
    (refusal (text_checks many satellite week time ++ svn_gst_checks (number satellite) (number week) (number time)))
    (gives (number satellite ∷ number week ∷ number time ∷ []))

abbrev pub ReadArguments : ℕ → List ℕ → List ℕ → List ℕ → Result Stamp Refusal → Type 0
ReadArguments many satellite week time r = meaning_arguments r ≡ arguments_answer many satellite week time
