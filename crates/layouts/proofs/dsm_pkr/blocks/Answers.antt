-- `dsm_pkr::blocks`: a message that is not empty has the half byte, so only a reserved count is refused.
-- Assumes nothing.
use mathlib.Core.Path.{◌≡◌, ap, sym, ◌∙◌}
use Prim.Native.Nat.{ℕ}
use native.Mathlib.Omega.{arith}
use Rattle.std.specs.Prelude.{Option, Some, None, Result, Ok, Err, [], ◌∷◌}
use Rattle.std.specs.Result.{result_ok}
use Rattle.std.proofs.lemmas.Option.{none-some}
use Rattle.layouts.specs.declared.refusal.Refusal.{Refusal}
use Rattle.layouts.specs.Answer.{Answer, gives, refused}
use Rattle.layouts.specs.Meaning.{meaning_number}
use Rattle.layouts.specs.Refusals.{refusal_number}
use Rattle.layouts.proofs.Pkr.{blocks_none, blocks_given, blocks_at_most}
use Rattle.layouts.proofs.dsm_pkr.blocks.Goals as goal

abbrev number_in : Option ℕ → ℕ
number_in (Some n) = n
number_in None = 0

-- what is left of the reader's answer without its refusal
given : (r : Result ℕ Refusal) (n : ℕ) (a : Answer) → result_ok r ≡ Some n → meaning_number r ≡ a → gives (n ∷ []) ≡ a
given (Ok x) n a e f = ap (λ (o : Option ℕ). gives (number_in o ∷ [])) (sym e) ∙ f
given (Err _) n a e f = absurd (none-some n e)

none : (r : Result ℕ Refusal) (a : Answer) → result_ok r ≡ None → meaning_number r ≡ a → (n : ℕ) × refused n ≡ a
none (Ok x) a e f = absurd (none-some x (sym e))
none (Err e) a _ f = (refusal_number e, f)

pub returns-in_err-n : goal.returns-in_err-n
returns-in_err-n c =
    let r = none c.number_of_blocks.result _ (sym c.ok.ensures.value ∙ c.in_err-n.was) c.number_of_blocks.ensures in
    c.from_residual.ensures ∙ blocks_none c.args.msg.now c.requires r.1

pub overflow_cast-result : goal.overflow_cast-result
overflow_cast-result c = omega (arith, blocks_at_most c.args.msg.now (given c.number_of_blocks.result c.in_ok-n.n _ (sym c.ok.ensures.value ∙ c.in_ok-n.was) c.number_of_blocks.ensures))

pub returns : goal.returns
returns c = blocks_given c.args.msg.now (given c.number_of_blocks.result c.in_ok-n.n _ (sym c.ok.ensures.value ∙ c.in_ok-n.was) c.number_of_blocks.ensures)
