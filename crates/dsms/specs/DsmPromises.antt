-- What the collectors promise, and the paper's numbers and values for each case of their answers.
-- Assumes nothing.
use Rattle.std.specs.Prelude.{ℕ, List, [], ◌∷◌, ◌≡◌, Result, Ok, Err, Option, Some, None}
use Rattle.layouts.specs.Answer.{Answer, refused, nothing, gives, shown}
use Rattle.layouts.specs.Refusals.{refusal_number}
use Rattle.layouts.specs.declared.dsm_header.DsmType.{DsmType}
use Rattle.layouts.specs.declared.dsm_header.DsmType.TheVariants.{Kroot, Pkr}
use Rattle.layouts.specs.declared.refusal.Refusal.{Refusal}
use Rattle.dsms.specs.Dsm.{State, new, Fed, feed, view}
use Rattle.dsms.specs.declared.dsm.CollectDsm.{CollectDsm}
use Rattle.dsms.specs.declared.dsm.CompleteDsm.{CompleteDsm}
use Rattle.dsms.specs.declared.dsm.DsmFed.{DsmFed}

-- the record with the lent bytes beside it
abbrev pub state : CollectDsm → List ℕ → State
state c memory = record { id = c.id; came = c.came; held = c.held; done = c.done; memory = memory }

-- what may give nothing: its answer, from the numbers of what is given
abbrev pub answer_if : {A : Type 0} → (A → List ℕ) → Result (Option A) Refusal → Answer
answer_if numbers (Ok None) = nothing
answer_if numbers (Ok (Some x)) = gives (numbers x)
answer_if numbers (Err e) = refused (refusal_number e)

-- "an ID, a type and 13 x count"
abbrev pub type_number : DsmType → ℕ
type_number Kroot = 0
type_number Pkr = 1

abbrev pub complete_numbers : CompleteDsm → List ℕ
complete_numbers d = d.id ∷ type_number d.dsm_type ∷ d.bytes ∷ []

abbrev pub meaning_dsm : Result (Option CompleteDsm) Refusal → Answer
meaning_dsm r = answer_if complete_numbers r

abbrev pub meaning_shown : Result (Option ℕ) Refusal → Answer
meaning_shown r = answer_if (λ n. 0 ∷ n ∷ []) r

abbrev pub NewDsm : CollectDsm → Type 0
NewDsm r = state r [] ≡ new []

-- what a call gave, with the lent bytes after it
abbrev pub outcome : DsmFed → List ℕ → Fed
outcome r after = record { state = state r.collector after; answer = meaning_dsm r.answer }

abbrev pub FeedDsm : CollectDsm → List ℕ → ℕ → List ℕ → DsmFed → List ℕ → Type 0
FeedDsm c memory header block r after = outcome r after ≡ feed (state c memory) header block

abbrev pub ViewDsmShown : CollectDsm → List ℕ → Result (Option ℕ) Refusal → Type 0
ViewDsmShown c memory r = meaning_shown r ≡ view (state c memory)

abbrev pub ViewDsm : CollectDsm → List ℕ → List ℕ → Type 0
ViewDsm c memory r = r ≡ shown memory (view (state c memory))
