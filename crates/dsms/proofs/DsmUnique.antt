-- Two answers that meet a promise agree, with the record and every lent byte.
-- Assumes nothing.
use mathlib.Core.Path.{◌≡◌, refl, sym, ap, ◌∙◌}
use mathlib.Core.List.{List, [], ◌∷◌}
use mathlib.Core.Bool.{cond}
use Prim.Native.Nat.{ℕ}
use lib.Dec.{eqb}
use Rattle.std.specs.Prelude.{Result, Ok, Err, Option, Some, None}
use Rattle.layouts.specs.Answer.{Answer, refused, nothing, gives}
use Rattle.layouts.proofs.Back.{refusal_at, undo_refusal}
use Rattle.layouts.specs.declared.dsm_header.DsmType.{DsmType}
use Rattle.layouts.specs.declared.dsm_header.DsmType.TheVariants.{Kroot, Pkr}
use Rattle.layouts.specs.declared.refusal.Refusal.{Refusal}
use Rattle.dsms.specs.Dsm.{State, Fed}
use Rattle.dsms.specs.DsmPromises.{outcome, complete_numbers, type_number, answer_if, meaning_dsm, meaning_shown, NewDsm, FeedDsm, ViewDsmShown, ViewDsm}
use Rattle.dsms.specs.declared.dsm.CollectDsm.{CollectDsm}
use Rattle.dsms.specs.declared.dsm.CompleteDsm.{CompleteDsm}
use Rattle.dsms.specs.declared.dsm.DsmFed.{DsmFed}

-- an answer that may give nothing, from what undoes its numbers
abbrev pub back_if : {A : Type 0} → (List ℕ → Option A) → Answer → Result (Option A) Refusal
back_if f (refused n) = Err (refusal_at n)
back_if f nothing = Ok None
back_if f (gives l) = Ok (f l)

pub undo_if : {A : Type 0} (f : List ℕ → Option A) (numbers : A → List ℕ) → ((x : A) → f (numbers x) ≡ Some x)
    → (r : Result (Option A) Refusal) → back_if f (answer_if numbers r) ≡ r
undo_if f numbers h (Ok (Some x)) = ap Ok (h x)
undo_if f numbers h (Ok None) = refl
undo_if f numbers h (Err e) = ap Err (undo_refusal e)

-- `back` undoes each `meaning`
abbrev pub type_back : ℕ → DsmType
type_back t = cond (eqb t 0) Kroot Pkr

abbrev pub dsm_back : List ℕ → Option CompleteDsm
dsm_back [] = None
dsm_back (i ∷ []) = None
dsm_back (i ∷ t ∷ []) = None
dsm_back (i ∷ t ∷ n ∷ l) = Some (record { id = i; dsm_type = type_back t; bytes = n })

pub type_undone : (t : DsmType) → type_back (type_number t) ≡ t
type_undone Kroot = refl
type_undone Pkr = refl

abbrev pub back_dsm : Answer → Result (Option CompleteDsm) Refusal
back_dsm a = back_if dsm_back a

pub undo_dsm : (r : Result (Option CompleteDsm) Refusal) → back_dsm (meaning_dsm r) ≡ r
undo_dsm r = undo_if dsm_back complete_numbers (λ d. rw (type_undone d.dsm_type)) r

abbrev pub shown_back : List ℕ → Option ℕ
shown_back [] = None
shown_back (f ∷ []) = None
shown_back (f ∷ n ∷ l) = Some n

abbrev pub back_shown : Answer → Result (Option ℕ) Refusal
back_shown a = back_if shown_back a

pub undo_shown : (r : Result (Option ℕ) Refusal) → back_shown (meaning_shown r) ≡ r
undo_shown r = undo_if shown_back (λ n. 0 ∷ n ∷ []) (λ n. refl) r

-- the record is its state without the memory
abbrev pub back_state : State → CollectDsm
back_state s = record { id = s.id; came = s.came; held = s.held; done = s.done }

pub new_dsm : (r s : CollectDsm) → NewDsm r → NewDsm s → r ≡ s
new_dsm r s p q = ap back_state (p ∙ sym q)

abbrev back_fed : Fed → DsmFed
back_fed f = record { collector = back_state f.state; answer = back_dsm f.answer }

pub feed_dsm : (c : CollectDsm) (memory : List ℕ) (header : ℕ) (block : List ℕ) (r s : DsmFed) (x y : List ℕ)
    → FeedDsm c memory header block r x → FeedDsm c memory header block s y → (r ≡ s) × (x ≡ y)
feed_dsm c memory header block r s x y p q =
    let e : outcome r x ≡ outcome s y = p ∙ sym q in
    (whole r ∙ ap back_fed e ∙ sym (whole s), ap (λ (f : Fed). f.state.memory) e)
  where
    whole : (f : DsmFed) → ◌≡◌ {A = DsmFed} f (record { collector = f.collector; answer = back_dsm (meaning_dsm f.answer) })
    whole f = rw (undo_dsm f.answer)

pub view_dsm_shown : (c : CollectDsm) (memory : List ℕ) (r s : Result (Option ℕ) Refusal) → ViewDsmShown c memory r → ViewDsmShown c memory s → r ≡ s
view_dsm_shown c memory r s p q = sym (undo_shown r) ∙ ap back_shown (p ∙ sym q) ∙ undo_shown s

pub view_dsm : (c : CollectDsm) (memory r s : List ℕ) → ViewDsm c memory r → ViewDsm c memory s → r ≡ s
view_dsm c memory r s p q = p ∙ sym q
