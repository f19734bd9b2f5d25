-- Laws of what is refused: the code's refusals, and the checks of the definitions. For every crate.
-- Assumes nothing.
use mathlib.Core.Path.{◌≡◌, refl, sym, ap, ◌∙◌}
use mathlib.Core.List.{List, ◌++◌}
use Prim.Native.Nat.{ℕ}
use native.Mathlib.Omega.{arith}
use lib.ListN.{replicate}
use lib.Dec.{T}
use Rattle.std.specs.Prelude.{Result, Err}
use Rattle.std.specs.Result.{IsErrAnd}
use Rattle.std.proofs.lemmas.Result.{err_from_is_err_and}
use Rattle.layouts.specs.Answer.{Answer, refused, gives, Check, refusal, answered, Copied}
use Rattle.layouts.specs.Refusals.{refusal_number, refused_by, answer_of, with_bytes}
use Rattle.layouts.specs.declared.refusal.Refusal.{Refusal}
use Rattle.layouts.specs.declared.refusal.Refusal.TheVariants.{
  SliceLength,
  Satellite,
  Week,
  TimeOfWeek,
  MessageEnds,
  Reserved,
  Argument,
  UnknownTable,
  TagNumber,
  PlaceFull,
  Lengths,
  RecordRange,
}
use Rattle.layouts.proofs.Answers.{numbered, stopped, went_on, refused_with, given_with, refused_same}

-- no refusal has the number 0
pub number_some : (e : Refusal) → refusal_number e ≡ 0 → ⊥
number_some SliceLength h = absurd (omega arith)
number_some Satellite h = absurd (omega arith)
number_some Week h = absurd (omega arith)
number_some TimeOfWeek h = absurd (omega arith)
number_some MessageEnds h = absurd (omega arith)
number_some Reserved h = absurd (omega arith)
number_some Argument h = absurd (omega arith)
number_some UnknownTable h = absurd (omega arith)
number_some TagNumber h = absurd (omega arith)
number_some PlaceFull h = absurd (omega arith)
number_some Lengths h = absurd (omega arith)
number_some RecordRange h = absurd (omega arith)

-- the error that `?` hands on is the callee's
pub carried : {A : Type 0} (r : Result A Refusal) {e : Refusal} → IsErrAnd r (λ (f : Refusal). f ≡ e) → r ≡ Err e
carried r h = let p = err_from_is_err_and r h in p.1 ∙ ap Err p.2

-- and so is what is said of it
pub carry : {A B : Type 0} (f : Result A Refusal → B) (r : Result A Refusal) (e : Refusal) {b : B} → IsErrAnd r (λ (x : Refusal). x ≡ e) → f (Err e) ≡ b → f r ≡ b
carry f r e i h = rw (carried r i) h

-- what `?` hands on, as the answer
pub err_as : {A : Type 0} (numbers : A → List ℕ) (r : Result A Refusal) (e : Refusal) → IsErrAnd r (λ (f : Refusal). f ≡ e) → {a : Answer}
    → refused (refusal_number e) ≡ a → answer_of numbers r ≡ a
err_as numbers r e i h = rw (carried r i) h

pub err_as_bytes : {A : Type 0} (many : ℕ) (numbers bytes : A → List ℕ) (r : Result A Refusal) (e : Refusal) → IsErrAnd r (λ (f : Refusal). f ≡ e)
    → {c : Copied} → ◌≡◌ {A = Copied} (record { answer = refused (refusal_number e); bytes = replicate many 0 }) c
    → ◌≡◌ {A = Copied} (with_bytes many numbers bytes r) c
err_as_bytes many numbers bytes r e i h = rw (carried r i) h

-- a callee refused, or did not: what the number is of its checks and further ones
pub err_on : (cs ds : List Check) (e : Refusal) → refusal_number e ≡ refusal cs → refusal_number e ≡ refusal (cs ++ ds)
err_on cs ds e h = stopped cs ds h (number_some e)

pub ok_on : (cs ds : List Check) {n : ℕ} → T (numbered cs) → 0 ≡ refusal cs → n ≡ refusal ds → n ≡ refusal (cs ++ ds)
ok_on cs ds t z h = went_on cs ds t z refl h

-- the same of the answer behind checks
pub err_answer : (q : ℕ) (a : Answer) (e : Refusal) → refusal_number e ≡ q → refused (refusal_number e) ≡ answered q a
err_answer q a e h = rw h (refused_with q a (λ z. number_some e (h ∙ z)))

pub ok_answer : (q : ℕ) (a : Answer) {r : Answer} → 0 ≡ q → r ≡ a → r ≡ answered q a
ok_answer q a z h = given_with q a (sym z) h

-- and where `?` hands it on
pub err_through : {A : Type 0} (cs ds : List Check) (r : Result A Refusal) (e : Refusal) → IsErrAnd r (λ (f : Refusal). f ≡ e)
    → refusal_number e ≡ refusal cs → refused_by r ≡ refusal (cs ++ ds)
err_through cs ds r e i h = rw (carried r i) (err_on cs ds e h)

pub err_told : {A : Type 0} (numbers : A → List ℕ) (q : ℕ) (a : Answer) (r : Result A Refusal) (e : Refusal) → IsErrAnd r (λ (f : Refusal). f ≡ e)
    → refusal_number e ≡ q → answer_of numbers r ≡ answered q a
err_told numbers q a r e i h = rw (carried r i) (err_answer q a e h)

-- a callee's answer was refused, and the caller answers otherwise of the same checks
pub err_same : {A : Type 0} (numbers : A → List ℕ) (q : ℕ) (l : List ℕ) (a : Answer) (r : Result A Refusal) (e : Refusal) → IsErrAnd r (λ (f : Refusal). f ≡ e)
    → refused (refusal_number e) ≡ answered q (gives l)
    → answer_of numbers r ≡ answered q a
err_same numbers q l a r e i h = rw (carried r i) (refused_same q l a h)
