-- What an answer tells of the checks behind it: it is refused, or it is given. For every crate.
-- Assumes nothing.
use mathlib.Core.Path.{◌≡◌, refl, ◌∙◌}
use mathlib.Core.List.{List, [], ◌∷◌}
use Prim.Native.Nat.{ℕ, zero, suc}
use native.Mathlib.Omega.{arith}
use lib.Dec.{eqb-suc-zero}
use Rattle.std.specs.Prelude.{Result, Ok, Err}
use Rattle.std.specs.Result.{IsOk}
use Rattle.layouts.specs.Answer.{refused, gives, answered}
use Rattle.layouts.specs.Refusals.{answer_of}
use Rattle.layouts.specs.declared.refusal.Refusal.{Refusal}
use Rattle.layouts.proofs.Readers.{first_of}
use Rattle.layouts.proofs.Refused.{number_some}

-- refused: the number is that of the checks
pub err_number : (q : ℕ) (l : List ℕ) {n : ℕ} → refused n ≡ answered q (gives l) → n ≡ q
unfolding answered
err_number zero l h = let z : ◌≡◌ {A = ℕ} 0 1 = cc in absurd (omega arith)
err_number (suc q) l {n} h =
    let f : refused n ≡ refused (suc q) = rw (eqb-suc-zero q) at h in
    cc

-- given: no check fails, and it is what the definition gives
pub ok_given : (q : ℕ) (l : List ℕ) {r : List ℕ} → gives r ≡ answered q (gives l) → (0 ≡ q) × (r ≡ l)
unfolding answered
ok_given zero l h = (refl, cc)
ok_given (suc q) l {r} h =
    let f : gives r ≡ refused (suc q) = rw (eqb-suc-zero q) at h in
    let z : ◌≡◌ {A = ℕ} 0 1 = cc in
    absurd (omega arith)

-- where no check fails, nothing is refused,
pub not_refused : {A : Type 0} (numbers : A → List ℕ) (q : ℕ) (l : List ℕ) (r : Result A Refusal) → q ≡ 0 → answer_of numbers r ≡ answered q (gives l) → IsOk r
not_refused numbers q l (Ok x) z h = refl
not_refused numbers q l (Err e) z h = absurd (number_some e (err_number q l h ∙ z))

-- and the value is the definition's
pub given_is : {A : Type 0} (numbers : A → List ℕ) (q : ℕ) (l : List ℕ) (r : Result A Refusal) → answer_of numbers r ≡ answered q (gives l) → {x : A} → r ≡ Ok x
    → numbers x ≡ l
given_is numbers q l r h {x} g =
    let f : gives (numbers x) ≡ answered q (gives l) = rw g at h in
    (ok_given q l f).1

pub number_is : (q w : ℕ) (r : Result ℕ Refusal) → answer_of (λ v. v ∷ []) r ≡ answered q (gives (w ∷ [])) → {v : ℕ} → r ≡ Ok v → v ≡ w
number_is q w r h g = first_of (given_is (λ (v : ℕ). v ∷ []) q (w ∷ []) r h g)
