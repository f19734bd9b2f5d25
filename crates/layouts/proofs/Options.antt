-- Laws of a size that is there, or none.
-- Assumes nothing.
use mathlib.Core.Path.{◌≡◌, refl, sym, ◌∙◌}
use mathlib.Core.Bool.{Bool, true, false, cond}
use Prim.Native.Nat.{ℕ}
use native.Mathlib.Omega.{arith}
use lib.Dec.{eqb}
use borrow.Author.Tests.{eqb-true, eqb-false, eq-eqb, ne_eqb}
use Rattle.std.specs.Prelude.{Option, Some, None, Ok, Err}
use Rattle.std.specs.Option.{ok_or, unwrap_or}
use Rattle.layouts.specs.Sizes.{unless_0}
use Rattle.layouts.specs.declared.refusal.Refusal.{Refusal}

pub some_size : {k n : ℕ} → n ≡ k → (n ≡ 0 → ⊥) → Some n ≡ unless_0 k
some_size {k} {n} e ne = rw (← e, ne_eqb n 0 ne)

pub no_size : {k : ℕ} → 0 ≡ k → None ≡ unless_0 k
no_size {k} e = rw (eq-eqb k 0 (sym e))

module _ (k : ℕ) {o : Option ℕ} (e : o ≡ unless_0 k) where
  pub size_is : {n : ℕ} → o ≡ Some n → n ≡ k
  size_is g = go (eqb k 0) (sym g ∙ e)
    where
      go : (b : Bool) {n : ℕ} → Some n ≡ cond b None (Some k) → n ≡ k
      go true h = let z : ◌≡◌ {A = ℕ} 0 1 = cc in absurd (omega arith)
      go false h = cc

  pub size_some : {n : ℕ} → o ≡ Some n → k ≡ 0 → ⊥
  size_some g = go (eqb k 0) refl (sym g ∙ e)
    where
      go : (b : Bool) {n : ℕ} → eqb k 0 ≡ b → Some n ≡ cond b None (Some k) → k ≡ 0 → ⊥
      go true q h = let z : ◌≡◌ {A = ℕ} 0 1 = cc in absurd (omega arith)
      go false q h = eqb-false k 0 q

  pub size_none : o ≡ None → k ≡ 0
  size_none g = go (eqb k 0) refl (sym g ∙ e)
    where
      go : (b : Bool) → eqb k 0 ≡ b → None ≡ cond b None (Some k) → k ≡ 0
      go true q h = eqb-true k 0 q
      go false q h = let z : ◌≡◌ {A = ℕ} 0 1 = cc in absurd (omega arith)

-- where it is asked for: with a refusal, or with 0 in its place
pub is_there : (o : Option ℕ) (f : Refusal) {n : ℕ} → Ok n ≡ ok_or o f → o ≡ Some n
is_there None f h = let z : ◌≡◌ {A = ℕ} 0 1 = cc in absurd (omega arith)
is_there (Some x) f h = cc

pub not_there : (o : Option ℕ) (f : Refusal) {e : Refusal} → Err e ≡ ok_or o f → (o ≡ None) × (e ≡ f)
not_there None f h = (refl, cc)
not_there (Some x) f h = let z : ◌≡◌ {A = ℕ} 0 1 = cc in absurd (omega arith)

pub or_0 : (k : ℕ) → unwrap_or (unless_0 k) 0 ≡ k
or_0 k = go (eqb k 0) refl
  where
    go : (b : Bool) → eqb k 0 ≡ b → unwrap_or (cond b None (Some k)) 0 ≡ k
    go true e = sym (eqb-true k 0 e)
    go false e = refl
