-- What the page replay reads off the subframe collector: the number that its question refuses with.
-- Assumes nothing.
use Prim.Native.Nat.{ℕ, ◌-◌, ◌*◌}
use native.Mathlib.Omega.{arith}
use mathlib.Core.Path.{◌≡◌, refl, sym, ◌∙◌}
use mathlib.Core.List.{List, [], ◌∷◌}
use mathlib.Core.Bool.{Bool, true, false, cond}
use lib.ListN.{get_or}
use lib.Dec.{eqb}
use borrow.Author.Tests.{eqb-true}
use Rattle.layouts.specs.Answer.{Answer, refused, nothing, gives, refusal}
use Rattle.subframes.specs.Subframe.{State, record_checks, view_checks, view}
use Rattle.subframes.specs.SubframePromises.{state, ViewSubframeShown}
use Rattle.subframes.specs.declared.subframe.CollectSubframe.{CollectSubframe}
use Rattle.subframes.specs.declared.subframe.Message.TheVariants.{Hkroot}
use Rattle.layouts.specs.declared.part.Part.{Part}
use Rattle.std.specs.Prelude.{Result, Ok, Err, Option, Some, None}
use Rattle.layouts.specs.Refusals.{refused_by}
use Rattle.layouts.specs.declared.refusal.Refusal.{Refusal}

-- the question for satellite 1, which is refused where the record or the lent bytes are
module _ (s : State) where
  asks : refusal (view_checks s 1) ≡ refusal (record_checks s)
  unfolding refusal
  asks = refl

  admits : (a b : Bool) (x : Answer) → eqb (refusal (view_checks s 1)) 0 ≡ a → ((n : ℕ) → x ≡ refused n → ⊥)
      → x ≡ cond a (cond b (gives (15 * (1 - 1) ∷ 15 ∷ [])) nothing) (refused (refusal (view_checks s 1))) → 0 ≡ refusal (record_checks s)
  admits true b x e ne f = sym (eqb-true (refusal (view_checks s 1)) 0 e) ∙ asks
  admits false b x e ne f = absurd (ne (refusal (view_checks s 1)) f)

  refused_with : {n : ℕ} → refused n ≡ view s 15 1 → n ≡ refusal (record_checks s)
  unfolding view
  refused_with {n} f = go (eqb (refusal (view_checks s 1)) 0) (eqb (get_or s.counts (1 - 1) 0) 15) f ∙ asks
    where
      go :
          (a b : Bool) → refused n ≡ cond a (cond b (gives (15 * (1 - 1) ∷ 15 ∷ [])) nothing) (refused (refusal (view_checks s 1)))
          → n ≡ refusal (view_checks s 1)
      go true true f = let z : ◌≡◌ {A = ℕ} 0 1 = cc in absurd (omega arith)
      go true false f = let z : ◌≡◌ {A = ℕ} 0 1 = cc in absurd (omega arith)
      go false b f = cc

  nothing_there : nothing ≡ view s 15 1 → 0 ≡ refusal (record_checks s)
  unfolding view
  nothing_there f =
      admits (eqb (refusal (view_checks s 1)) 0) (eqb (get_or s.counts (1 - 1) 0) 15) nothing refl
      (λ n g. let z : ◌≡◌ {A = ℕ} 0 1 = cc in absurd (omega arith)) f

  shown_there : {first many : ℕ} → gives (first ∷ many ∷ []) ≡ view s 15 1 → 0 ≡ refusal (record_checks s)
  unfolding view
  shown_there {first} {many} f =
      admits (eqb (refusal (view_checks s 1)) 0) (eqb (get_or s.counts (1 - 1) 0) 15) (gives (first ∷ many ∷ [])) refl
      (λ n g. let z : ◌≡◌ {A = ℕ} 0 1 = cc in absurd (omega arith)) f

module _ (c : CollectSubframe) (h m : List ℕ) (x : Result (Option Part) Refusal) (e : ViewSubframeShown c h m Hkroot 1 x) where
  pub asked : refused_by x ≡ refusal (record_checks (state c h m))
  asked = go x e
    where
      go : (y : Result (Option Part) Refusal) → ViewSubframeShown c h m Hkroot 1 y → refused_by y ≡ refusal (record_checks (state c h m))
      go (Err q) f = refused_with (state c h m) f
      go (Ok None) f = nothing_there (state c h m) f
      go (Ok (Some p)) f = shown_there (state c h m) f
