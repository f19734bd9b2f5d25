-- A page is used in one sense only.
-- Assumes nothing.
use Prim.Native.Nat.{ℕ, ◌-◌}
use mathlib.Core.Path.{◌≡◌, refl, ap, ◌∙◌}
use mathlib.Core.List.{List, []}
use mathlib.Core.Bool.{Bool, true, false, cond, ◌&&◌}
use lib.ListN.{get_or}
use lib.Dec.{eqb}
use Rattle.layouts.specs.Answer.{nothing, gives, refusal}
use Rattle.layouts.proofs.Answers.{none_fails}
use Rattle.subframes.specs.Subframe.{State, Page, word_of, subframe_of, small, ask_checks, feed_checks, fresh, changed, offered, is_used}
use Rattle.subframes.specs.Subframe.{feed, used_answer}
use Rattle.subframes.specs.SubframePromises.{state, call}
use Rattle.subframes.specs.SubframeUsed.{UsedIsTaken, UsedIsAsked, UsedExample}
use Rattle.subframes.specs.declared.subframe.CollectSubframe.{CollectSubframe}

pub used_is_taken : UsedIsTaken
unfolding feed offered is_used
used_is_taken s p z = rw z

-- the counts after a change do not depend on the lent bytes
counts_alone :
    (c : CollectSubframe) (h m : List ℕ) (week subframe : ℕ)
    → (changed (state c [] []) week subframe).counts ≡ (changed (state c h m) week subframe).counts
unfolding changed
counts_alone c h m week subframe = go (eqb c.week week && eqb c.subframe subframe)
  where
    go : (b : Bool) → (cond b (state c [] []) (fresh (state c [] []) week subframe)).counts ≡ (cond b (state c h m) (fresh (state c h m) week subframe)).counts
    go true = refl
    go false = refl

pub used_alone :
    (c : CollectSubframe) (h m bytes : List ℕ) (satellite week time : ℕ)
    → is_used (state c [] []) (call [] satellite week time) ≡ is_used (state c h m) (call bytes satellite week time)
unfolding is_used
used_alone c h m bytes satellite week time = ap (λ (l : List ℕ). eqb (word_of time) (get_or l (satellite - 1) 0)) (counts_alone c h m week (subframe_of time))

-- what a page that is admitted leaves of the question's checks
asked_too : (s : State) (p : Page) → refusal (feed_checks s p) ≡ 0 → refusal (ask_checks s p) ≡ 0
unfolding refusal
asked_too s p z =
    let f = none_fails (feed_checks s p) tt z in
    rw (
      f.1.1.1.0,
      f.1.1.1.1.0,
      f.1.1.1.1.1.0,
      f.1.1.1.1.1.1.0,
      f.1.1.1.1.1.1.1.0,
      f.1.1.1.1.1.1.1.1.0,
      f.1.1.1.1.1.1.1.1.1.0,
    )

pub used_is_asked : UsedIsAsked
unfolding used_answer
used_is_asked c h m bytes satellite week time r z e =
    let q : refusal (ask_checks (state c [] []) (call [] satellite week time)) ≡ 0 = asked_too (state c h m) (call bytes satellite week time) z in
    e ∙ rw q (ap (λ (b : Bool). cond b (gives []) nothing) (used_alone c h m bytes satellite week time))

pub used_example : UsedExample
unfolding refusal small is_used changed
used_example = record { word_0_admitted = refl; word_0 = refl; word_1_admitted = refl; word_1 = refl }
