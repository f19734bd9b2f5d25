-- The answers of `walk_complete`: what has come out of the satellite, and the message that is walked.
-- Assumes nothing.
use mathlib.Core.Path.{◌≡◌, refl, sym, ◌∙◌}
use mathlib.Core.Bool.{Bool, true, false, cond, not, ◌&&◌}
use mathlib.Core.List.{List, [], ◌∷◌}
use Prim.Native.Nat.{ℕ, zero, suc, ◌-◌, ◌*◌, ◌≤◌}
use native.Mathlib.Omega.{arith}
use lib.Dec.{T, eqb, eqb-suc-zero}
use lib.ListN.{length, get_or, drop, length-drop, length-take}
use borrow.Author.Tests.{ne_eqb, ltb-false, eqb-true, not-false}
use Rattle.std.specs.Prelude.{Result, Ok, Err, Option, Some, None}
use Rattle.std.specs.Result.{IsErrAnd}
use Rattle.layouts.specs.Answer.{Answer, refused, nothing, gives, shown, refusal, answered}
use Rattle.layouts.specs.Gst.{svn_checks}
use Rattle.layouts.specs.Refusals.{refusal_number}
use Rattle.layouts.specs.declared.refusal.Refusal.{Refusal}
use Rattle.layouts.proofs.Refused.{number_some, carried}
use Rattle.layouts.proofs.Answers.{none_fails, all_pass, pass_n, equals, stopped, went_on}
use Rattle.subframes.specs.Subframe.{State, is_silent, out_of, answer_at, view_checks, view, came_out}
use Rattle.subframes.specs.SubframePromises.{meaning_subframe}
use Rattle.subframes.specs.SubframeRecovery.{message}
use Rattle.subframes.specs.declared.subframe.Pair.{Pair}
use Rattle.subframes.specs.declared.subframe.Pair.TheVariants.{Complete, Silent}
use Rattle.recorder.specs.Walk.{Walk, unjudged, table_checks, walk_checks, walk, message_of, complete_checks, walk_complete}
use Rattle.recorder.specs.WalkPromises.{meaning_complete}
use Rattle.recorder.specs.declared.walk.Walked.{Walked}

-- where there is no message
pub none_refused : (k T id msg : ℕ) (r : Result (Option Walked) Refusal) (e : Refusal) → IsErrAnd r (λ (f : Refusal). f ≡ e)
    → refusal_number e ≡ refusal (table_checks k T id msg) → meaning_complete r ≡ unjudged (answered (refusal (table_checks k T id msg)) nothing)
unfolding answered
none_refused k T id msg r e i h = rw (carried r i, ← h, ne_eqb (refusal_number e) 0 (number_some e))

pub none_told : (k T id msg : ℕ) → 0 ≡ refusal (table_checks k T id msg) → unjudged nothing ≡ unjudged (answered (refusal (table_checks k T id msg)) nothing)
unfolding answered
none_told k T id msg z = rw (sym z)

-- What an answer of `came_out` tells.
abbrev told : ℕ → Bool → Bool → ℕ → ℕ → Answer
told q full silent week subframe = cond (eqb q 0) (cond full (out_of silent week subframe) nothing) (refused q)

refused_told : (q : ℕ) (full silent : Bool) (w f n : ℕ) → refused n ≡ told q full silent w f → (n ≡ q) × (n ≡ 0 → ⊥)
refused_told zero true true w f n e = let z : ◌≡◌ {A = ℕ} 0 1 = cc in absurd (omega arith)
refused_told zero true false w f n e = let z : ◌≡◌ {A = ℕ} 0 1 = cc in absurd (omega arith)
refused_told zero false silent w f n e = let z : ◌≡◌ {A = ℕ} 0 1 = cc in absurd (omega arith)
refused_told (suc q) full silent w f n e =
    let g : refused n ≡ refused (suc q) = rw (eqb-suc-zero q) at e in
    let y : n ≡ suc q = cc in
    (y, λ z. absurd (omega (arith, y, z)))

nothing_told : (q : ℕ) (full silent : Bool) (w f : ℕ) → nothing ≡ told q full silent w f → (q ≡ 0) × (full && not silent ≡ false)
nothing_told zero true true w f e = (refl, refl)
nothing_told zero true false w f e = let z : ◌≡◌ {A = ℕ} 0 1 = cc in absurd (omega arith)
nothing_told zero false silent w f e = (refl, refl)
nothing_told (suc q) full silent w f e =
    let g : nothing ≡ refused (suc q) = rw (eqb-suc-zero q) at e in
    let z : ◌≡◌ {A = ℕ} 0 1 = cc in
    absurd (omega arith)

silent_told : (q : ℕ) (full silent : Bool) (w f x y : ℕ) → gives (x ∷ y ∷ 1 ∷ []) ≡ told q full silent w f → (q ≡ 0) × (full && not silent ≡ false)
silent_told zero true true w f x y e = (refl, refl)
silent_told zero true false w f x y e = let z : ◌≡◌ {A = ℕ} 0 1 = cc in absurd (omega arith)
silent_told zero false silent w f x y e = (refl, refl)
silent_told (suc q) full silent w f x y e =
    let g : gives (x ∷ y ∷ 1 ∷ []) ≡ refused (suc q) = rw (eqb-suc-zero q) at e in
    let z : ◌≡◌ {A = ℕ} 0 1 = cc in
    absurd (omega arith)

complete_told : (q : ℕ) (full silent : Bool) (w f x y : ℕ) → gives (x ∷ y ∷ []) ≡ told q full silent w f → (q ≡ 0) × (full ≡ true) × (silent ≡ false)
complete_told zero true true w f x y e = let z : ◌≡◌ {A = ℕ} 0 1 = cc in absurd (omega arith)
complete_told zero true false w f x y e = (refl, refl, refl)
complete_told zero false silent w f x y e = let z : ◌≡◌ {A = ℕ} 0 1 = cc in absurd (omega arith)
complete_told (suc q) full silent w f x y e =
    let g : gives (x ∷ y ∷ []) ≡ refused (suc q) = rw (eqb-suc-zero q) at e in
    let z : ◌≡◌ {A = ℕ} 0 1 = cc in
    absurd (omega arith)

module _ (s : State) (n k T id : ℕ) (a : Result (Option Pair) Refusal) (e : meaning_subframe a ≡ came_out s n) where
  abbrev full : Bool
  full = eqb (get_or s.counts (n - 1) 0) 15

  abbrev silent : Bool
  silent = is_silent s.hkroot s.mack (n - 1)

  is_told : meaning_subframe a ≡ told (refusal (view_checks s n)) full silent s.week s.subframe
  unfolding came_out answer_at
  is_told = e

  -- refused for the lent bytes, the record or the satellite
  pub complete_refused : {x : Refusal} → a ≡ Err x → unjudged (refused (refusal_number x)) ≡ walk_complete s n k T id
  unfolding walk_complete
  complete_refused {x} g =
      let y = refused_told (refusal (view_checks s n)) full silent s.week s.subframe (refusal_number x) (rw g at is_told) in
      rw (← (stopped (view_checks s n) (table_checks k T id (message_of s)) y.0 y.1), ne_eqb (refusal_number x) 0 y.1)

  -- the checks that are left
  left : refusal (view_checks s n) ≡ 0 → refusal (complete_checks s n k T id) ≡ refusal (table_checks k T id (message_of s))
  left z = sym (went_on (view_checks s n) (table_checks k T id (message_of s)) tt refl z refl)

  not_complete : {w : Walk} → (refusal (view_checks s n) ≡ 0) × (full && not silent ≡ false)
      → w ≡ unjudged (answered (refusal (table_checks k T id (message_of s))) nothing) → w ≡ walk_complete s n k T id
  unfolding walk_complete answered
  not_complete y h = h ∙ go (refusal (table_checks k T id (message_of s))) (left y.0)
    where
      go : (q : ℕ) → refusal (complete_checks s n k T id) ≡ q → unjudged (cond (eqb q 0) nothing (refused q)) ≡ walk_complete s n k T id
      go zero x = rw (x, y.1)
      go (suc q) x = rw (x, eqb-suc-zero q)

  pub complete_nothing : {w : Walk} → a ≡ Ok None → w ≡ unjudged (answered (refusal (table_checks k T id (message_of s))) nothing) → w ≡ walk_complete s n k T id
  complete_nothing g h = not_complete (nothing_told (refusal (view_checks s n)) full silent s.week s.subframe (rw g at is_told)) h

  pub complete_silent : {x y : ℕ} {w : Walk} → a ≡ Ok (Some (Silent x y)) → w ≡ unjudged (answered (refusal (table_checks k T id (message_of s))) nothing)
      → w ≡ walk_complete s n k T id
  complete_silent {x} {y} g h = not_complete (silent_told (refusal (view_checks s n)) full silent s.week s.subframe x y (rw g at is_told)) h

  module _ {x y : ℕ} (g : a ≡ Ok (Some (Complete x y))) where
    is : (refusal (view_checks s n) ≡ 0) × (full ≡ true) × (silent ≡ false)
    is = complete_told (refusal (view_checks s n)) full silent s.week s.subframe x y (rw g at is_told)

    -- its message, and what is asked of it
    seen : shown s.mack (view s 60 n) ≡ message 60 n s.mack
    unfolding shown view
    seen = rw (is.0, is.1)

    whole : length (message 60 n s.mack) ≡ 60
    whole =
        let p = none_fails (view_checks s n) tt is.0 in
        let l : length s.mack ≡ 2160 = eqb-true (length s.mack) 2160 (not-false _ p.1.0) in
        let some : 1 ≤ n = ltb-false n 1 p.1.1.1.1.1.0 in
        let few : n ≤ 36 = ltb-false 36 n p.1.1.1.1.1.1.0 in
        length-take 60 (drop (60 * (n - 1)) s.mack) ∙ omega (arith, length-drop (60 * (n - 1)) s.mack, l, some, few)

    sender : refusal (svn_checks n) ≡ 0
    sender = let p = none_fails (view_checks s n) tt is.0 in all_pass (svn_checks n) (p.1.1.1.1.1.0, (p.1.1.1.1.1.1.0, tt))

    same_checks : refusal (walk_checks (message 60 n s.mack) k T n id (message_of s)) ≡ refusal (complete_checks s n k T id)
    same_checks =
        sym (pass_n 1 _ _ (equals (length (message 60 n s.mack)) 60 whole) (went_on (svn_checks n) (table_checks k T id (message_of s)) tt refl sender refl))
        ∙ sym (left is.0)

    pub complete_walked : {b : List ℕ} {w : Walk} → b ≡ shown s.mack (view s 60 n) → w ≡ walk b k T n id (message_of s) → w ≡ walk_complete s n k T id
    unfolding walk walk_complete
    complete_walked eb h = h ∙ rw (eb ∙ seen, same_checks, is.1, is.2)
