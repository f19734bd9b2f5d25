-- A record and lent bytes that are not refused: only what is asked can be, and they stay so, whatever page comes.
-- Assumes nothing.
use Prim.Native.Nat.{ℕ, zero, suc, ◌+◌, ◌-◌, ◌≤◌, ◌<◌}
use native.Mathlib.Omega.{arith}
use mathlib.Core.Path.{◌≡◌, refl, sym, ap, ◌∙◌, subst}
use mathlib.Core.List.{List, [], ◌∷◌, ◌++◌}
use mathlib.Core.Bool.{Bool, true, false, cond, not, ◌&&◌}
use lib.ListN.{length, get_or, set, drop, length-set}
use lib.Dec.{leb, eqb}
use borrow.Author.Tests.{le-leb, le-ltb, eq-eqb, eqb-true, eqb-false, ltb-false, not-false}
use Rattle.layouts.specs.Answer.{refused, nothing, Check, refusal}
use Rattle.layouts.proofs.Answers.{Passed, none_fails}
use Rattle.runs.proofs.Basics.{and_true}
use Rattle.subframes.specs.Subframe.{State, Page, Fed, word_of, subframe_of, small, record_checks, feed_checks, fresh, changed, used, offered, feed}
use Rattle.subframes.specs.SubframeRecovery.{call_checks, is_admitted}
use Rattle.subframes.proofs.Pages.{feed_refused, feed_admitted}

pub record Sound (s : State) : Type 0 where
  pub h540 : length s.hkroot ≡ 540
  pub m2160 : length s.mack ≡ 2160
  pub week_fits : s.week ≤ 4095
  pub subframe_fits : s.subframe ≤ 20159
  pub all_small : small s.counts ≡ true

-- whatever is checked after it
pub passed_sound : (s : State) (cs : List Check) → Passed (record_checks s ++ cs) → Sound s
passed_sound s cs f =
    record {
      h540 = eqb-true (length s.hkroot) 540 (not-false _ f.0);
      m2160 = eqb-true (length s.mack) 2160 (not-false _ f.1.0);
      week_fits = ltb-false 4095 s.week f.1.1.0;
      subframe_fits = ltb-false 20159 s.subframe f.1.1.1.0;
      all_small = not-false _ f.1.1.1.1.0;
    }

pub sound : (s : State) → refusal (record_checks s) ≡ 0 → Sound s
sound s e = passed_sound s [] (none_fails (record_checks s) tt e)

pub sound_passes : (s : State) → Sound s → (cs : List Check) → refusal (record_checks s ++ cs) ≡ refusal cs
unfolding refusal
sound_passes s d cs =
    rw (
      eq-eqb (length s.hkroot) 540 d.h540,
      eq-eqb (length s.mack) 2160 d.m2160,
      le-ltb 4095 s.week d.week_fits,
      le-ltb 20159 s.subframe d.subframe_fits,
      d.all_small,
    )

pub sound_admitted : (s : State) → Sound s → 0 ≡ refusal (record_checks s)
unfolding refusal
sound_admitted s d = sym (sound_passes s d [])

-- It stays so.
pub small_set : (l : List ℕ) (i v : ℕ) → v ≤ 15 → small l ≡ true → small (set l i v) ≡ true
unfolding small
small_set [] i v h e = refl
small_set (n ∷ l) zero v h e = rw (le-leb v 15 h) (and_true (leb n 15) (small l) e).1
small_set (n ∷ l) (suc i) v h e = let f = and_true (leb n 15) (small l) e in rw f.0 (small_set l i v h f.1)

sound_changed : (s : State) (week subframe : ℕ) → Sound s → week ≤ 4095 → subframe ≤ 20159 → Sound (changed s week subframe)
unfolding changed small
sound_changed s week subframe d hw hs = go (eqb s.week week && eqb s.subframe subframe)
  where
    go : (b : Bool) → Sound (cond b s (fresh s week subframe))
    go true = d
    go false = record { h540 = d.h540; m2160 = d.m2160; week_fits = hw; subframe_fits = hs; all_small = refl }

sound_offered : (s : State) (bytes : List ℕ) (i w : ℕ) → Sound s → w < 15 → Sound (offered s bytes i w).state
unfolding offered used
sound_offered s bytes i w d h = go (eqb w (get_or s.counts i 0))
  where
    go : (b : Bool) → Sound (cond {A = Fed} b (used s bytes i w) (record { state = s; answer = nothing })).state
    go true =
        record {
          h540 = simp length-set d.h540;
          m2160 = simp length-set d.m2160;
          week_fits = d.week_fits;
          subframe_fits = d.subframe_fits;
          all_small = small_set s.counts i (w + 1) (omega arith) d.all_small;
        }
    go false = d

pub sound_fed : (s : State) (p : Page) → Sound s → Sound (feed s p).state
sound_fed s p d = go (refusal (feed_checks s p)) refl
  where
    go : (q : ℕ) → q ≡ refusal (feed_checks s p) → Sound (feed s p).state
    go zero e =
        let f = none_fails (feed_checks s p) tt (sym e) in
        let week : p.week ≤ 4095 = ltb-false 4095 p.week f.1.1.1.1.1.1.1.1.0 in
        let time : p.time ≤ 604799 = ltb-false 604799 p.time f.1.1.1.1.1.1.1.1.1.0 in
        subst (λ (x : Fed). Sound x.state) (feed_admitted s p e refl refl refl)
        (sound_offered (changed s p.week (subframe_of p.time)) p.bytes (p.satellite - 1) (word_of p.time)
        (sound_changed s p.week (subframe_of p.time) d week (omega arith)) (omega arith))
    go (suc q) e = subst (λ (x : Fed). Sound x.state) (feed_refused s p e (λ z. absurd (omega (arith, z)))) d

-- What is refused of a page then, and what is known of one that is not: it depends on the page alone.
pub feed_number : (s : State) → Sound s → (p : Page) → refusal (feed_checks s p) ≡ refusal (call_checks p)
unfolding refusal
feed_number s l p = ap (cond (not (eqb (length p.bytes) 5)) 1) (sound_passes s l (drop 1 (call_checks p)))

-- what an admitted page is
pub record Admitted (p : Page) : Type 0 where
  pub p5 : length p.bytes ≡ 5
  pub some : 1 ≤ p.satellite
  pub few : p.satellite ≤ 36
  pub in_weeks : p.week ≤ 4095
  pub in_week : p.time ≤ 604799

pub admitted_is : (p : Page) → is_admitted p ≡ true → Admitted p
admitted_is p e =
    let f = none_fails (call_checks p) tt (eqb-true (refusal (call_checks p)) 0 e) in
    record {
      p5 = eqb-true (length p.bytes) 5 (not-false _ f.0);
      some = ltb-false p.satellite 1 f.1.0;
      few = ltb-false 36 p.satellite f.1.1.0;
      in_weeks = ltb-false 4095 p.week f.1.1.1.0;
      in_week = ltb-false 604799 p.time f.1.1.1.1.0;
    }

-- the call
module _ (s : State) (l : Sound s) (p : Page) where
  pub turned_away : is_admitted p ≡ false → feed s p ≡ record { state = s; answer = refused (refusal (call_checks p)) }
  turned_away e = sym (feed_refused s p (sym (feed_number s l p)) (eqb-false (refusal (call_checks p)) 0 e))

  pub let_in : is_admitted p ≡ true → feed s p ≡ offered (changed s p.week (subframe_of p.time)) p.bytes (p.satellite - 1) (word_of p.time)
  let_in e = sym (feed_admitted s p refl (feed_number s l p ∙ eqb-true (refusal (call_checks p)) 0 e) refl refl)
