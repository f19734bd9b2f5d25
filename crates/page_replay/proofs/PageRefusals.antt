-- Laws of the page replay's refusals, and of what is known of a call that is not refused.
-- Assumes nothing.
use Prim.Native.Nat.{ℕ, zero, suc, ◌/◌, ◌^◌, ◌≤◌, ◌<◌, min}
use native.Mathlib.Omega.{arith}
use mathlib.Core.Path.{◌≡◌, refl, sym, ap, ◌∙◌}
use mathlib.Core.List.{List, [], ◌∷◌, ◌++◌}
use mathlib.Core.Bool.{Bool, true, false, not, ◌&&◌}
use lib.ListN.{length, drop}
use lib.Dec.{leb, ltb}
use borrow.Author.Tests.{leb-true, le-leb, le-ltb, lt-ltb, eq-eqb, ne_eqb, eqb-true, ltb-false, not-false}
use Rattle.std.specs.List.{list_all}
use Rattle.std.specs.Prelude.{Result, Ok, Err, is_err}
use Rattle.layouts.specs.Refusals.{refused_by}
use Rattle.layouts.specs.declared.refusal.Refusal.{Refusal}
use Rattle.layouts.proofs.Refused.{number_some}
use Rattle.layouts.specs.Answer.{refused, gives, Check, ◌when◌, refusal}
use Rattle.layouts.specs.Gst.{svn_gst_checks}
use Rattle.runs.proofs.Basics.{and_true}
use Rattle.layouts.proofs.Answers.{stopped, went_on, none_fails}
use Rattle.page_replay.specs.Replay.{Totals, State, Run, under, replay_checks, are_few, most, Outcome, replay, replayed, pages_of, consumed}
use Rattle.subframes.specs.Subframe.{record_checks}
use Rattle.subframes.proofs.SubframeSound.{Sound as Collecting, passed_sound}
use Rattle.page_replay.specs.ReplayPromises.{state}
use Rattle.page_replay.specs.inner.Steps.{InRange, Room}
use Rattle.page_replay.specs.declared.replay.PageReplay.{PageReplay}

-- The totals.
seven : (a b c d e f g : Bool) → list_all (λ x. x) (a ∷ b ∷ c ∷ d ∷ e ∷ f ∷ g ∷ []) ≡ a && b && c && d && e && f && g
seven true true true true true true true = refl
seven true true true true true true false = refl
seven true true true true true false g = refl
seven true true true true false f g = refl
seven true true true false e f g = refl
seven true true false d e f g = refl
seven true false c d e f g = refl
seven false b c d e f g = refl

abbrev pub totals_of : Totals → List ℕ
totals_of t = t.pages ∷ t.skipped ∷ t.used ∷ t.unused ∷ t.subframes ∷ t.dsms ∷ t.silent ∷ []

pub all_are_few : (t : Totals) → list_all (λ n. leb n most) (totals_of t) ≡ are_few t
unfolding are_few
all_are_few t =
    seven (leb t.pages most) (leb t.skipped most) (leb t.used most) (leb t.unused most) (leb t.subframes most) (leb t.dsms most) (leb t.silent most)

pub all_few : (t : Totals) → t.pages ≤ most → t.skipped ≤ most → t.used ≤ most → t.unused ≤ most → t.subframes ≤ most → t.dsms ≤ most → t.silent ≤ most
    → true ≡ are_few t
unfolding are_few
all_few t a b c d e f h =
    rw (
      le-leb t.pages most a,
      le-leb t.skipped most b,
      le-leb t.used most c,
      le-leb t.unused most d,
      le-leb t.subframes most e,
      le-leb t.dsms most f,
      le-leb t.silent most h,
    )

-- whether a check refused
pub refused_some : {A : Type 0} (r : Result A Refusal) → is_err r ≡ true → refused_by r ≡ 0 → ⊥
refused_some (Err e) h = number_some e
refused_some (Ok x) h = let z : ◌≡◌ {A = ℕ} 0 1 = cc in absurd (omega arith)

pub refused_none : {A : Type 0} (r : Result A Refusal) → is_err r ≡ false → refused_by r ≡ 0
refused_none (Ok x) h = refl
refused_none (Err e) h = let z : ◌≡◌ {A = ℕ} 0 1 = cc in absurd (omega arith)

-- The refusals of a call: the subframe collector's bytes and record, then what is left.
abbrev place_rows : State → ℕ → List Check
place_rows s budget = under 12 (svn_gst_checks s.satellite s.next.week s.next.time) ++ (7 when ltb 15 budget ∷ [])

abbrev others_of : State → ℕ → List Check
others_of s budget = 12 when ltb 15 s.dsms.id ∷ 12 when not (are_few s.totals) ∷ place_rows s budget

twelve :
    (a b c d : Bool) (cs : List Check) → (refusal (2 when a ∷ 2 when b ∷ 3 when c ∷ 4 when d ∷ []) ≡ 0 → ⊥)
    → 12 ≡ refusal (12 when a ∷ 12 when b ∷ 12 when c ∷ 12 when d ∷ cs)
unfolding refusal
twelve true b c d cs ne = refl
twelve false true c d cs ne = refl
twelve false false true d cs ne = refl
twelve false false false true cs ne = refl
twelve false false false false cs ne = absurd (ne refl)

no_twelve :
    (a b c d : Bool) (cs : List Check) → refusal (2 when a ∷ 2 when b ∷ 3 when c ∷ 4 when d ∷ []) ≡ 0
    → refusal (12 when a ∷ 12 when b ∷ 12 when c ∷ 12 when d ∷ cs) ≡ refusal cs
unfolding refusal
no_twelve true b c d cs e = absurd (omega arith)
no_twelve false true c d cs e = absurd (omega arith)
no_twelve false false true d cs e = absurd (omega arith)
no_twelve false false false true cs e = absurd (omega arith)
no_twelve false false false false cs e = refl

module _ (s : State) (budget : ℕ) where
  pub other_dsm_bytes : (length s.dsms.memory ≡ 208 → ⊥) → 1 ≡ refusal (replay_checks s budget)
  unfolding refusal
  other_dsm_bytes ne = rw (ne_eqb (length s.dsms.memory) 208 ne)

  module _ (l : length s.dsms.memory ≡ 208) {q : ℕ} (e : q ≡ refusal (record_checks s.subframes)) where
    pub other_subframes : (q ≡ 0 → ⊥) → q ≡ refusal (replay_checks s budget)
    unfolding refusal
    other_subframes ne = rw (eq-eqb (length s.dsms.memory) 208 l) (stopped (record_checks s.subframes) (others_of s budget) e ne)

    module _ (z : q ≡ 0) where
      behind : {r : ℕ} → r ≡ refusal (others_of s budget) → r ≡ refusal (replay_checks s budget)
      unfolding refusal
      behind h = rw (eq-eqb (length s.dsms.memory) 208 l) (went_on (record_checks s.subframes) (others_of s budget) tt e z h)

      pub other_dsm_id : 15 < s.dsms.id → 12 ≡ refusal (replay_checks s budget)
      unfolding refusal
      other_dsm_id h = behind (rw (lt-ltb 15 s.dsms.id h))

      module _ (i : s.dsms.id ≤ 15) where
        pub other_totals : false ≡ are_few s.totals → 12 ≡ refusal (replay_checks s budget)
        unfolding refusal
        other_totals h = behind (rw (le-ltb 15 s.dsms.id i, ← h))

        module _ (h : true ≡ are_few s.totals) {p : ℕ} (g : p ≡ refusal (svn_gst_checks s.satellite s.next.week s.next.time)) where
          beyond : {r : ℕ} → r ≡ refusal (place_rows s budget) → r ≡ refusal (replay_checks s budget)
          unfolding refusal
          beyond y = behind (rw (le-ltb 15 s.dsms.id i, ← h) y)

          pub other_place : (p ≡ 0 → ⊥) → 12 ≡ refusal (replay_checks s budget)
          other_place ne =
              beyond
              (twelve (ltb s.satellite 1) (ltb 36 s.satellite) (ltb 4095 s.next.week) (ltb 604799 s.next.time)
              (7 when ltb 15 budget ∷ []) (λ y. ne (g ∙ y)))

          last : {r : ℕ} → p ≡ 0 → r ≡ refusal (7 when ltb 15 budget ∷ []) → r ≡ refusal (replay_checks s budget)
          last y x =
              beyond
              (x
              ∙ sym
              (no_twelve (ltb s.satellite 1) (ltb 36 s.satellite) (ltb 4095 s.next.week) (ltb 604799 s.next.time)
              (7 when ltb 15 budget ∷ []) (sym g ∙ y)))

          pub other_budget : p ≡ 0 → 15 < budget → 7 ≡ refusal (replay_checks s budget)
          unfolding refusal
          other_budget y k = last y (rw (lt-ltb 15 budget k))

          pub call_admitted : p ≡ 0 → budget ≤ 15 → 0 ≡ refusal (replay_checks s budget)
          unfolding refusal
          call_admitted y k = last y (rw (le-ltb 15 budget k))

-- what is known of a call that is not refused
pub few_each :
    (t : Totals) → are_few t ≡ true
    → (t.pages ≤ most) × (t.skipped ≤ most) × (t.used ≤ most) × (t.unused ≤ most) × (t.subframes ≤ most) × (t.dsms ≤ most) × (t.silent ≤ most)
unfolding are_few
few_each t e =
    let g = and_true _ (leb t.silent most) e in
    let f = and_true _ (leb t.dsms most) g.0 in
    let d = and_true _ (leb t.subframes most) f.0 in
    let c = and_true _ (leb t.unused most) d.0 in
    let b = and_true _ (leb t.used most) c.0 in
    let a = and_true (leb t.pages most) (leb t.skipped most) b.0 in (
      leb-true t.pages most a.0,
      leb-true t.skipped most a.1,
      leb-true t.used most b.1,
      leb-true t.unused most c.1,
      leb-true t.subframes most d.1,
      leb-true t.dsms most f.1,
      leb-true t.silent most g.1,
    )

-- each check of a call that is not refused passes
pub record Legal (s : State) (budget : ℕ) : Type 0 where
  pub d208 : length s.dsms.memory ≡ 208
  pub collector : Collecting s.subframes
  pub id_low : s.dsms.id ≤ 15
  pub totals_few : are_few s.totals ≡ true
  pub some : 1 ≤ s.satellite
  pub few : s.satellite ≤ 36
  pub in_weeks : s.next.week ≤ 4095
  pub in_week : s.next.time ≤ 604799
  pub budget_15 : budget ≤ 15

pub legal : (s : State) (budget : ℕ) {q : ℕ} → q ≡ refusal (replay_checks s budget) → q ≡ 0 → Legal s budget
legal s budget e z =
    let f = none_fails (replay_checks s budget) tt (sym e ∙ z) in
    record {
      d208 = eqb-true (length s.dsms.memory) 208 (not-false _ f.0);
      collector = passed_sound s.subframes (others_of s budget) f.1;
      id_low = ltb-false 15 s.dsms.id f.1.1.1.1.1.1.0;
      totals_few = not-false _ f.1.1.1.1.1.1.1.0;
      some = ltb-false s.satellite 1 f.1.1.1.1.1.1.1.1.0;
      few = ltb-false 36 s.satellite f.1.1.1.1.1.1.1.1.1.0;
      in_weeks = ltb-false 4095 s.next.week f.1.1.1.1.1.1.1.1.1.1.0;
      in_week = ltb-false 604799 s.next.time f.1.1.1.1.1.1.1.1.1.1.1.0;
      budget_15 = ltb-false 15 budget f.1.1.1.1.1.1.1.1.1.1.1.1.0;
    }

pub legal_range : (r : PageReplay) (h m d : List ℕ) (budget : ℕ) → Legal (state r h m d) budget → InRange r
legal_range r h m d budget l = record { some = l.some; few = l.few; in_weeks = l.in_weeks; in_week = l.in_week }

pub legal_room : (r : PageReplay) (h m d : List ℕ) (budget : ℕ) → Legal (state r h m d) budget → Room r (2 ^ 62)
legal_room r h m d budget l =
    let f = few_each (state r h m d).totals l.totals_few in
    record { pages_room = f.0; skipped_room = f.1; used_room = f.2; unused_room = f.3; subframes_room = f.4; dsms_room = f.5; silent_room = f.6 }

pub pages_many : (n : ℕ) (bytes : List ℕ) → length (pages_of n bytes) ≡ n
unfolding pages_of
pages_many zero bytes = refl
pages_many (suc n) bytes = ap suc (pages_many n (drop 30 bytes))

-- A call.
module _ (s : State) (bytes : List ℕ) (budget : ℕ) {q : ℕ} (e : q ≡ refusal (replay_checks s budget)) where
  pub replay_refused : (q ≡ 0 → ⊥) → ◌≡◌ {A = Outcome} (record { state = s; answer = refused q; subframes = []; dsms = [] }) (replay s bytes budget)
  unfolding replay
  replay_refused ne = rw (← e, ne_eqb q 0 ne)

  pub replay_done : {x : Run} {n : ℕ} → q ≡ 0 → n ≡ min budget (length bytes / 30) → x ≡ replayed s (pages_of n bytes)
      → ◌≡◌ {A = Outcome} (record { state = x.state; answer = gives (n ∷ []); subframes = x.subframes; dsms = x.dsms }) (replay s bytes budget)
  unfolding replay
  replay_done {x} {n} z h g =
      let whole : replay s bytes budget ≡ ran_to (consumed bytes budget) = rw (← e, z) in
      ap (λ (y : Run). answering y n) g ∙ ap (answering (replayed s (pages_of n bytes))) (sym (pages_many n bytes))
      ∙ ap (λ (k : ℕ). ran_to (pages_of k bytes)) h ∙ sym whole
    where
      answering : Run → ℕ → Outcome
      answering y k = record { state = y.state; answer = gives (k ∷ []); subframes = y.subframes; dsms = y.dsms }

      ran_to : List (List ℕ) → Outcome
      ran_to ps = answering (replayed s ps) (length ps)
