-- Laws of the page replay's steps.
-- Assumes nothing.
use Prim.Native.Nat.{ℕ, ◌+◌, ◌-◌, ◌≤◌, ◌<◌}
use native.Mathlib.Omega.{arith}
use mathlib.Core.Path.{◌≡◌, refl, ap, ◌∙◌}
use mathlib.Core.List.{List, [], ◌++◌}
use mathlib.Core.Bool.{Bool, true, false, cond, not}
use lib.ListN.{length}
use lib.Dec.{eqb}
use borrow.Author.Tests.{le-ltb, lt-ltb, eq-eqb, ne_eqb, not-true, not-false}
use Rattle.layouts.specs.Answer.{Answer, refused, nothing, gives, refusal, answered, Copied}
use Rattle.layouts.specs.Gst.{svn_gst_checks}
use Rattle.layouts.specs.InavPage.{is_counted, osnma, page_checks, page_kind, OsnmaRead}
use Rattle.std.specs.Prelude.{Result, Ok, Err, Option, Some, None, is_some}
use Rattle.std.specs.Option.{option_or}
use Rattle.std.specs.Int.{from_bool}
use Rattle.layouts.specs.Refusals.{refusal_number}
use Rattle.layouts.specs.declared.refusal.Refusal.{Refusal}
use Rattle.layouts.proofs.Refused.{number_some}
use Rattle.layouts.proofs.Timed.{satellite_fits, fits_all}
use Rattle.page_replay.specs.Replay.{Time, later, State, new, Begun, begun, Dsm, Run, subframes_in, silent_in, dsms_in, is_taken, one}
use Rattle.page_replay.specs.Replay.{passed_on, skipped, counted, fed_page, fed, page_step, and_then}
use Rattle.subframes.specs.Subframe.{ask_checks, used_answer, Page, Fed as SubframesFed, feed as feed_page}
use Rattle.dsms.specs.Dsm.{Fed as DsmsFed}
use Rattle.subframes.specs.SubframePromises.{IsUsed, meaning_subframe, meaning_word, call}
use Rattle.subframes.specs.SubframePromises.{state as subframe_state}
use Rattle.dsms.specs.DsmPromises.{state as dsm_state}
use Rattle.page_replay.specs.ReplayPromises.{state, meaning_subframes, meaning_dsms}
use Rattle.page_replay.specs.inner.Steps.{AtMostOne}
use Rattle.subframes.proofs.SubframeUsed.{used_alone}
use Rattle.subframes.specs.declared.subframe.CollectSubframe.{CollectSubframe}
use Rattle.subframes.specs.declared.subframe.Pair.{Pair}
use Rattle.subframes.specs.declared.subframe.Pair.TheVariants.{Silent}
use Rattle.dsms.specs.declared.dsm.CollectDsm.{CollectDsm}
use Rattle.page_replay.specs.declared.replay.PageReplay.{PageReplay}
use Rattle.page_replay.specs.declared.replay.SubframeDone.{SubframeDone}
use Rattle.page_replay.specs.declared.replay.DsmDone.{DsmDone}

-- A page of 30 bytes is not refused: whether it counts, and its OSNMA field.
module _ (page : List ℕ) (l : length page ≡ 30) where
  page_fits : refusal (page_checks page) ≡ 0
  unfolding refusal
  page_fits = rw (eq-eqb (length page) 30 l)

  kind_is : {a : Answer} → a ≡ page_kind page → a ≡ cond (is_counted page) (gives []) nothing
  unfolding answered
  kind_is e = rw page_fits at e

  pub kind_counts : gives [] ≡ page_kind page → true ≡ is_counted page
  kind_counts e = go (is_counted page) (kind_is e)
    where
      go : (b : Bool) → gives [] ≡ cond b (gives []) nothing → true ≡ b
      go true f = refl
      go false f = let z : ◌≡◌ {A = ℕ} 0 1 = cc in absurd (omega arith)

  pub kind_skipped : nothing ≡ page_kind page → false ≡ is_counted page
  kind_skipped e = go (is_counted page) (kind_is e)
    where
      go : (b : Bool) → nothing ≡ cond b (gives []) nothing → false ≡ b
      go true f = let z : ◌≡◌ {A = ℕ} 0 1 = cc in absurd (omega arith)
      go false f = refl

  pub kind_refused : (q : Refusal) → refused (refusal_number q) ≡ page_kind page → false ≡ is_counted page
  kind_refused q e = go (is_counted page) (kind_is e)
    where
      go : (b : Bool) → refused (refusal_number q) ≡ cond b (gives []) nothing → false ≡ b
      go true f = let z : ◌≡◌ {A = ℕ} 0 1 = cc in absurd (omega arith)
      go false f = refl

  pub osnma_read : (x : Result (List ℕ) Refusal) → OsnmaRead page x → x ≡ Ok (osnma page)
  unfolding answered
  osnma_read (Ok b) e = ap (λ (y : Copied). Ok y.bytes) e ∙ rw page_fits
  osnma_read (Err q) e =
      let f : refused (refusal_number q) ≡ gives [] = ap (λ (y : Copied). y.answer) e ∙ ap (λ (k : ℕ). answered k (gives [])) page_fits in
      let z : ◌≡◌ {A = ℕ} 0 1 = cc in absurd (omega arith)

pub unwrapped : {x y : List ℕ} → ◌≡◌ {A = Result (List ℕ) Refusal} (Ok x) (Ok y) → x ≡ y
unwrapped e = cc

-- Whether it is used, asked of the record alone.
pub used_asked : (c : CollectSubframe) (h m bytes : List ℕ) (n w t : ℕ) (x : Result Bool Refusal) {b : Bool}
    → IsUsed c n w t x → b ≡ is_taken (meaning_word x) → b ≡ is_taken (used_answer (subframe_state c h m) (call bytes n w t))
unfolding used_answer
used_asked c h m bytes n w t x e f = f ∙ ap is_taken e ∙ ap asked (used_alone c h m bytes n w t)
  where
    asked : Bool → Bool
    asked b =
        let q = refusal (ask_checks (subframe_state c [] []) (call [] n w t)) in
        is_taken (cond (eqb q 0) (cond b (gives []) nothing) (refused q))

-- A silent pair goes no further: the DSM collector is fed nothing.
pub passed_silent :
    {x : Result (Option Pair) Refusal} (c : CollectSubframe) (h k : List ℕ) (n : ℕ) (d : CollectDsm) (m : List ℕ) {w t : ℕ} → x ≡ Ok (Some (Silent w t))
    → ◌≡◌ {A = DsmsFed} (record { state = dsm_state d m; answer = nothing })
    (passed_on (subframes_in (meaning_subframe x)) (subframe_state c h k) n (dsm_state d m))
passed_silent c h k n d m e = rw e

-- Satellite, week and time in range are not refused.
pub start_admitted : (satellite week time : ℕ) → 1 ≤ satellite → satellite ≤ 36 → week ≤ 4095 → time ≤ 604799 → 0 ≡ refusal (svn_gst_checks satellite week time)
start_admitted satellite week time l u v h = fits_all satellite week time (satellite_fits satellite l u) refl v h

-- Two seconds later.
module _ (w t : ℕ) where
  pub later_in_week : t < 604798 → ◌≡◌ {A = Time} (record { week = w; time = t + 2 }) (later (record { week = w; time = t }))
  unfolding later
  later_in_week h = rw (lt-ltb (t + 2) 604800 (omega arith))

  module _ (h : 604798 ≤ t) where
    pub later_last_week : w ≡ 4095 → ◌≡◌ {A = Time} (record { week = 0; time = t - 604798 }) (later (record { week = w; time = t }))
    unfolding later
    later_last_week e =
        let same : t + 2 - 604800 ≡ t - 604798 = omega arith in
        rw (le-ltb (t + 2) 604800 (omega arith), eq-eqb w 4095 e, same)

    pub later_next_week : (w ≡ 4095 → ⊥) → ◌≡◌ {A = Time} (record { week = w + 1; time = t - 604798 }) (later (record { week = w; time = t }))
    unfolding later
    later_next_week ne =
        let same : t + 2 - 604800 ≡ t - 604798 = omega arith in
        rw (le-ltb (t + 2) 604800 (omega arith), ne_eqb w 4095 ne, same)

-- Of what is not there twice, that which is there.
pub one_subframe : (x y : Option SubframeDone) → length (meaning_subframes x ++ meaning_subframes y) ≤ 1
    → meaning_subframes (option_or x y) ≡ meaning_subframes x ++ meaning_subframes y
one_subframe None y l = refl
one_subframe (Some d) None l = refl
one_subframe (Some d) (Some e) l = let l : 2 ≤ 1 = l in absurd (omega arith)

pub one_dsm : (x y : Option DsmDone) → length (meaning_dsms x ++ meaning_dsms y) ≤ 1
    → meaning_dsms (option_or x y) ≡ meaning_dsms x ++ meaning_dsms y
one_dsm None y l = refl
one_dsm (Some d) None l = refl
one_dsm (Some d) (Some e) l = let l : 2 ≤ 1 = l in absurd (omega arith)

-- the same where the second is asked first
pub last_subframe : (x y : Option SubframeDone) → length (meaning_subframes x ++ meaning_subframes y) ≤ 1
    → meaning_subframes (option_or y x) ≡ meaning_subframes x ++ meaning_subframes y
last_subframe None None l = refl
last_subframe None (Some e) l = refl
last_subframe (Some d) None l = refl
last_subframe (Some d) (Some e) l = let l : 2 ≤ 1 = l in absurd (omega arith)

pub last_dsm : (x y : Option DsmDone) → length (meaning_dsms x ++ meaning_dsms y) ≤ 1
    → meaning_dsms (option_or y x) ≡ meaning_dsms x ++ meaning_dsms y
last_dsm None None l = refl
last_dsm None (Some e) l = refl
last_dsm (Some d) None l = refl
last_dsm (Some d) (Some e) l = let l : 2 ≤ 1 = l in absurd (omega arith)

pub one_few : (b : Bool) → one b ≤ 1
one_few true = omega arith
one_few false = omega arith

-- numbers of what is there, and of a test
pub one_number : (b : Bool) → from_bool b ≡ one b
one_number true = refl
one_number false = refl

pub subframe_number : (x : Option SubframeDone) → from_bool (is_some x) ≡ length (meaning_subframes x)
subframe_number None = refl
subframe_number (Some d) = refl

pub dsm_number : (x : Option DsmDone) → from_bool (is_some x) ≡ length (meaning_dsms x)
dsm_number None = refl
dsm_number (Some d) = refl

-- A new record.
module _ (s w t : ℕ) {r : PageReplay} where
  pub begun_refused :
      (q : Refusal) → refusal_number q ≡ refusal (svn_gst_checks s w t) → state r [] [] [] ≡ new 0 0 0 [] [] []
      → ◌≡◌ {A = Begun} (record { state = state r [] [] []; answer = refused (refusal_number q) }) (begun s w t [] [] [])
  unfolding begun
  begun_refused q e f = rw (← e, ne_eqb (refusal_number q) 0 (number_some q), f)

  pub begun_ready :
      0 ≡ refusal (svn_gst_checks s w t) → state r [] [] [] ≡ new s w t [] [] []
      → ◌≡◌ {A = Begun} (record { state = state r [] [] []; answer = gives [] }) (begun s w t [] [] [])
  unfolding begun
  begun_ready e f = rw (← e, f)

-- A page step.
module _ (s : State) (page : List ℕ) {b : Bool} (e : b ≡ is_counted page) {r : Run} where
  pub step_skipped : not b ≡ true → r ≡ skipped s → r ≡ page_step s page
  unfolding page_step
  step_skipped h g = rw (← e, not-true b h) g

  pub step_counted : not b ≡ false → r ≡ fed s (fed_page s page) → r ≡ page_step s page
  unfolding page_step
  step_counted h g = rw (← e, not-false b h) g

-- A page that is skipped, and one that counts.
pub skipped_is : (s : State) {n : ℕ} {t : Time} → n ≡ s.satellite → t ≡ later s.next
    → ◌≡◌ {A = Run} (record {
      state =
          record {
            satellite = n;
            next = t;
            subframes = s.subframes;
            dsms = s.dsms;
            totals =
                record {
                  pages = s.totals.pages + 1;
                  skipped = s.totals.skipped + 1;
                  used = s.totals.used;
                  unused = s.totals.unused;
                  subframes = s.totals.subframes;
                  dsms = s.totals.dsms;
                  silent = s.totals.silent;
                };
          };
      subframes = [];
      dsms = [];
    }) (skipped s)
unfolding skipped
skipped_is s i e = rw (i, e)

pub counted_is : (s : State) (u : Bool) (f : SubframesFed) (d : DsmsFed) {n : ℕ} {t : Time} {xs : List Time} {ys : List Dsm} {a b p q z : ℕ}
    → n ≡ s.satellite → t ≡ later s.next → xs ≡ subframes_in f.answer → ys ≡ dsms_in d.answer → a ≡ one u → b ≡ one (not u) → p ≡ length xs → q ≡ length ys
    → z ≡ length (silent_in f.answer)
    → ◌≡◌ {A = Run} (record {
      state =
          record {
            satellite = n;
            next = t;
            subframes = f.state;
            dsms = d.state;
            totals =
                record {
                  pages = s.totals.pages + 1;
                  skipped = s.totals.skipped;
                  used = s.totals.used + a;
                  unused = s.totals.unused + b;
                  subframes = s.totals.subframes + p;
                  dsms = s.totals.dsms + q;
                  silent = s.totals.silent + z;
                };
          };
      subframes = xs;
      dsms = ys;
    }) (counted s u f d)
unfolding counted
counted_is s u f d en et ex ey ea eb ep eq ez = rw (en, et, ep, eq, ex, ey, ea, eb, ez)

module _ (s : State) (page : List ℕ) where
  abbrev read : List ℕ → Page
  read b = call b s.satellite s.next.week s.next.time

  abbrev said : List ℕ → Bool
  said b = is_taken (used_answer s.subframes (read b))

  pub fed_is : {b : List ℕ} {u : Bool} {f : SubframesFed} {d : DsmsFed} {r : Run} → b ≡ osnma page → u ≡ said b → f ≡ feed_page s.subframes (read b)
      → d ≡ passed_on (subframes_in f.answer) f.state s.satellite s.dsms → r ≡ counted s u f d → r ≡ fed s (fed_page s page)
  unfolding fed
  fed_is {b} {u} {f} {d} eb eu ef ed er =
      er
      ∙ ap (λ (x : Bool). counted s x f d) eu
      ∙ ap (λ (x : DsmsFed). counted s (said b) f x) ed
      ∙ ap (λ (x : SubframesFed). counted s (said b) x (passed_on (subframes_in x.answer) x.state s.satellite s.dsms)) ef
      ∙ ap (λ (x : List ℕ). fed s (read x)) eb

-- One page more.
module _ (r : Run) (page : List ℕ) {x : Run} (e : x ≡ page_step r.state page) where
  pub and_then_is :
      {xs : List Time} {ys : List Dsm} → xs ≡ r.subframes ++ x.subframes → ys ≡ r.dsms ++ x.dsms
      → ◌≡◌ {A = Run} (record { state = x.state; subframes = xs; dsms = ys }) (and_then r page)
  unfolding and_then
  and_then_is ex ey = rw (ex, ey, e)

  pub subframe_at_most : AtMostOne (and_then r page) → length (r.subframes ++ x.subframes) ≤ 1
  unfolding and_then
  subframe_at_most a = rw e a.subframe_one

  pub dsm_at_most : AtMostOne (and_then r page) → length (r.dsms ++ x.dsms) ≤ 1
  unfolding and_then
  dsm_at_most a = rw e a.dsm_one
