-- From pages to the verdict: what the subframe collector's histories say of what has come out, and of the message that is shown.
-- Assumes nothing.
use mathlib.Core.Path.{◌≡◌, refl, sym, ap, ◌∙◌}
use mathlib.Core.Bool.{Bool, true, false, cond}
use mathlib.Core.List.{List, [], ◌∷◌, ◌++◌}
use Prim.Native.Nat.{ℕ, zero, suc, ◌-◌, ◌*◌, ◌%◌, ◌≤◌, ◌<◌}
use native.Mathlib.Omega.{arith}
use lib.Dec.{eqb, eqb-suc-zero}
use lib.ListN.{length, get_or}
use borrow.Author.Tests.{le-ltb}
use Rattle.std.specs.Prelude.{Result, Ok, Err, Option, Some, None}
use Rattle.layouts.specs.Answer.{Answer, refused, nothing, shown, ◌when◌, refusal, answered}
use Rattle.layouts.specs.Mack.{size_checks}
use Rattle.layouts.specs.Maclt.{table, row_of}
use Rattle.layouts.specs.Refusals.{refusal_number}
use Rattle.layouts.specs.declared.refusal.Refusal.{Refusal}
use Rattle.layouts.specs.declared.refusal.Refusal.TheVariants.{SliceLength, Satellite}
use Rattle.subframes.specs.Subframe.{State, Page, subframe_of, out_of, answer_at, is_silent, view_checks, view, came_out}
use Rattle.subframes.specs.SubframePromises.{state, meaning_subframe}
use Rattle.subframes.specs.SubframeRecovery.{run, no_page, mack_of, are_zeros}
use Rattle.subframes.specs.SubframeHistory.{ShowsPair, ShowsNone, no_bytes}
use Rattle.subframes.specs.declared.subframe.CollectSubframe.{CollectSubframe}
use Rattle.subframes.specs.declared.subframe.Pair.TheVariants.{Complete, Silent}
use Rattle.layouts.proofs.Back.{refusal_at, number_back}
use Rattle.subframes.proofs.SubframeUnique.{back_subframe}
use Rattle.subframes.proofs.SubframeHistory.{code_recovers}
use Rattle.recorder.specs.Walk.{unjudged, table_checks, walk, message_of, walk_complete}
use Rattle.recorder.specs.WalkPromises.{meaning_complete, WalkComplete}
use Rattle.recorder.specs.CompleteHistory.{message_at, NoMessage, WalksPair, CompleteWalked, HalfMinutes}
use Rattle.recorder.specs.declared.walk.Walked.{Walked}
use Rattle.recorder.proofs.CompleteAnswers.{complete_refused, complete_nothing, complete_silent, complete_walked}

-- what has come out is one of the code's answers
coded : (s : State) (n : ℕ) → meaning_subframe (back_subframe (came_out s n)) ≡ came_out s n
unfolding came_out answer_at
coded s n = go (refusal (view_checks s n)) (number_back (view_checks s n) tt) (eqb (get_or s.counts (n - 1) 0) 15) (is_silent s.hkroot s.mack (n - 1))
  where
    told : ℕ → Bool → Bool → Answer
    told q full silent = cond (eqb q 0) (cond full (out_of silent s.week s.subframe) nothing) (refused q)

    go : (q : ℕ) → ((q ≡ 0 → ⊥) → refusal_number (refusal_at q) ≡ q) → (b c : Bool) → meaning_subframe (back_subframe (told q b c)) ≡ told q b c
    go zero h true true = refl
    go zero h true false = refl
    go zero h false c = refl
    go (suc q) h b c =
        rw (eqb-suc-zero q) (ap refused (h (λ z. absurd (omega (arith, z)))))

-- the message number of a subframe is not refused
same_message : (k T id msg : ℕ) → msg ≤ 1 → refusal (table_checks k T id msg) ≡ refusal (table_checks k T id 0)
same_message k T id msg few =
    ap (λ (b : Bool). refusal (size_checks k T ++ (7 when b ∷ 8 when eqb (row_of id table).nt 0 ∷ []))) (le-ltb 1 msg few)

module _ (c : CollectSubframe) (h m : List ℕ) (n k T id : ℕ) (w : Result (Option Walked) Refusal) (e : WalkComplete c h m n k T id w) where
  abbrev s : State
  s = state c h m

  no_message : unjudged (answered (refusal (table_checks k T id (message_of s))) nothing) ≡ walk_complete s n k T id → NoMessage k T id w
  no_message q = e ∙ sym q ∙ ap (λ (x : ℕ). unjudged (answered x nothing)) (same_message k T id (message_of s) (omega arith))

  -- nothing, or a refusal, is shown
  shows : (why : Option Refusal) → ShowsNone c h m n why → meaning_subframe (no_bytes why) ≡ came_out s n
  shows why v = ap meaning_subframe (sym (v.out (back_subframe (came_out s n)) (coded s n))) ∙ coded s n

  shows_nothing : ShowsNone c h m n None → NoMessage k T id w
  shows_nothing v = no_message (complete_nothing s n k T id (Ok None) (shows None v) refl refl)

  shows_refused : (x : Refusal) → ShowsNone c h m n (Some x) → meaning_complete w ≡ unjudged (refused (refusal_number x))
  shows_refused x v = e ∙ sym (complete_refused s n k T id (Err x) (shows (Some x) v) refl)

  -- a pair is shown: it came out complete or silent, as the bytes of the earliest choice decide
  module _ (r : List Page) (v : ShowsPair c h m r n) where
    came : came_out s n ≡ out_of (are_zeros r v.choice.at) c.week c.subframe
    came = sym (coded s n) ∙ v.out (back_subframe (came_out s n)) (coded s n)

    walks : ((j : ℕ) → j < length r → c.subframe ≡ subframe_of (get_or r j no_page).time) → WalksPair r n k T id w
    walks of_run =
        record {
          choice = v.choice;
          earliest = v.earliest;
          judges = λ z j l.
              let is : came_out s n ≡ meaning_subframe (Ok (Some (Complete c.week (30 * c.subframe)))) =
              came ∙ ap (λ (b : Bool). out_of b c.week c.subframe) z in
              let msg : message_of s ≡ message_at (get_or r (v.choice.at j) no_page) =
              ap (λ (f : ℕ). f % 2) (of_run (v.choice.at j) (v.choice.inside j (omega arith) l)) in
              e ∙ sym (complete_walked s n k T id (Ok (Some (Complete c.week (30 * c.subframe)))) (sym is) refl refl refl)
              ∙ ap (λ (b : List ℕ). walk b k T n id (message_of s)) (v.mack_part (shown m (view s 60 n)) refl)
              ∙ ap (λ (x : ℕ). walk (mack_of (λ i. get_or r (v.choice.at i) no_page) 15) k T n id x) msg;
          silent = λ z.
              let is : came_out s n ≡ meaning_subframe (Ok (Some (Silent c.week (30 * c.subframe)))) = came ∙ ap (λ (b : Bool). out_of b c.week c.subframe) z in
              no_message (complete_silent s n k T id (Ok (Some (Silent c.week (30 * c.subframe)))) (sym is) refl refl);
        }

pub complete_walks : CompleteWalked
complete_walks =
    record {
      pair = λ {c} {hkroot = h} {mack = m} {ps = ps} a n some few q k T id w e.
          walks c h m n k T id w e (run ps) (code_recovers.shows_pair a n some few q) (λ j l. (code_recovers.record_of_run a j l).1);
      none = λ {c} {hkroot = h} {mack = m} a n some few q k T id w e. shows_nothing c h m n k T id w e (code_recovers.shows_none a n some few q);
      no_satellite = λ {c} {hkroot = h} {mack = m} a n q k T id w e. shows_refused c h m n k T id w e Satellite (code_recovers.shows_refused a n q);
      misfit = λ c x y q n k T id w e. shows_refused c x y n k T id w e SliceLength (code_recovers.shows_misfit c x y n q);
    }

pub half_minutes : HalfMinutes
half_minutes week time l = omega arith
