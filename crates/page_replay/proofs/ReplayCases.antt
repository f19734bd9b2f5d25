-- Histories of the page replay are not empty: each call has an answer, and the smallest case is computed.
-- Assumes nothing.
use Prim.Native.Nat.{ℕ, suc, ◌≤◌, min}
use native.Mathlib.Omega.{arith}
use mathlib.Core.Path.{◌≡◌, refl, sym, ap, ◌∙◌}
use mathlib.Core.List.{List, [], ◌∷◌, ◌++◌}
use mathlib.Core.Bool.{Bool, true, false, cond}
use lib.ListN.{length, replicate}
use lib.Dec.{eqb}
use borrow.Author.Tests.{eqb-true, eqb-false}
use Rattle.layouts.specs.Answer.{refused, gives, refusal, copied}
use Rattle.layouts.specs.Bits.{bit, field, bytes_from}
use Rattle.layouts.specs.Gst.{svn_gst_checks}
use Rattle.layouts.specs.InavPage.{is_counted, osnma}
use Rattle.layouts.specs.Lists.{all}
use Rattle.layouts.specs.Sizes.{kroot_blocks}
use Rattle.subframes.specs.Subframe.{used_answer, is_used, small, changed, used, offered, answer_at, is_silent, zeros as are_zeros}
use Rattle.subframes.specs.Subframe.{feed as feed_page, view as view_page}
use Rattle.dsms.specs.Dsm.{begun as begun_blocks, stored, counted as counted_blocks, finished, taken, feed as feed_block}
use Rattle.page_replay.specs.Replay.{Time, Dsm, State, new, Begun, begun, Run, skipped, counted, fed, page_step, and_then, replayed, pages_of, whole_pages}
use Rattle.page_replay.specs.Replay.{consumed, are_few, replay_checks, Outcome, replay, fed_hkroot, later}
use Rattle.page_replay.specs.Pieces.{good_page, last_page}
use Rattle.page_replay.specs.ReplayPromises.{state, outcome, meaning_subframes, meaning_dsms, BeginReplay, ReplayPages}
use Rattle.page_replay.specs.ReplayHistory.{History, AnyCalls, zeros, good_pages, SmallestCase}
use Rattle.page_replay.specs.declared.replay.PageReplay.{PageReplay}
use Rattle.std.specs.Prelude.{Ok, Err}
use Rattle.layouts.specs.Meaning.{meaning_done}
use Rattle.layouts.proofs.Back.{refusal_at, number_back}
use Rattle.page_replay.specs.declared.replay.NewReplay.{NewReplay}
use Rattle.page_replay.specs.declared.replay.Replayed.{Replayed}
use Rattle.page_replay.proofs.PageFold.{at_most_one}
use Rattle.page_replay.proofs.PageRefusals.{legal, pages_many}
use Rattle.page_replay.proofs.ReplayHistory.{reached}
use Rattle.page_replay.proofs.ReplayUnique.{back_answer, back_subframes, back_dsms, back_state, back_outcome, undo_answer, undo_subframes}

-- Every answer of the definition is one of the code's.
any_new : (satellite week time : ℕ) → (r : NewReplay) × BeginReplay satellite week time r
unfolding begun
any_new satellite week time = go (eqb q 0) refl
  where
    q : ℕ
    q = refusal (svn_gst_checks satellite week time)

    either : Bool → Begun
    either b =
        cond b (record { state = new satellite week time [] [] []; answer = gives [] }) (record { state = new 0 0 0 [] [] []; answer = refused q })

    go : (b : Bool) → eqb q 0 ≡ b
        → (r : NewReplay) × (◌≡◌ {A = Begun} (record { state = state r.replay [] [] []; answer = meaning_done r.answer }) (either b))
    go true e = (record { replay = back_state (new satellite week time [] [] []); answer = Ok tt }, refl)
    go false e = (
      record { replay = back_state (new 0 0 0 [] [] []); answer = Err (refusal_at q) },
      ap (λ (n : ℕ). record { state = new 0 0 0 [] [] []; answer = refused n })
          (number_back (svn_gst_checks satellite week time) tt (eqb-false q 0 e)),
    )

one_subframe : (l : List Time) → length l ≤ 1 → meaning_subframes (back_subframes l) ≡ l
one_subframe [] h = refl
one_subframe (t ∷ []) h = refl
one_subframe (t ∷ u ∷ l) h = let h : suc (suc (length l)) ≤ 1 = h in absurd (omega arith)

one_dsm : (l : List Dsm) → length l ≤ 1 → meaning_dsms (back_dsms l) ≡ l
one_dsm [] h = refl
one_dsm (t ∷ []) h = refl
one_dsm (t ∷ u ∷ l) h = let h : suc (suc (length l)) ≤ 1 = h in absurd (omega arith)

-- the code's answer that says an outcome, with the lent bytes then
abbrev said : Outcome → Outcome
said o = outcome (back_outcome o) o.state.subframes.hkroot o.state.subframes.mack o.state.dsms.memory

any_outcome : (s : State) (bytes : List ℕ) (budget : ℕ) → said (replay s bytes budget) ≡ replay s bytes budget
unfolding replay
any_outcome s bytes budget = go (eqb q 0) refl
  where
    q : ℕ
    q = refusal (replay_checks s budget)

    ps : List (List ℕ)
    ps = consumed bytes budget

    either : Bool → Outcome
    either b =
        cond b
        (record { state = (replayed s ps).state; answer = gives (length ps ∷ []); subframes = (replayed s ps).subframes; dsms = (replayed s ps).dsms })
        (record { state = s; answer = refused q; subframes = []; dsms = [] })

    go : (b : Bool) → eqb q 0 ≡ b → said (either b) ≡ either b
    go true e =
        let l = legal s budget refl (eqb-true q 0 e) in
        let many : length ps ≡ min budget (whole_pages bytes) = pages_many (min budget (whole_pages bytes)) bytes in
        let few = at_most_one s ps (omega (arith, l.budget_15)) in
        let x = replayed s ps in
        ap (λ (ts : List Time). record { state = x.state; answer = gives (length ps ∷ []); subframes = ts; dsms = meaning_dsms (back_dsms x.dsms) })
        (one_subframe x.subframes few.subframe_one)
        ∙ ap (λ (ds : List Dsm). record { state = x.state; answer = gives (length ps ∷ []); subframes = x.subframes; dsms = ds })
        (one_dsm x.dsms few.dsm_one)
    go false e =
        ap (λ (n : ℕ). record { state = s; answer = refused n; subframes = []; dsms = [] })
        (number_back (replay_checks s budget) tt (eqb-false q 0 e))

pub any_calls : AnyCalls
any_calls =
    record {
      new = any_new;
      replay = λ c h m d bytes budget.
          let o = replay (state c h m d) bytes budget in
          (back_outcome o, o.state.subframes.hkroot, o.state.subframes.mack, o.state.dsms.memory, any_outcome (state c h m d) bytes budget);
    }

-- The smallest case.
abbrev seven : State
seven = (replayed (state zeros.replay zeros.hkroot zeros.mack zeros.memory) (replicate 7 good_page)).state

refused_16 : (bytes : List ℕ) → replay seven bytes 16 ≡ record { state = seven; answer = refused 7; subframes = []; dsms = [] }
unfolding replay replayed and_then page_step is_counted skipped fed counted used_answer is_used later osnma fed_hkroot bit field refusal small changed used
    offered answer_at is_silent are_zeros feed_page view_page copied begun_blocks stored counted_blocks all finished taken feed_block kroot_blocks bytes_from are_few
refused_16 bytes = refl

record Gives (n : ℕ) (subframes : List Time) (silent : ℕ) (o : Outcome) : Type 0 where
  answer_is : o.answer ≡ gives (n ∷ [])
  subframes_is : o.subframes ≡ subframes
  silent_is : o.state.totals.silent ≡ silent

eight_silent : Gives 8 [] 1 (replay seven (good_pages 8) 15)
unfolding replay replayed and_then page_step is_counted skipped fed counted used_answer is_used later osnma fed_hkroot bit field refusal small changed used
    offered answer_at is_silent are_zeros feed_page view_page copied begun_blocks stored counted_blocks all finished taken feed_block kroot_blocks bytes_from
    are_few pages_of
eight_silent = record { answer_is = refl; subframes_is = refl; silent_is = refl }

eight_complete : Gives 8 (record { week = 1200; time = 60 } ∷ []) 0 (replay seven (good_pages 7 ++ last_page) 15)
unfolding replay replayed and_then page_step is_counted skipped fed counted used_answer is_used later osnma fed_hkroot bit field refusal small changed used
    offered answer_at is_silent are_zeros feed_page view_page copied begun_blocks stored counted_blocks all finished taken feed_block kroot_blocks bytes_from
    are_few pages_of
eight_complete = record { answer_is = refl; subframes_is = refl; silent_is = refl }

seven_do_not : Gives 7 [] 0 (replay seven (good_pages 7) 15)
unfolding replay replayed and_then page_step is_counted skipped fed counted used_answer is_used later osnma fed_hkroot bit field refusal small changed used
    offered answer_at is_silent are_zeros feed_page view_page copied begun_blocks stored counted_blocks all finished taken feed_block kroot_blocks bytes_from
    are_few pages_of
seven_do_not = record { answer_is = refl; subframes_is = refl; silent_is = refl }

module _ {c : PageReplay} {h m d : List ℕ} (k : History zeros c h m d (replicate 7 good_page) [] []) where
  at_seven : state c h m d ≡ seven
  at_seven = ap (λ (x : Run). x.state) (reached k)

  module _ (bytes : List ℕ) (budget : ℕ) (r : Replayed) (h' m' d' : List ℕ) (e : ReplayPages c h m d bytes budget r h' m' d') where
    after_seven : outcome r h' m' d' ≡ replay seven bytes budget
    after_seven = e ∙ ap (λ (s : State). replay s bytes budget) at_seven

-- the code's answers, from what they mean
answer_back : (r : Replayed) (x y z : List ℕ) {o : Outcome} → outcome r x y z ≡ o → r.answer ≡ back_answer o.answer
answer_back r x y z e = sym (undo_answer r.answer) ∙ ap (λ (o : Outcome). back_answer o.answer) e

subframe_back : (r : Replayed) (x y z : List ℕ) {o : Outcome} → outcome r x y z ≡ o → r.subframe ≡ back_subframes o.subframes
subframe_back r x y z e = sym (undo_subframes r.subframe) ∙ ap (λ (o : Outcome). back_subframes o.subframes) e

begins : BeginReplay 3 1200 60 (record { replay = zeros.replay; answer = Ok tt })
unfolding begun refusal
begins = refl

pub smallest_case : SmallestCase
smallest_case =
    record {
      begins = begins;
      comes_out_lem = λ k bytes r h' m' d' e q h'' m'' d'' f.
          let x = after_seven k bytes 16 r h' m' d' e ∙ refused_16 bytes in
          let y : outcome q h'' m'' d'' ≡ replay seven (good_pages 8) 15 = f ∙ ap (λ (o : Outcome). replay o.state (good_pages 8) 15) x in (
            answer_back r h' m' d' x,
            answer_back q h'' m'' d'' y ∙ ap back_answer eight_silent.answer_is,
            subframe_back q h'' m'' d'' y ∙ ap back_subframes eight_silent.subframes_is,
            ap (λ (o : Outcome). o.state.totals.silent) y ∙ eight_silent.silent_is,
          );
      completes = λ k q h' m' d' e.
          let y = after_seven k (good_pages 7 ++ last_page) 15 q h' m' d' e in (
            answer_back q h' m' d' y ∙ ap back_answer eight_complete.answer_is,
            subframe_back q h' m' d' y ∙ ap back_subframes eight_complete.subframes_is,
            ap (λ (o : Outcome). o.state.totals.silent) y ∙ eight_complete.silent_is,
          );
      stays_out = λ k q h' m' d' e.
          let y = after_seven k (good_pages 7) 15 q h' m' d' e in (
            answer_back q h' m' d' y ∙ ap back_answer seven_do_not.answer_is,
            subframe_back q h' m' d' y ∙ ap back_subframes seven_do_not.subframes_is,
            ap (λ (o : Outcome). o.state.totals.silent) y ∙ seven_do_not.silent_is,
          );
    }
