-- Whatever history of calls: what the code left is one run of the definition over the pages that were consumed, so that its collectors recover.
-- Assumes nothing.
use Rattle.page_replay.specs.Replay as Replay
use Prim.Native.Nat.{ℕ, ◌+◌, ◌≤◌, min}
use native.Mathlib.Omega.{arith}
use native.Mathlib.Decide.{ℕ_discrete}
use mathlib.Core.Path.{◌≡◌, refl, sym, ap, ◌∙◌, subst, subst⁻¹}
use mathlib.Core.List.{List, [], ◌∷◌, ◌++◌, append-nil}
use mathlib.Core.Bool.{Bool, true, false, cond}
use lib.ListN.{length, replicate}
use lib.Dec.{ltb, eqb}
use borrow.Author.Tests.{ltb-true, ltb-false}
use Rattle.layouts.specs.Answer.{Answer, refused, gives, refusal}
use Rattle.layouts.specs.Gst.{svn_gst_checks}
use Rattle.subframes.specs.Subframe.{Page, State as Subframes, new as new_subframes}
use Rattle.subframes.specs.SubframePromises.{state as subframe_state}
use Rattle.subframes.specs.SubframeHistory.{History as SubframeHistory, begun as pages_begun}
use Rattle.subframes.proofs.SubframeUnique.{back_state as back_collector}
use Rattle.subframes.proofs.SubframeHistory.{code_recovers as pages_recover}
use Rattle.subframes.proofs.SubframeRecovery.{subframes_recover}
use Rattle.subframes.proofs.SubframeSound.{Sound as Collecting, sound_admitted}
use Rattle.subframes.specs.SubframeRecovery.{after as after_pages}
use Rattle.dsms.specs.Dsm.{State as Dsms, new as new_dsms}
use Rattle.dsms.specs.DsmPromises.{state as dsm_state}
use Rattle.dsms.specs.DsmHistory.{History as DsmHistory, begun as blocks_begun}
use Rattle.dsms.proofs.DsmHistory.{code_recovers as blocks_recover}
use Rattle.dsms.proofs.DsmRecovery.{dsm_recovers}
use Rattle.dsms.proofs.DsmUnique.{back_state as back_dsm}
use Rattle.dsms.specs.DsmRecovery.{Call as Block, is_admitted as is_admitted_block, after as after_blocks}
use Rattle.page_replay.specs.Replay.{no_totals, start, Time, Dsm, Totals, State, new, Begun, Run, skipped, replayed, pages_of, whole_pages, consumed}
use Rattle.page_replay.specs.Replay.{most, are_few}
use Rattle.page_replay.specs.Replay.{replay_checks, Outcome, replay}
use Rattle.page_replay.specs.Pieces.{followed_by, Call, answered_to, reported}
use Rattle.page_replay.specs.ReplayPromises.{state, outcome, meaning_replay, meaning_subframes, meaning_dsms, ReplayPages}
use Rattle.page_replay.specs.ReplayHistory.{Beginning, Misfit, History, begun, called, misfit, fed_from, blocks_from, subframes_from, silent_from}
use Rattle.page_replay.specs.ReplayHistory.{dsms_from, first_subframes, first_dsms, pages_fed, blocks_fed, ReplayRecovers, refused_start, CallsAnswered}
use Rattle.page_replay.specs.ReplayHistory.{Unchanged, RefusedChangesNothing, MisfitIsRefused}
use Rattle.page_replay.specs.declared.replay.PageReplay.{PageReplay}
use Rattle.std.specs.Prelude.{Result, Err}
use Rattle.layouts.specs.Refusals.{refusal_number}
use Rattle.layouts.specs.declared.refusal.Refusal.{Refusal}
use Rattle.layouts.specs.declared.refusal.Refusal.TheVariants.{SliceLength, RecordRange}
use Rattle.page_replay.specs.declared.replay.Replayed.{Replayed}
use Rattle.page_replay.proofs.PagePieces.{Good, good_first_page, good_onward, zeros_small, admitted_call, high_budget_7, split_anywhere, call_consumes}
use Rattle.page_replay.proofs.PageRefusals.{other_dsm_bytes, other_subframes, other_place, replay_refused, replay_done}
use Rattle.page_replay.proofs.ReplayUnique.{back_answer, back_subframes, back_dsms, back_state, undo_answer, undo_subframes, undo_dsms}
use Rattle.subframes.proofs.Pages.{other_hkroot, other_mack}
use Rattle.page_replay.proofs.PagesFed.{Feeds, replay_feeds, Each, each_at, Fits, fits_admitted, fed_fit, blocks_fit}
use Rattle.page_replay.proofs.CollectorCalls.{pages_called, blocks_called}

-- A refused call.
refused_outcome : (s : State) (bytes : List ℕ) (budget n : ℕ) → (replay s bytes budget).answer ≡ refused n
    → replay s bytes budget ≡ record { state = s; answer = refused n; subframes = []; dsms = [] }
unfolding replay
refused_outcome s bytes budget n = go (eqb q 0)
  where
    q : ℕ
    q = refusal (replay_checks s budget)

    ps : List (List ℕ)
    ps = consumed bytes budget

    either : Bool → Outcome
    either b =
        cond b
        (record { state = (replayed s ps).state; answer = gives (length ps ∷ []); subframes = (replayed s ps).subframes; dsms = (replayed s ps).dsms })
        (record { state = s; answer = refused q; subframes = []; dsms = [] })

    go : (b : Bool) → (either b).answer ≡ refused n → either b ≡ record { state = s; answer = refused n; subframes = []; dsms = [] }
    go true e = let z : ◌≡◌ {A = ℕ} 0 1 = cc in absurd (omega arith)
    go false e = ap (λ (a : Answer). record { state = s; answer = a; subframes = []; dsms = [] }) e

module _ (c : PageReplay) (x y z bytes : List ℕ) (budget : ℕ) (r : Replayed) (x' y' z' : List ℕ) where
  -- what it hands back is the code's, if it means that
  unchanged : (n : ℕ) → outcome r x' y' z' ≡ record { state = state c x y z; answer = refused n; subframes = []; dsms = [] } → Unchanged c x y z r x' y' z'
  unchanged n q =
      record {
        record_is = ap (λ (o : Outcome). back_state o.state) q;
        hkroot_is = ap (λ (o : Outcome). o.state.subframes.hkroot) q;
        mack_is = ap (λ (o : Outcome). o.state.subframes.mack) q;
        memory_is = ap (λ (o : Outcome). o.state.dsms.memory) q;
        no_subframe = sym (undo_subframes r.subframe) ∙ ap (λ (o : Outcome). back_subframes o.subframes) q;
        no_dsm = sym (undo_dsms r.dsm) ∙ ap (λ (o : Outcome). back_dsms o.dsms) q;
      }

  misfit_1 : Misfit x y z → 1 ≡ refusal (replay_checks (state c x y z) budget)
  misfit_1 w = go (ℕ_discrete (length x) 540) (ℕ_discrete (length y) 2160) (ℕ_discrete (length z) 208)
    where
      s : State
      s = state c x y z

      go : Dec (length x ≡ 540) → Dec (length y ≡ 2160) → Dec (length z ≡ 208) → 1 ≡ refusal (replay_checks (state c x y z) budget)
      go h m (no d) = other_dsm_bytes (state c x y z) budget d
      go (no h) m (yes d) = other_subframes (state c x y z) budget d (other_hkroot (state c x y z).subframes h) (λ e. absurd (omega (arith, e)))
      go (yes h) (no m) (yes d) = other_subframes (state c x y z) budget d (other_mack (state c x y z).subframes h m) (λ e. absurd (omega (arith, e)))
      go (yes h) (yes m) (yes d) = absurd (w (h, m, d))

  misfit_call : Misfit x y z → ReplayPages c x y z bytes budget r x' y' z' → (r.answer ≡ Err SliceLength) × Unchanged c x y z r x' y' z'
  misfit_call w e =
      let q : outcome r x' y' z' ≡ record { state = state c x y z; answer = refused 1; subframes = []; dsms = [] } =
      e ∙ sym (replay_refused (state c x y z) bytes budget (misfit_1 w) (λ f. absurd (omega (arith, f)))) in
      (sym (undo_answer r.answer) ∙ ap (λ (o : Outcome). back_answer o.answer) q, unchanged 1 q)

pub refused_changes_nothing : RefusedChangesNothing
refused_changes_nothing c x y z bytes budget r x' y' z' q e f =
    let n : ℕ = refusal_number q in
    let a : (replay (state c x y z) bytes budget).answer ≡ refused n = ap (λ (o : Outcome). o.answer) (sym e) ∙ ap meaning_replay f in
    unchanged c x y z bytes budget r x' y' z' n (e ∙ refused_outcome (state c x y z) bytes budget n a)

pub misfit_is_refused : MisfitIsRefused
misfit_is_refused c x y z bytes budget r x' y' z' w e = misfit_call c x y z bytes budget r x' y' z' w e

-- After a history: one run over the pages that were consumed.
abbrev pub first : Beginning → State
first b = state b.replay b.hkroot b.mack b.memory

abbrev pub held : PageReplay → List ℕ → List ℕ → List ℕ → List Time → List Dsm → Run
held c hkroot mack memory subframes dsms = record { state = state c hkroot mack memory; subframes = subframes; dsms = dsms }

called_run : (c : PageReplay) (h m d bytes : List ℕ) (budget : ℕ) (r : Replayed) (h' m' d' : List ℕ) → ReplayPages c h m d bytes budget r h' m' d'
    → held r.replay h' m' d' (meaning_subframes r.subframe) (meaning_dsms r.dsm)
    ≡ replayed (state c h m d) (pages_of (reported (meaning_replay r.answer)) bytes)
called_run c h m d bytes budget r h' m' d' e =
    let s : State = state c h m d in
    let call : Call = record { bytes = bytes; budget = budget } in
    let number : reported (meaning_replay r.answer) ≡ reported (answered_to s call).answer = ap (λ (o : Outcome). reported o.answer) e in
    ap (λ (o : Outcome). record { state = o.state; subframes = o.subframes; dsms = o.dsms }) e ∙ call_consumes s call
    ∙ ap (λ (k : ℕ). replayed s (pages_of k bytes)) (sym number)

pub reached : {b : Beginning} {c : PageReplay} {h m d : List ℕ} {pages : List (List ℕ)} {subframes : List Time} {dsms : List Dsm}
    → History b c h m d pages subframes dsms → held c h m d subframes dsms ≡ replayed (first b) pages
unfolding replayed
reached (begun satellite week time a e lh lm ld) = refl
reached {b} (called {c = c} {hkroot = h} {mack = m} {memory = d} {pages = pages} {subframes = subframes} {dsms = dsms} k bytes budget r h' m' d' e) =
    let qs : List (List ℕ) = pages_of (reported (meaning_replay r.answer)) bytes in
    ap (followed_by (held c h m d subframes dsms)) (called_run c h m d bytes budget r h' m' d' e)
    ∙ ap (λ (x : Run). followed_by x (replayed x.state qs)) (reached k)
    ∙ sym (split_anywhere (first b) pages qs)
reached {b} (misfit {c = c} {x = x} {y = y} {z = z} {pages = pages} {subframes = subframes} {dsms = dsms} hkroot mack memory k w bytes budget r x' y' z' e) =
    let u = (misfit_call c x y z bytes budget r x' y' z' w e).1 in
    ap (λ (q : PageReplay). held q (hkroot x' y' z') (mack x' y' z') (memory x' y' z') subframes dsms) u.record_is
    ∙ ap (λ (l : List ℕ). held c (hkroot l y' z') (mack l y' z') (memory l y' z') subframes dsms) u.hkroot_is
    ∙ ap (λ (l : List ℕ). held c (hkroot x l z') (mack x l z') (memory x l z') subframes dsms) u.mack_is
    ∙ ap (λ (l : List ℕ). held c (hkroot x y l) (mack x y l) (memory x y l) subframes dsms) u.memory_is
    ∙ reached k

-- It began with two new collectors.
begun_state : (satellite week time : ℕ) → ((Replay.begun satellite week time [] [] []).state.subframes ≡ new_subframes [] [])
    × ((Replay.begun satellite week time [] [] []).state.dsms ≡ new_dsms []) × ((Replay.begun satellite week time [] [] []).state.totals ≡ no_totals)
unfolding Replay.begun
begun_state satellite week time = go (eqb q 0)
  where
    q : ℕ
    q = refusal (svn_gst_checks satellite week time)

    either : Bool → State
    either b =
        (cond {A = Begun} b (record { state = new satellite week time [] [] []; answer = gives [] })
        (record { state = new 0 0 0 [] [] []; answer = refused q })).state

    go : (b : Bool) → ((either b).subframes ≡ new_subframes [] []) × ((either b).dsms ≡ new_dsms []) × ((either b).totals ≡ no_totals)
    go true = (refl, refl, refl)
    go false = (refl, refl, refl)

record New (b : Beginning) : Type 0 where
  h540 : length b.hkroot ≡ 540
  m2160 : length b.mack ≡ 2160
  d208 : length b.memory ≡ 208
  new_subframes_lem : (first b).subframes ≡ first_subframes b
  new_dsms_lem : (first b).dsms ≡ first_dsms b
  no_totals_lem : (first b).totals ≡ no_totals

sound_new : (b : Beginning) → New b → Collecting (first_subframes b)
sound_new b n = record { h540 = n.h540; m2160 = n.m2160; week_fits = omega arith; subframe_fits = omega arith; all_small = zeros_small }

new_first : {b : Beginning} {c : PageReplay} {h m d : List ℕ} {pages : List (List ℕ)} {subframes : List Time} {dsms : List Dsm}
    → History b c h m d pages subframes dsms → New b
new_first {b} (begun satellite week time a e lh lm ld) =
    let n = begun_state satellite week time in
    let f : subframe_state b.replay.subframes [] [] ≡ new_subframes [] [] = ap (λ (x : Begun). x.state.subframes) e ∙ n.0 in
    let g : dsm_state b.replay.dsms [] ≡ new_dsms [] = ap (λ (x : Begun). x.state.dsms) e ∙ n.1 in
    record {
      h540 = lh;
      m2160 = lm;
      d208 = ld;
      new_subframes_lem =
          ap (λ (s : Subframes). record { week = s.week; subframe = s.subframe; counts = s.counts; hkroot = b.hkroot; mack = b.mack }) f;
      new_dsms_lem = ap (λ (s : Dsms). record { id = s.id; came = s.came; held = s.held; done = s.done; memory = b.memory }) g;
      no_totals_lem = ap (λ (x : Begun). x.state.totals) e ∙ n.2;
    }
new_first (called k bytes budget r h' m' d' e) = new_first k
new_first (misfit hkroot mack memory k w bytes budget r x' y' z' e) = new_first k

-- A history that began in range is legal, as far as the totals go.
good_new : {b : Beginning} → New b → refused_start b ≡ 0 → Good (first b) 0
good_new {b} n z =
    let at = b.replay.next in
    let is_new : first b ≡ new at.satellite at.week at.time b.hkroot b.mack b.memory =
    ap (λ (s : Subframes). begun_with s (first b).dsms (first b).totals) n.new_subframes_lem
    ∙ ap (λ (d : Dsms). begun_with (first_subframes b) d (first b).totals) n.new_dsms_lem
    ∙ ap (begun_with (first_subframes b) (first_dsms b)) n.no_totals_lem in
    subst⁻¹ (λ (s : State). Good s 0) is_new
    (good_first_page at.satellite at.week at.time b.hkroot b.mack b.memory z n.h540 n.m2160 n.d208)
  where
    begun_with : Subframes → Dsms → Totals → State
    begun_with s d t =
        record {
          satellite = b.replay.next.satellite;
          next = record { week = b.replay.next.week; time = b.replay.next.time };
          subframes = s;
          dsms = d;
          totals = t;
        }

-- Where `new` was refused every call is, and no page is consumed.
few_none : true ≡ are_few no_totals
unfolding are_few
few_none = refl

twelve : {b : Beginning} → New b → (refused_start b ≡ 0 → ⊥) → (budget : ℕ) → 12 ≡ refusal (replay_checks (first b) budget)
twelve {b} n ne budget =
    other_place (first b) budget n.d208 (sound_admitted (first b).subframes (subst⁻¹ Collecting n.new_subframes_lem (sound_new b n))) refl
    (omega (arith, ap (λ (d : Dsms). d.id) n.new_dsms_lem)) (few_none ∙ sym (ap are_few n.no_totals_lem)) refl ne

stuck : {b : Beginning} {c : PageReplay} {h m d : List ℕ} {pages : List (List ℕ)} {subframes : List Time} {dsms : List Dsm}
    → History b c h m d pages subframes dsms → pages ≡ [] → (refused_start b ≡ 0 → ⊥) → (bytes : List ℕ) (budget : ℕ) (r : Replayed) (h' m' d' : List ℕ)
    → ReplayPages c h m d bytes budget r h' m' d' → r.answer ≡ Err RecordRange
unfolding replayed
stuck {b} k none ne bytes budget r h' m' d' e =
    let at : state _ _ _ _ ≡ first b = ap (λ (x : Run). x.state) (reached k) ∙ ap (λ (ps : List (List ℕ)). (replayed (first b) ps).state) none in
    let q = e ∙ ap (λ (s : State). replay s bytes budget) at
    ∙ sym (replay_refused (first b) bytes budget (twelve (new_first k) ne budget) (λ z. absurd (omega (arith, z)))) in
    sym (undo_answer r.answer) ∙ ap (λ (o : Outcome). back_answer o.answer) q

never : {b : Beginning} {c : PageReplay} {h m d : List ℕ} {pages : List (List ℕ)} {subframes : List Time} {dsms : List Dsm}
    → History b c h m d pages subframes dsms → (refused_start b ≡ 0 → ⊥) → pages ≡ []
unfolding pages_of
never (begun satellite week time a e lh lm ld) ne = refl
never (called {pages = pages} k bytes budget r h' m' d' e) ne =
    let none : pages ≡ [] = never k ne in
    ap (λ (a : Result ℕ Refusal). pages ++ pages_of (reported (meaning_replay a)) bytes) (stuck k none ne bytes budget r h' m' d' e) ∙ append-nil pages ∙ none
never (misfit hkroot mack memory k w bytes budget r x' y' z' e) ne = never k ne

numbered : (s : State) (n : ℕ) (bytes : List ℕ) (budget : ℕ) → Good s n → n ≤ most
    → (replay s bytes budget).answer ≡ cond (ltb 15 budget) (refused 7) (gives (min budget (whole_pages bytes) ∷ []))
numbered s n bytes budget g l = go (ltb 15 budget) refl
  where
    go : (t : Bool) → ltb 15 budget ≡ t → (replay s bytes budget).answer ≡ cond t (refused 7) (gives (min budget (whole_pages bytes) ∷ []))
    go true e =
        ap (λ (o : Outcome). o.answer)
        (sym (replay_refused s bytes budget (high_budget_7 s n budget g l (ltb-true 15 budget e)) (λ z. absurd (omega (arith, z)))))
    go false e =
        ap (λ (o : Outcome). o.answer) (sym (replay_done s bytes budget (admitted_call s n budget g l (ltb-false 15 budget e)) refl refl refl))

good_after : {b : Beginning} {c : PageReplay} {h m d : List ℕ} {pages : List (List ℕ)} {subframes : List Time} {dsms : List Dsm}
    → History b c h m d pages subframes dsms → refused_start b ≡ 0 → Good (state c h m d) (0 + length pages)
unfolding replayed
good_after {b} {pages = pages} k z =
    subst⁻¹ (λ (s : State). Good s (0 + length pages)) (ap (λ (x : Run). x.state) (reached k))
    (good_onward pages (start (first b)) 0 (good_new (new_first k) z))

pub calls_answered : CallsAnswered
calls_answered b c h m d pages subframes dsms k bytes budget r h' m' d' e =
    record {
      in_range = λ z l.
          ap (λ (o : Outcome). o.answer) e ∙ numbered (state c h m d) (0 + length pages) bytes budget (good_after k z) (omega (arith, l));
      never_began = λ ne. (never k ne, stuck k (never k ne) ne bytes budget r h' m' d' e);
    }

-- The collectors refuse no page.
pages_fit : {b : Beginning} {c : PageReplay} {h m d : List ℕ} {pages : List (List ℕ)} {subframes : List Time} {dsms : List Dsm}
    → History b c h m d pages subframes dsms → Each Fits (pages_fed b pages)
unfolding fed_from
pages_fit {b} {pages = pages} k = go (ℕ_discrete (refused_start b) 0)
  where
    go : Dec (refused_start b ≡ 0) → Each Fits (pages_fed b pages)
    go (yes z) =
        let f = (good_new (new_first k) z).sound in
        fed_fit pages b.replay.next.satellite (record { week = b.replay.next.week; time = b.replay.next.time }) f.some f.few f.in_weeks f.in_week
    go (no ne) = subst⁻¹ (λ (ps : List (List ℕ)). Each Fits (pages_fed b ps)) (never k ne) tt

-- All together.
pub replay_recovers : ReplayRecovers
replay_recovers b c h m d pages subframes dsms k =
    let n = new_first k in
    let e : held c h m d subframes dsms ≡ replayed (first b) pages = reached k in
    let f : Feeds (first b) (pages_fed b pages) (replayed (first b) pages) = replay_feeds pages (first b) in
    let blocks : blocks_from (first b).subframes (pages_fed b pages) ≡ blocks_fed b pages =
    ap (λ (s : Subframes). blocks_from s (pages_fed b pages)) n.new_subframes_lem in
    let pages-in : subframe_state c.subframes h m ≡ after_pages (first_subframes b) (pages_fed b pages) =
    ap (λ (r : Run). r.state.subframes) e ∙ f.subframes_is ∙ ap (λ (s : Subframes). after_pages s (pages_fed b pages)) n.new_subframes_lem in
    let blocks-in : dsm_state c.dsms d ≡ after_blocks (first_dsms b) (blocks_fed b pages) =
    ap (λ (r : Run). r.state.dsms) e ∙ f.dsms_is ∙ ap (after_blocks (first b).dsms) blocks
    ∙ ap (λ (s : Dsms). after_blocks s (blocks_fed b pages)) n.new_dsms_lem in
    let own-pages : SubframeHistory c.subframes h m (pages_fed b pages) =
    subst⁻¹ (λ (s : Subframes). SubframeHistory (back_collector s) s.hkroot s.mack (pages_fed b pages)) pages-in
    (pages_called (pages_fed b pages)
    (pages_begun (record { week = 0; subframe = 0; counts = replicate 36 0 }) b.hkroot b.mack refl n.h540 n.m2160)) in
    let own-blocks : DsmHistory c.dsms d (blocks_fed b pages) =
    subst⁻¹ (λ (s : Dsms). DsmHistory (back_dsm s) s.memory (blocks_fed b pages)) blocks-in
    (blocks_called (blocks_fed b pages)
    (blocks_begun (record { id = 0; came = false; held = replicate 16 false; done = false }) b.memory refl n.d208)) in
    record {
      one_run = e;
      subframes_are = pages-in;
      dsms_are = blocks-in;
      subframes_answered =
          ap (λ (r : Run). r.subframes) e ∙ f.subframes_done ∙ ap (λ (s : Subframes). subframes_from s (pages_fed b pages)) n.new_subframes_lem;
      dsms_answered =
          ap (λ (r : Run). r.dsms) e ∙ f.dsms_done ∙ ap (dsms_from (first b).dsms) blocks
          ∙ ap (λ (s : Dsms). dsms_from s (blocks_fed b pages)) n.new_dsms_lem;
      silent_counted =
          let none : (first b).totals.silent ≡ 0 = ap (λ (t : Totals). t.silent) n.no_totals_lem in
          let new-one = ap (λ (s : Subframes). length (silent_from s (pages_fed b pages))) n.new_subframes_lem in
          omega (arith, ap (λ (r : Run). r.state.totals.silent) e, f.silent_done, none, new-one);
      page_admitted = λ ps qs p g. fits_admitted p (each_at Fits ps qs p (subst (λ (l : List Page). Each Fits l) g (pages_fit k)));
      block_admitted = λ cs es x g.
          each_at (λ (y : Block). is_admitted_block y ≡ true) cs es x
          (subst (λ (l : List Block). Each (λ (y : Block). is_admitted_block y ≡ true) l) g
          (blocks_fit (pages_fed b pages) (first_subframes b) (sound_new b n) (pages_fit k)));
      page_recovers = λ ps qs p g. subframes_recover b.hkroot b.mack n.h540 n.m2160 ps p;
      block_recovers = λ cs es x g. dsm_recovers b.memory n.d208 cs x;
      subframe_history = own-pages;
      dsm_history = own-blocks;
      shows_pair = pages_recover.shows_pair own-pages;
      shows_none = pages_recover.shows_none own-pages;
      shows_dsm = blocks_recover.shows own-blocks;
    }
