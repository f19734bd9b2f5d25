-- Whatever history of calls: the record and the memory that the code left are those of its pages, so that what holds of the definition holds of the code.
-- Assumes nothing.
use Prim.Native.Nat.{ℕ, suc, ◌+◌, ◌-◌, ◌*◌, ◌%◌, ◌≤◌, ◌<◌}
use native.Mathlib.Omega.{arith}
use native.Mathlib.Decide.{ℕ_discrete}
use mathlib.Core.Logic.{⊎_elim}
use mathlib.Core.Path.{◌≡◌, refl, sym, ap, ◌∙◌, subst, subst⁻¹}
use mathlib.Core.List.{List, [], ◌∷◌, ◌++◌, append-nil, append_assoc}
use mathlib.Core.Bool.{Bool, true, false, cond, true≢false}
use lib.ListN.{length, get_or, take, replicate}
use lib.Dec.{ltb, eqb}
use borrow.Author.Tests.{eq-eqb}
use Rattle.layouts.specs.Answer.{Answer, refused, nothing, gives, shown, refusal}
use Rattle.layouts.specs.Answer.{Copied, copied}
use Rattle.layouts.specs.Gst.{svn_checks}
use Rattle.subframes.specs.Subframe.{State, new, Page, word_of, subframe_of, Fed, small, record_checks, view_checks, feed_checks, changed, answer_at, used}
use Rattle.subframes.specs.Subframe.{zeros, is_silent, out_of}
use Rattle.subframes.specs.Subframe.{offered, feed, view, came_out}
use Rattle.subframes.specs.Trace.{entries, FedMany, trace_checks, feed_all}
use Rattle.subframes.specs.SubframePromises.{state, meaning_subframe, meaning_shown, meaning_message, outcome, size_of, buffer_of, FeedSubframe}
use Rattle.subframes.specs.TracePromises.{outcome_all, FeedAll}
use Rattle.subframes.specs.SubframeRecovery.{is_admitted, before, run, after, no_page, has_word, hkroot_of, Words, Built, ComesOut, are_zeros, Alike, Viewed, Recovers}
use Rattle.subframes.specs.SubframeHistory.{Call, one, many, Misfit, History, begun, called, misfit, looked, ShowsPair, no_bytes, ShowsNone, FeedRecovers}
use Rattle.subframes.specs.SubframeHistory.{FeedAllRecovers, MisfitRefused, CodeRecovers, AnyPages}
use Rattle.subframes.specs.SubframeHistory.{word_page, words_from, last_page, short_page, WordsExample, RefusedCalls, SmallestCase}
use Rattle.runs.proofs.Rising.{reaches}
use Rattle.subframes.specs.declared.subframe.CollectSubframe.{CollectSubframe}
use Rattle.std.specs.Prelude.{Result, Ok, Err, Option, Some, None}
use Rattle.layouts.specs.Refusals.{refusal_number}
use Rattle.layouts.specs.declared.refusal.Refusal.{Refusal}
use Rattle.layouts.specs.declared.refusal.Refusal.TheVariants.{SliceLength, Satellite}
use Rattle.layouts.proofs.Refused.{number_some}
use Rattle.subframes.specs.declared.subframe.Pair.{Pair}
use Rattle.subframes.specs.declared.subframe.Pair.TheVariants.{Complete, Silent}
use Rattle.subframes.specs.declared.subframe.SubframeFed.{SubframeFed}
use Rattle.layouts.specs.declared.part.Part.{Part}
use Rattle.layouts.proofs.Back.{number_back}
use Rattle.subframes.specs.declared.trace.TraceFed.{TraceFed}
use Rattle.subframes.proofs.Pages.{feed_refused, other_hkroot, other_mack, other_page, not_taken, not_seen, view_refused}
use Rattle.subframes.proofs.Pages.{came_shown, came_nothing, came_not}
use Rattle.subframes.proofs.Entries.{not_whole, whole, all_refused}
use Rattle.subframes.proofs.SubframeSound.{Sound, sound_fed, sound_admitted, sound_passes}
use Rattle.subframes.proofs.SubframeRecovery.{subframes_recover, subframes_show, OfPage, of_run}
use Rattle.subframes.proofs.TraceSteps.{after_more, after_next, Walked, walked_all}
use Rattle.subframes.proofs.SubframeUnique.{back_subframe, undo_subframe, back_state, view_subframe_shown, came_out as came_out_is, hkroot_message}

-- Lent bytes of other lengths: every call is refused with 1.
misfit_record : (s : State) → Misfit s.hkroot s.mack → 1 ≡ refusal (record_checks s)
misfit_record s w = go (ℕ_discrete (length s.hkroot) 540) (ℕ_discrete (length s.mack) 2160)
  where
    go : Dec (length s.hkroot ≡ 540) → Dec (length s.mack ≡ 2160) → 1 ≡ refusal (record_checks s)
    go (no h) d = other_hkroot s h
    go (yes h) (no m) = other_mack s h m
    go (yes h) (yes m) = absurd (w (h, m))

misfit_feed : (s : State) → Misfit s.hkroot s.mack → (p : Page) → record { state = s; answer = refused 1 } ≡ feed s p
misfit_feed s w p = feed_refused s p (number (ℕ_discrete (length p.bytes) 5)) (λ z. absurd (omega (arith, z)))
  where
    number : Dec (length p.bytes ≡ 5) → 1 ≡ refusal (feed_checks s p)
    number (no l) = other_page s p l
    number (yes l) = not_taken s p l (misfit_record s w) (λ z. absurd (omega (arith, z)))

misfit_all : (s : State) → Misfit s.hkroot s.mack → (trace : List ℕ) → record { state = s; answer = refused 1; consumed = 0 } ≡ feed_all s trace
misfit_all s w trace = all_refused s trace (number (ℕ_discrete (length trace % 12) 0)) (λ z. absurd (omega (arith, z)))
  where
    number : Dec (length trace % 12 ≡ 0) → 1 ≡ refusal (trace_checks s trace)
    number (no l) = not_whole s trace l
    number (yes l) = whole s trace l (misfit_record s w)

-- the answer is the code's, if it means that
answer_back : (a b : Result (Option Pair) Refusal) → meaning_subframe a ≡ meaning_subframe b → a ≡ b
answer_back a b e = sym (undo_subframe a) ∙ ap back_subframe e ∙ undo_subframe b

pub misfit_call :
    {c c' : CollectSubframe} {x y x' y' : List ℕ} {qs : List Page} {a : Result (Option Pair) Refusal} → Misfit x y → Call c x y qs a c' x' y'
    → MisfitRefused c x y a c' x' y'
misfit_call {c} {x = x} {y = y} w (one p r x' y' e) =
    let q : outcome r x' y' ≡ record { state = state c x y; answer = refused 1 } = e ∙ sym (misfit_feed (state c x y) w p) in
    record {
      answer = answer_back r.answer (Err SliceLength) (ap (λ (f : Fed). f.answer) q);
      record_is = ap (λ (f : Fed). back_state f.state) q;
      hkroot_is = ap (λ (f : Fed). f.state.hkroot) q;
      mack_is = ap (λ (f : Fed). f.state.mack) q;
    }
misfit_call {c} {x = x} {y = y} w (many trace r x' y' e) =
    let q : outcome_all r x' y' ≡ record { state = state c x y; answer = refused 1; consumed = 0 } = e ∙ sym (misfit_all (state c x y) w trace) in
    record {
      answer = answer_back r.answer (Err SliceLength) (ap (λ (f : FedMany). f.answer) q);
      record_is = ap (λ (f : FedMany). back_state f.state) q;
      hkroot_is = ap (λ (f : FedMany). f.state.hkroot) q;
      mack_is = ap (λ (f : FedMany). f.state.mack) q;
    }

-- A call feeds its pages.
pub call_feeds :
    {c c' : CollectSubframe} {h m h' m' : List ℕ} {qs : List Page} {a : Result (Option Pair) Refusal} → Call c h m qs a c' h' m'
    → state c' h' m' ≡ after (state c h m) qs
call_feeds (one p r h' m' e) = ap (λ (f : Fed). f.state) e
call_feeds {c} {h = h} {m = m} (many trace r h' m' e) =
    let w = walked_all (state c h m) trace in
    let same : w.more ≡ r.consumed = omega (arith, w.consumed_is, ap (λ (f : FedMany). f.consumed) e) in
    ap (λ (f : FedMany). f.state) e ∙ w.state_is ∙ ap (λ (n : ℕ). after (state c h m) (take n (entries trace))) same

-- After a history the state is that of its pages.
record Reached (s : State) (ps : List Page) : Type 0 where
  hkroot : List ℕ
  mack : List ℕ
  h540 : length hkroot ≡ 540
  m2160 : length mack ≡ 2160
  is : s ≡ after (new hkroot mack) ps

reached : {c : CollectSubframe} {h m : List ℕ} {ps : List Page} → History c h m ps → Reached (state c h m) ps
reached (begun c h m e lh lm) =
    record {
      hkroot = h;
      mack = m;
      h540 = lh;
      m2160 = lm;
      is = ap (λ (s : State). record { week = s.week; subframe = s.subframe; counts = s.counts; hkroot = h; mack = m }) e;
    }
reached (called {ps = ps} {qs = qs} k call) =
    let w = reached k in
    record {
      hkroot = w.hkroot;
      mack = w.mack;
      h540 = w.h540;
      m2160 = w.m2160;
      is = call_feeds call ∙ ap (λ (s : State). after s qs) w.is ∙ sym (after_more (new w.hkroot w.mack) ps qs);
    }
reached (looked k l) = reached k
reached (misfit {c = c} {x = x} {y = y} {x' = x'} {y' = y'} {ps = ps} hkroot mack k w call) =
    let q = misfit_call w call in
    subst⁻¹ (λ (d : CollectSubframe). Reached (state d (hkroot x' y') (mack x' y')) ps) q.record_is
    (subst⁻¹ (λ (z : List ℕ). Reached (state c (hkroot z y') (mack z y')) ps) q.hkroot_is
    (subst⁻¹ (λ (z : List ℕ). Reached (state c (hkroot x z) (mack x z)) ps) q.mack_is (reached k)))

-- Of the state that a history leaves only what is asked can be refused.
sound_after : (s : State) (ps : List Page) → Sound s → Sound (after s ps)
sound_after s [] d = d
sound_after s (p ∷ ps) d = sound_after (feed s p).state ps (sound_fed s p d)

sound_new : (h m : List ℕ) → length h ≡ 540 → length m ≡ 2160 → Sound (new h m)
unfolding small
sound_new h m lh lm = record { h540 = lh; m2160 = lm; week_fits = omega arith; subframe_fits = omega arith; all_small = refl }

module _ {s : State} {ps : List Page} (w : Reached s ps) where
  reached_sound : Sound s
  reached_sound = subst⁻¹ Sound w.is (sound_after (new w.hkroot w.mack) ps (sound_new w.hkroot w.mack w.h540 w.m2160))

  reached_more : (qs : List Page) → Reached (after s qs) (ps ++ qs)
  reached_more qs =
      record {
        hkroot = w.hkroot;
        mack = w.mack;
        h540 = w.h540;
        m2160 = w.m2160;
        is = ap (λ (t : State). after t qs) w.is ∙ sym (after_more (new w.hkroot w.mack) ps qs);
      }

  -- so that a call recovers, whatever gave what the definition gives
  reached_recovers : (p : Page) (f : Fed) → f ≡ feed s p → Recovers s (run ps) p f
  reached_recovers p f e =
      subst⁻¹ (λ (g : Fed). Recovers s (run ps) p g) e
      (subst⁻¹ (λ (t : State). Recovers t (run ps) p (feed t p)) w.is (subframes_recover w.hkroot w.mack w.h540 w.m2160 ps p))

-- What the calls that only read hand out.
module _ (c : CollectSubframe) (h m : List ℕ) (n : ℕ) where
  -- the pair in memory is zeros where the pages that it is built from are
  built_zeros : (r : List Page) (b : Built (state c h m) n r) → is_silent h m (n - 1) ≡ are_zeros r b.choice.at
  unfolding is_silent
  built_zeros r b = rw (b.hkroot_is, b.mack_is)

  shows_words : (r : List Page) → Viewed (state c h m) r n → Words n r → ShowsPair c h m r n
  unfolding shown copied
  shows_words r v w =
      let b = v.pair w in
      record {
        choice = b.0.choice;
        earliest = b.0.earliest;
        question = λ k a e.
            let p : Part = record { first = size_of k * (n - 1); many = size_of k } in
            view_subframe_shown c h m k n a (Ok (Some p)) e (sym (b.1 (size_of k)));
        hkroot_part = λ l e. e ∙ ap (shown h) (b.1 15) ∙ b.0.hkroot_is;
        mack_part = λ l e. e ∙ ap (shown m) (b.1 60) ∙ b.0.mack_is;
        whole = λ a e.
            let l = hkroot_of (λ k. get_or r (b.0.choice.at k) no_page) 15 in
            let x : Copied = record { answer = gives (15 * (n - 1) ∷ 15 ∷ []); bytes = l } in
            let q : copied 15 h (view (state c h m) 15 n) ≡ x =
            ap (copied 15 h) (b.1 15) ∙ ap (λ (z : List ℕ). record { answer = gives (15 * (n - 1) ∷ 15 ∷ []); bytes = z }) b.0.hkroot_is in
            hkroot_message c h m n a (Ok (Some (record { part = record { first = 15 * (n - 1); many = 15 }; bytes = l }))) e (sym q);
        out = λ a e. e ∙ came_shown (state c h m) 15 n (b.1 15) ∙ ap (λ (x : Bool). out_of x c.week c.subframe) (built_zeros r b.0);
      }

  -- no bytes beside such an answer, and it is also what has come out
  record Bare (why : Option Refusal) : Type 0 where
    part_is : (l : List ℕ) → shown l (meaning_shown (no_bytes why)) ≡ []
    whole_is : copied 15 h (meaning_shown (no_bytes why)) ≡ meaning_message (no_bytes why)
    out_is : view (state c h m) 15 n ≡ meaning_shown (no_bytes why) → came_out (state c h m) n ≡ meaning_subframe (no_bytes why)

  bare : (why : Option Refusal) → Bare why
  unfolding shown copied
  bare None = record { part_is = λ l. refl; whole_is = refl; out_is = came_nothing (state c h m) 15 n }
  bare (Some e) = record { part_is = λ l. refl; whole_is = refl; out_is = came_not (state c h m) 15 n }

  shows_bare : (why : Option Refusal) → ((size : ℕ) → view (state c h m) size n ≡ meaning_shown (no_bytes why)) → ShowsNone c h m n why
  shows_bare why v =
      let b = bare why in
      record {
        question = λ k a e. view_subframe_shown c h m k n a (no_bytes why) e (sym (v (size_of k)));
        part = λ k l e. e ∙ ap (shown (buffer_of k h m)) (v (size_of k)) ∙ b.part_is (buffer_of k h m);
        whole = λ a e. hkroot_message c h m n a (no_bytes why) e (sym (ap (copied 15 h) (v 15) ∙ b.whole_is));
        out = λ a e. came_out_is c h m n a (no_bytes why) e (sym (b.out_is (v 15)));
      }

  shows_number : (e : Refusal) → refusal_number e ≡ refusal (view_checks (state c h m) n) → ShowsNone c h m n (Some e)
  shows_number e g = shows_bare (Some e) (λ size. sym (view_refused (state c h m) size n g (number_some e)))

-- only 2 is given of a satellite
svn_number : (n : ℕ) → (refusal (svn_checks n) ≡ 0 → ⊥) → 2 ≡ refusal (svn_checks n)
unfolding refusal
svn_number n ne = go (ltb n 1) (ltb 36 n) ne
  where
    go : (a b : Bool) → (◌≡◌ {A = ℕ} (cond a 2 (cond b 2 0)) 0 → ⊥) → ◌≡◌ {A = ℕ} 2 (cond a 2 (cond b 2 0))
    go true b ne = refl
    go false true ne = refl
    go false false ne = absurd (ne refl)

shows_misfit : (c : CollectSubframe) (x y : List ℕ) (n : ℕ) → Misfit x y → ShowsNone c x y n (Some SliceLength)
shows_misfit c x y n w =
    shows_number c x y n SliceLength (not_seen (state c x y) n (misfit_record (state c x y) w) (λ z. absurd (omega (arith, z))))

module _ {c : CollectSubframe} {h m : List ℕ} {ps : List Page} (k : History c h m ps) (n : ℕ) where
  viewed : 1 ≤ n → n ≤ 36 → Viewed (state c h m) (run ps) n
  viewed some few =
      let w = reached k in
      subst⁻¹ (λ (s : State). Viewed s (run ps) n) w.is (subframes_show w.hkroot w.mack w.h540 w.m2160 ps n some few)

  shows_pair : 1 ≤ n → n ≤ 36 → Words n (run ps) → ShowsPair c h m (run ps) n
  shows_pair some few = shows_words c h m n (run ps) (viewed some few)

  shows_none : 1 ≤ n → n ≤ 36 → (Words n (run ps) → ⊥) → ShowsNone c h m n None
  shows_none some few w = shows_bare c h m n None (λ size. (viewed some few).none w size)

  shows_refused : (refusal (svn_checks n) ≡ 0 → ⊥) → ShowsNone c h m n (Some Satellite)
  shows_refused ne =
      shows_number c h m n Satellite (svn_number n ne ∙ sym (sound_passes (state c h m) (reached_sound (reached k)) (svn_checks n)))

-- the record is of its run
pub record_of_run : {c : CollectSubframe} {h m : List ℕ} {ps : List Page} → History c h m ps
    → (j : ℕ) → j < length (run ps) → OfPage (state c h m) (get_or (run ps) j no_page)
record_of_run {ps = ps} k j l =
    let w = reached k in
    subst⁻¹ (λ (s : State). OfPage s (get_or (run ps) j no_page)) w.is (of_run w.hkroot w.mack w.h540 w.m2160 ps j l)

feed_recovers : {c : CollectSubframe} {h m : List ℕ} {ps : List Page} → History c h m ps
    → (p : Page) (r : SubframeFed) (h' m' : List ℕ) → FeedSubframe c h m p r h' m' → FeedRecovers c h m ps p r h' m'
feed_recovers {c} {h = h} {m = m} {ps = ps} k p r h' m' e =
    let w = reached_recovers (reached k) p (outcome r h' m') e in
    record {
      recovers = w;
      like_new = λ {d} {x} {y} j q x' y' f a.
          let o = reached j in
          let g : outcome q x' y' ≡ feed (after (new o.hkroot o.mack) (before (run ps) p)) p = f ∙ ap (λ (t : State). feed t p) o.is in
          let alike = w.like_new o.hkroot o.mack o.h540 o.m2160 a in
          let z : Alike (outcome r h' m') (outcome q x' y') = subst⁻¹ (λ (i : Fed). Alike (outcome r h' m') i) g alike in
          (answer_back r.answer q.answer z.answer, z);
    }

not_complete :
    (a : Result (Option Pair) Refusal) → ((week time : ℕ) → a ≡ Ok (Some (Complete week time)) → ⊥) → ((week time : ℕ) → a ≡ Ok (Some (Silent week time)) → ⊥) → (l : List ℕ)
    → meaning_subframe a ≡ gives l → ⊥
not_complete (Err n) ne ns l e = let z : ◌≡◌ {A = ℕ} 0 1 = cc in absurd (omega arith)
not_complete (Ok None) ne ns l e = let z : ◌≡◌ {A = ℕ} 0 1 = cc in absurd (omega arith)
not_complete (Ok (Some (Complete w t))) ne ns l e = ne w t refl
not_complete (Ok (Some (Silent w t))) ne ns l e = ns w t refl

not_admitted : (s : State) (r : List Page) (p : Page) (f : Fed) → Recovers s r p f → (q : ℕ) → f.answer ≡ refused q → is_admitted p ≡ false
not_admitted s r p f w q e = go (is_admitted p) refl
  where
    go : (b : Bool) → is_admitted p ≡ b → b ≡ false
    go false h = refl
    go true h =
        let y : nothing ≡ refused q = sym (w.else_nothing h not_out) ∙ e in
        let z : ◌≡◌ {A = ℕ} 0 1 = cc in
        absurd (omega arith)
      where
        not_out : ComesOut f.answer p → ⊥
        not_out o = ⊎_elim (λ y. no_list (sym e ∙ y)) (λ y. no_list (sym e ∙ y)) o
          where
            no_list : {l : List ℕ} → refused q ≡ gives l → ⊥
            no_list x = let z : ◌≡◌ {A = ℕ} 0 1 = cc in absurd (omega arith)

whole_passes : (s : State) (trace : List ℕ) → Sound s → length trace % 12 ≡ 0 → refusal (trace_checks s trace) ≡ 0
whole_passes s trace d l = sym (whole s trace l (sound_admitted s d))

pub whole_passed :
    {c : CollectSubframe} {h m : List ℕ} {ps : List Page} → History c h m ps → (trace : List ℕ) → length trace % 12 ≡ 0
    → refusal (trace_checks (state c h m) trace) ≡ 0
whole_passed {c} {h} {m} k trace l = whole_passes (state c h m) trace (reached_sound (reached k)) l

module _ {c : CollectSubframe} {h m : List ℕ} {ps : List Page} (j : History c h m ps) (trace : List ℕ) (r : TraceFed) (h' m' : List ℕ)
    (e : FeedAll c h m trace r h' m') where
  abbrev s : State
  s = state c h m

  abbrev es : List Page
  es = entries trace

  w : Walked (refusal (trace_checks s trace) ≡ 0) 0 s es (feed_all s trace)
  w = walked_all s trace

  same : r.consumed ≡ w.more
  same = omega (arith, w.consumed_is, ap (λ (f : FedMany). f.consumed) e)

  -- what entry k gives after those before it
  abbrev given : ℕ → Fed
  given k = feed (after s (take k es)) (get_or es k no_page)

  at : (k : ℕ) → Reached (after s (take k es)) (ps ++ take k es)
  at k = reached_more (reached j) (take k es)

  not_full : ((week time : ℕ) → r.answer ≡ Ok (Some (Complete week time)) → ⊥) → ((week time : ℕ) → r.answer ≡ Ok (Some (Silent week time)) → ⊥) → (l : List ℕ)
      → (feed_all s trace).answer ≡ gives l → ⊥
  not_full ne ns l g = not_complete r.answer ne ns l (ap (λ (f : FedMany). f.answer) e ∙ g)

  pub feed_all_recovers : FeedAllRecovers c h m ps trace r h' m'
  feed_all_recovers =
      record {
        some = omega (arith, w.few, same);
        state_is = call_feeds (many trace r h' m' e);
        before_last = λ k l.
            let next = after_next s es k (omega (arith, l, w.few, same)) in
            let quiet = sym (w.quiet k (omega (arith, l, same))) in
            reached_recovers (at k) (get_or es k no_page) (record { state = after s (take (suc k) es); answer = nothing })
            (ap (λ (t : State). record { state = t; answer = nothing }) next ∙ ap (λ (a : Answer). record { state = (given k).state; answer = a }) quiet);
        last = λ k l.
            reached_recovers (at k) (get_or es k no_page) (record { state = state r.collector h' m'; answer = meaning_subframe r.answer })
            (ap (λ (f : FedMany). record { state = f.state; answer = f.answer }) e ∙ sym (w.last k (l ∙ same)));
        none = λ z.
            let q : state r.collector h' m' ≡ state c h m = call_feeds (many trace r h' m' e) ∙ ap (λ (n : ℕ). after s (take n es)) z in
            (ap back_state q, ap (λ (t : State). t.hkroot) q, ap (λ (t : State). t.mack) q);
        stops = λ l few ne ns.
            let n = w.more in
            let p = get_or es n no_page in
            let x = w.stops (whole_passed j trace l) (omega (arith, few, same)) (not_full ne ns) in
            let recovers = reached_recovers (at n) p (given n) refl in
            ap (λ (n : ℕ). is_admitted (get_or es n no_page)) same ∙ not_admitted (after s (take n es)) (run (ps ++ take n es)) p (given n) recovers x.0 x.1;
        not_whole = λ l.
            let no = all_refused s trace (not_whole s trace l) (λ z. absurd (omega (arith, z))) in
            let q : outcome_all r h' m' ≡ record { state = s; answer = refused 1; consumed = 0 } = e ∙ sym no in
            (answer_back r.answer (Err SliceLength) (ap (λ (f : FedMany). f.answer) q), ap (λ (f : FedMany). f.consumed) q);
      }

pub code_recovers : CodeRecovers
code_recovers =
    record {
      shows_pair = shows_pair;
      shows_none = shows_none;
      shows_refused = shows_refused;
      shows_misfit = shows_misfit;
      record_of_run = record_of_run;
      feed_recovers = feed_recovers;
      feed_all_recovers = feed_all_recovers;
      misfit_refused = misfit_call;
    }

-- Every answer of the definition is one of the code's.
abbrev pub Coded : Answer → Type 0
Coded a = meaning_subframe (back_subframe a) ≡ a

either_coded : (b : Bool) (f g : Fed) → Coded f.answer → Coded g.answer → Coded (cond b f g).answer
either_coded true f g x y = x
either_coded false f g x y = y

offered_coded : (t : State) (bytes : List ℕ) (i word : ℕ) → Coded (offered t bytes i word).answer
unfolding offered used answer_at
offered_coded t bytes i word =
    let then = (used t bytes i word).state in
    either_coded (eqb word (get_or t.counts i 0)) (used t bytes i word) (record { state = t; answer = nothing })
    (go (eqb (word + 1) 15) (is_silent then.hkroot then.mack i)) refl
  where
    go : (a b : Bool) → Coded (cond a (out_of b t.week t.subframe) nothing)
    go true true = refl
    go true false = refl
    go false b = refl

pub fed_coded : (t : State) (p : Page) → Coded (feed t p).answer
unfolding feed
fed_coded t p =
    let u = changed t p.week (subframe_of p.time) in
    go (eqb (refusal (feed_checks t p)) 0) refl (offered u p.bytes (p.satellite - 1) (word_of p.time))
    (offered_coded u p.bytes (p.satellite - 1) (word_of p.time))
  where
    go : (b : Bool) → eqb (refusal (feed_checks t p)) 0 ≡ b → (f : Fed) → Coded f.answer
        → Coded (cond b f (record { state = t; answer = refused (refusal (feed_checks t p)) })).answer
    go true e f x = x
    go false e f x = ap refused (number_back (feed_checks t p) tt (λ z. true≢false (sym (eq-eqb (refusal (feed_checks t p)) 0 z) ∙ e)))

-- Of any page there is a call.
pub any_call : (c : CollectSubframe) (h m : List ℕ) (p : Page) → let f = feed (state c h m) p in
    Call c h m (p ∷ []) (back_subframe f.answer) (back_state f.state) f.state.hkroot f.state.mack
any_call c h m p =
    let f = feed (state c h m) p in
    one p (record { collector = back_state f.state; answer = back_subframe f.answer }) f.state.hkroot f.state.mack
    (ap (λ (a : Answer). record { state = f.state; answer = a }) (fed_coded (state c h m) p))

any_more :
    {c : CollectSubframe} {h m : List ℕ} {qs : List Page} → History c h m qs → (ps : List Page)
    → (d : CollectSubframe) × (x : List ℕ) × (y : List ℕ) × History d x y (qs ++ ps)
any_more {c} {h} {m} {qs} k [] = (c, h, m, subst⁻¹ (λ (l : List Page). History c h m l) (append-nil qs) k)
any_more {c} {h} {m} {qs} k (p ∷ ps) =
    let f = feed (state c h m) p in
    let w = any_more {c = back_state f.state} {h = f.state.hkroot} {m = f.state.mack} {qs = qs ++ (p ∷ [])} (called k (any_call c h m p)) ps in
    (w.0, w.1, w.2, subst (λ (l : List Page). History w.0 w.1 w.2 l) (append_assoc qs (p ∷ []) ps) w.3)

pub any_pages : AnyPages
any_pages h m lh lm ps = any_more (begun (record { week = 0; subframe = 0; counts = replicate 36 0 }) h m refl lh lm) ps

-- Words counted.
pub words_example : WordsExample
unfolding refusal
words_example =
    record {
      fifteen = (reaches (has_word 7) no_page (run (words_from 0 15)) 0 15).0 (omega arith);
      fourteen = λ w. absurd (omega (arith, (reaches (has_word 7) no_page (run (words_from 0 14)) 0 15).1 w));
    }

-- Refused calls, computed.
pub refused_calls : RefusedCalls
unfolding feed feed_all refusal small
refused_calls = record { four_bytes = refl; satellite_37 = refl; thirteen_bytes = refl; lent_539 = refl }

-- Words 0 to 6, a call that lends 539 bytes, words 7 to 14.
fourteen_then : (f : Fed) → Alike f (feed (after (new (replicate 540 0) (replicate 2160 0)) (before (run (words_from 0 14)) (word_page 14))) (word_page 14))
    → f.answer ≡ gives (1200 ∷ 60 ∷ 1 ∷ [])
unfolding feed offered used changed answer_at is_silent zeros refusal small
fourteen_then f a = a.answer

last_then : (f : Fed) → Alike f (feed (after (new (replicate 540 0) (replicate 2160 0)) (before (run (words_from 0 14)) last_page)) last_page)
    → f.answer ≡ gives (1200 ∷ 60 ∷ [])
unfolding feed offered used changed answer_at is_silent zeros refusal small
last_then f a = a.answer

short_then : (f : Fed)
    → Alike f
    (feed (after (new (replicate 540 0) (replicate 2160 0)) (before (run (words_from 0 7 ++ (short_page ∷ words_from 8 6))) (word_page 14))) (word_page 14))
    → f.answer ≡ nothing
unfolding feed offered used changed answer_at refusal small
short_then f a = a.answer

fifteenth : is_admitted (word_page 14) ≡ true
unfolding refusal
fifteenth = refl

fifteenth_1 : is_admitted last_page ≡ true
unfolding refusal
fifteenth_1 = refl

pub smallest_case : SmallestCase
smallest_case =
    record {
      refused_between = λ {c} {hkroot = h} {mack = m} k x l p r x' m' e.
          let w : Misfit x m = (λ z. absurd (omega (arith, z.0, l))) in
          ((misfit_call w (one p r x' m' e)).answer, misfit (λ a b. h) (λ a b. b) k w (one p r x' m' e));
      comes_out = λ k r h' m' e.
          let f = feed_recovers k (word_page 14) r h' m' e in
          answer_back r.answer (Ok (Some (Silent 1200 60)))
          (fourteen_then (outcome r h' m') (f.recovers.like_new (replicate 540 0) (replicate 2160 0) refl refl fifteenth));
      completes = λ k r h' m' e.
          let f = feed_recovers k last_page r h' m' e in
          answer_back r.answer (Ok (Some (Complete 1200 60)))
          (last_then (outcome r h' m') (f.recovers.like_new (replicate 540 0) (replicate 2160 0) refl refl fifteenth_1));
      stays_out = λ k r h' m' e.
          let f = feed_recovers k (word_page 14) r h' m' e in
          answer_back r.answer (Ok None)
          (short_then (outcome r h' m') (f.recovers.like_new (replicate 540 0) (replicate 2160 0) refl refl fifteenth));
    }
