-- A page that comes twice in a run: a satellite's count does not go back.
-- Assumes nothing.
use Prim.Native.Nat.{ℕ, ◌+◌, ◌-◌, ◌≤◌, ◌<◌}
use native.Mathlib.Omega.{arith}
use native.Mathlib.Decide.{ℕ_discrete}
use mathlib.Core.Path.{◌≡◌, refl, sym, ap, ◌∙◌, subst⁻¹}
use mathlib.Core.List.{List, [], ◌∷◌, ◌++◌}
use mathlib.Core.Bool.{Bool, true, false, cond, ◌&&◌}
use lib.ListN.{length, get_or, set, length-set}
use lib.Seq.{get_or-set_same, get_or-set_other}
use lib.Dec.{eqb}
use borrow.Author.Tests.{le-ltb, eq-eqb, ne_eqb, eqb-true}
use Rattle.layouts.specs.Answer.{Answer, nothing, refusal}
use Rattle.layouts.specs.Gst.{svn_gst_checks}
use Rattle.layouts.proofs.Answers.{none_fails}
use Rattle.runs.proofs.Basics.{and_true}
use Rattle.subframes.specs.Subframe.{State, Page, Fed, word_of, subframe_of, small, feed_checks, fresh, changed, is_used, answer_at, used, offered, feed}
use Rattle.subframes.specs.SubframeRecovery.{call_checks, is_admitted, after}
use Rattle.subframes.specs.TraceWalk.{answers}
use Rattle.subframes.specs.DoubledPages.{stays_in, one_subframe, Copy, Doubled, LeftOut, DoubledExample, NotDoubled}
use Rattle.subframes.proofs.Pages.{unchanged}
use Rattle.subframes.proofs.SubframeSound.{Sound, passed_sound, sound_fed, feed_number, admitted_is, turned_away, let_in}
use Rattle.subframes.proofs.TraceSteps.{after_more, answers_more}
use Rattle.subframes.proofs.PageOrder.{changed_to, offered_in, took, passed_over}

-- A record in a week and subframe in which satellite n has k words at least.
pub record Has (week subframe n k : ℕ) (t : State) : Type 0 where
  pub sound : Sound t
  pub week_is : t.week ≡ week
  pub subframe_is : t.subframe ≡ subframe
  pub c36 : length t.counts ≡ 36
  pub many : k ≤ get_or t.counts (n - 1) 0

-- a page offered leaves 36 counts, and no count goes back
module _ (t : State) (c36 : length t.counts ≡ 36) (a : List ℕ) (i v : ℕ) (few : i < 36) where
  counts_36 : length (offered t a i v).state.counts ≡ 36
  unfolding offered used
  counts_36 = go (eqb v (get_or t.counts i 0))
    where
      go : (y : Bool) → length (cond {A = Fed} y (used t a i v) (record { state = t; answer = nothing })).state.counts ≡ 36
      go true = simp length-set c36
      go false = c36

  no_less : (j k : ℕ) → k ≤ get_or t.counts j 0 → k ≤ get_or (offered t a i v).state.counts j 0
  unfolding offered used
  no_less j k h = go (eqb v (get_or t.counts i 0)) refl (ℕ_discrete j i)
    where
      go : (y : Bool) → eqb v (get_or t.counts i 0) ≡ y → Dec (j ≡ i)
          → k ≤ get_or (cond {A = Fed} y (used t a i v) (record { state = t; answer = nothing })).state.counts j 0
      go true e (yes z) =
          let now : get_or (set t.counts i (v + 1)) j 0 ≡ v + 1 =
          ap (λ (x : ℕ). get_or (set t.counts i (v + 1)) x 0) z ∙ get_or-set_same t.counts i (v + 1) 0 (omega arith) in
          let was : get_or t.counts j 0 ≡ get_or t.counts i 0 = ap (λ (x : ℕ). get_or t.counts x 0) z in
          omega (arith, now, was, h, eqb-true v (get_or t.counts i 0) e)
      go true e (no z) = rw (get_or-set_other t.counts i j (v + 1) 0 z) h
      go false e d = h

-- Whatever page comes within the run.
has_still :
    (week subframe n k : ℕ) (t : State) → Has week subframe n k t → (p : Page) → stays_in week subframe p ≡ true → Has week subframe n k (feed t p).state
has_still week subframe n k t h p e = go (is_admitted p) refl e
  where
    go : (b : Bool) → is_admitted p ≡ b → cond b (eqb p.week week && eqb (subframe_of p.time) subframe) true ≡ true
        → Has week subframe n k (feed t p).state
    go false a z = subst⁻¹ (λ (f : Fed). Has week subframe n k f.state) (turned_away t h.sound p a) h
    go true a z =
        let own = and_true (eqb p.week week) (eqb (subframe_of p.time) subframe) z in
        let in_week : t.week ≡ p.week = h.week_is ∙ sym (eqb-true p.week week own.0) in
        let in-subframe : t.subframe ≡ subframe_of p.time = h.subframe_is ∙ sym (eqb-true (subframe_of p.time) subframe own.1) in
        let same : t ≡ changed t p.week (subframe_of p.time) = unchanged t p.week (subframe_of p.time) in_week in-subframe in
        let fed : feed t p ≡ offered t p.bytes (p.satellite - 1) (word_of p.time) =
        let_in t h.sound p a ∙ ap (λ (u : State). offered u p.bytes (p.satellite - 1) (word_of p.time)) (sym same) in
        let few : p.satellite - 1 < 36 = omega (arith, (admitted_is p a).some, (admitted_is p a).few) in
        let kept = offered_in t p.bytes (p.satellite - 1) (word_of p.time) in
        record {
          sound = sound_fed t p h.sound;
          week_is = ap (λ (f : Fed). f.state.week) fed ∙ kept.0 ∙ h.week_is;
          subframe_is = ap (λ (f : Fed). f.state.subframe) fed ∙ kept.1 ∙ h.subframe_is;
          c36 = ap (λ (f : Fed). length f.state.counts) fed ∙ counts_36 t h.c36 p.bytes (p.satellite - 1) (word_of p.time) few;
          many =
              subst⁻¹ (λ (f : Fed). k ≤ get_or f.state.counts (n - 1) 0) fed
              (no_less t h.c36 p.bytes (p.satellite - 1) (word_of p.time) few (n - 1) k h.many);
        }

pub has_after : (week subframe n k : ℕ) (t : State) → Has week subframe n k t → (ps : List Page) → one_subframe week subframe ps ≡ true
    → Has week subframe n k (after t ps)
unfolding one_subframe
has_after week subframe n k t h [] e = h
has_after week subframe n k t h (p ∷ ps) e =
    let both = and_true (stays_in week subframe p) (one_subframe week subframe ps) e in
    has_after week subframe n k (feed t p).state (has_still week subframe n k t h p both.0) ps both.1

-- A page of a word that the satellite has already.
pub has_already : (t : State) (q : Page) → is_admitted q ≡ true → Has q.week (subframe_of q.time) q.satellite (word_of q.time + 1) t
    → feed t q ≡ record { state = t; answer = nothing }
has_already t q a h =
    let same = unchanged t q.week (subframe_of q.time) h.week_is h.subframe_is in
    let_in t h.sound q a
    ∙ ap (λ (u : State). offered u q.bytes (q.satellite - 1) (word_of q.time)) (sym same)
    ∙ passed_over t q.bytes (q.satellite - 1) (word_of q.time)
    (ne_eqb (word_of q.time) (get_or t.counts (q.satellite - 1) 0) (λ e. absurd (omega (arith, e, h.many))))

-- A page that was used.
module _ (s : State) (c36 : length s.counts ≡ 36) (p : Page) (z : refusal (feed_checks s p) ≡ 0) (e : is_used s p ≡ true) where
  pub used_sound : Sound s
  used_sound = passed_sound s (svn_gst_checks p.satellite p.week p.time) (none_fails (feed_checks s p) tt z).1

  used_admitted : is_admitted p ≡ true
  used_admitted = eq-eqb (refusal (call_checks p)) 0 (sym (feed_number s used_sound p) ∙ z)

  changed_36 : length (changed s p.week (subframe_of p.time)).counts ≡ 36
  unfolding changed
  changed_36 = go (eqb s.week p.week && eqb s.subframe (subframe_of p.time))
    where
      go : (b : Bool) → length (cond b s (fresh s p.week (subframe_of p.time))).counts ≡ 36
      go true = c36
      go false = refl

  abbrev t : State
  t = changed s p.week (subframe_of p.time)

  took_it : eqb (word_of p.time) (get_or t.counts (p.satellite - 1) 0) ≡ true
  unfolding is_used
  took_it = e

  used_is : feed s p ≡ used t p.bytes (p.satellite - 1) (word_of p.time)
  used_is = let_in s used_sound p used_admitted ∙ took t p.bytes (p.satellite - 1) (word_of p.time) took_it

  few : p.satellite - 1 < 36
  few = omega (arith, (admitted_is p used_admitted).some, (admitted_is p used_admitted).few)

  used_has : Has p.week (subframe_of p.time) p.satellite (word_of p.time + 1) (feed s p).state
  unfolding used
  used_has =
      record {
        sound = sound_fed s p used_sound;
        week_is = ap (λ (f : Fed). f.state.week) used_is ∙ (changed_to s p.week (subframe_of p.time)).0;
        subframe_is = ap (λ (f : Fed). f.state.subframe) used_is ∙ (changed_to s p.week (subframe_of p.time)).1;
        c36 = ap (λ (f : Fed). length f.state.counts) used_is ∙ length-set t.counts (p.satellite - 1) (word_of p.time + 1) ∙ changed_36;
        many =
            let now : get_or (feed s p).state.counts (p.satellite - 1) 0 ≡ word_of p.time + 1 =
            ap (λ (f : Fed). get_or f.state.counts (p.satellite - 1) 0) used_is
            ∙ get_or-set_same t.counts (p.satellite - 1) (word_of p.time + 1) 0 (omega (arith, few, changed_36)) in
            omega (arith, now);
      }

  copy_admitted : (q : Page) → Copy p q → is_admitted q ≡ true
  unfolding refusal
  copy_admitted q c =
      let d = admitted_is p used_admitted in
      rw (
        eq-eqb (length q.bytes) 5 c.five,
        le-ltb q.satellite 1 (omega (arith, c.satellite_is, d.some)),
        le-ltb 36 q.satellite (omega (arith, c.satellite_is, d.few)),
        le-ltb 4095 q.week (omega (arith, c.week_is, d.in_weeks)),
        le-ltb 604799 q.time (omega (arith, c.subframe_is, d.in_week)),
      )

  pub copied : (q : Page) → Copy p q → (between : List Page) → one_subframe p.week (subframe_of p.time) between ≡ true
      → feed (after (feed s p).state between) q ≡ record { state = after (feed s p).state between; answer = nothing }
  copied q c between o =
      let u = after (feed s p).state between in
      let h = has_after p.week (subframe_of p.time) p.satellite (word_of p.time + 1) (feed s p).state used_has between o in
      has_already u q (copy_admitted q c)
      (record {
        sound = h.sound;
        week_is = h.week_is ∙ sym c.week_is;
        subframe_is = h.subframe_is ∙ sym c.subframe_is;
        c36 = h.c36;
        many =
            let same : get_or u.counts (q.satellite - 1) 0 ≡ get_or u.counts (p.satellite - 1) 0 =
            ap (λ (n : ℕ). get_or u.counts (n - 1) 0) c.satellite_is in
            omega (arith, same, h.many, c.word_is);
      })

pub doubled : Doubled
doubled s c36 p q between z e o c = copied s c36 p z e q c between o

pub left_out : LeftOut
left_out s c36 p q between behind z e o c =
    let t = (feed s p).state in
    let u = after t between in
    let is : feed u q ≡ record { state = u; answer = nothing } = doubled s c36 p q between z e o c in
    let end : (feed u q).state ≡ u = ap (λ (f : Fed). f.state) is in
    let said : (feed u q).answer ≡ nothing = ap (λ (f : Fed). f.answer) is in (
      after_more t between (q ∷ behind) ∙ ap (λ (x : State). after x behind) end ∙ sym (after_more t between behind),
      ap (λ (l : List Answer). (feed s p).answer ∷ l)
          (answers_more t between (q ∷ behind)
          ∙ ap (λ (a : Answer). answers t between ++ (a ∷ answers (feed u q).state behind)) said
          ∙ ap (λ (x : State). answers t between ++ (nothing ∷ answers x behind)) end),
      ap (λ (l : List Answer). (feed s p).answer ∷ l) (answers_more t between behind),
    )

-- The examples, computed.
pub doubled_example : DoubledExample
unfolding one_subframe is_used feed offered used changed answer_at refusal small
doubled_example = record { admitted = refl; used = refl; one_run = refl; copied = refl }

pub not_doubled : NotDoubled
unfolding one_subframe is_used feed offered used changed answer_at refusal small
not_doubled = record { two_runs = refl; used_again = refl; unused = refl; used_then = refl; refused_first = refl; forgotten = refl }
