-- Laws of the fold of page steps: what fifteen pages can complete, and what stays in range.
-- Assumes nothing.
use Prim.Native.Nat.{ℕ, zero, suc, ◌+◌, ◌-◌, ◌*◌, ◌^◌, ◌≤◌, ◌<◌}
use native.Mathlib.Nat.{add-zero}
use native.Mathlib.Omega.{arith}
use native.Mathlib.Numerals.{add-one}
use mathlib.Core.Path.{◌≡◌, refl, sym, ap, ◌∙◌}
use mathlib.Core.List.{List, [], ◌∷◌, ◌++◌, append-nil}
use mathlib.Core.Bool.{Bool, true, false, cond, not}
use lib.ListN.{length, get_or, take, drop, length-append, length-take, length-drop}
use lib.Seq.{drop-drop}
use lib.Dec.{ltb, eqb}
use borrow.Author.Tests.{ltb-true, ltb-false, eqb-true, eqb-false}
use Rattle.layouts.specs.Answer.{Answer, refused, nothing, gives, refusal}
use Rattle.subframes.specs.Subframe.{used_answer, Page, word_of, State as Subframes, Fed as SubframesFed, feed_checks, used, offered, feed as feed_page}
use Rattle.layouts.specs.InavPage.{is_counted}
use Rattle.dsms.specs.Dsm.{State as Dsms}
use Rattle.page_replay.specs.Replay.{Time, later, State, Run, start, is_taken, subframes_in, silent_in, dsms_in, passed_on, skipped, counted}
use Rattle.page_replay.specs.Replay.{fed_page, fed, page_step, and_then, onward, replayed, pages_of, most}
use Rattle.page_replay.specs.ReplayPromises.{state}
use Rattle.page_replay.specs.inner.Steps.{ran, AtMostOne, InRange, Room}
use Rattle.page_replay.specs.declared.replay.PageReplay.{PageReplay}
use Rattle.page_replay.specs.declared.page_step.Stepped.{Stepped}
use Rattle.subframes.proofs.Pages.{answer_less}
use Rattle.page_replay.proofs.PageSteps.{one_few}
use Rattle.page_replay.proofs.PageRefusals.{pages_many}

-- A page completes nothing unless its word is the last one.
abbrev is_done : Answer → Bool
is_done (refused n) = false
is_done nothing = false
is_done (gives l) = true

none_in : (a : Answer) → is_done a ≡ false → subframes_in a ≡ []
none_in (refused n) h = refl
none_in nothing h = refl
none_in (gives l) h = let z : ◌≡◌ {A = ℕ} 0 1 = cc in absurd (omega arith)

none_silent : (a : Answer) → is_done a ≡ false → silent_in a ≡ []
none_silent (refused n) h = refl
none_silent nothing h = refl
none_silent (gives l) h = let z : ◌≡◌ {A = ℕ} 0 1 = cc in absurd (omega arith)

none_passed : (a : Answer) (s : Subframes) (n : ℕ) (d : Dsms) → is_done a ≡ false → dsms_in (passed_on (subframes_in a) s n d).answer ≡ []
none_passed (refused m) s n d h = refl
none_passed nothing s n d h = refl
none_passed (gives l) s n d h = let z : ◌≡◌ {A = ℕ} 0 1 = cc in absurd (omega arith)

-- no more than one subframe, complete or silent
pub pair_few : (a : Answer) → length (subframes_in a) + length (silent_in a) ≤ 1
pair_few (refused n) = omega arith
pair_few nothing = omega arith
pair_few (gives []) = omega arith
pair_few (gives (w ∷ [])) = omega arith
pair_few (gives (w ∷ t ∷ [])) = omega arith
pair_few (gives (w ∷ t ∷ n ∷ l)) = omega arith

pub dsm_few : (a : Answer) → length (dsms_in a) ≤ 1
dsm_few (refused n) = omega arith
dsm_few nothing = omega arith
dsm_few (gives []) = omega arith
dsm_few (gives (i ∷ [])) = omega arith
dsm_few (gives (i ∷ t ∷ [])) = omega arith
dsm_few (gives (i ∷ t ∷ n ∷ l)) = omega arith

offered_quiet : (s : Subframes) (bytes : List ℕ) (i w : ℕ) → (w ≡ 14 → ⊥) → (offered s bytes i w).answer ≡ nothing
unfolding offered used
offered_quiet s bytes i w ne = go (eqb w (get_or s.counts i 0))
  where
    go : (b : Bool) → (cond {A = SubframesFed} b (used s bytes i w) (record { state = s; answer = nothing })).answer ≡ nothing
    go true = sym (answer_less (w + 1) s.week s.subframe _ (λ e. ne (omega arith)))
    go false = refl

feed_quiet : (s : Subframes) (p : Page) → (word_of p.time ≡ 14 → ⊥) → is_done (feed_page s p).answer ≡ false
unfolding feed_page
feed_quiet s p ne = go (eqb (refusal (feed_checks s p)) 0) _ (offered_quiet _ _ _ (word_of p.time) ne)
  where
    go :
        (b : Bool) (x : SubframesFed) → x.answer ≡ nothing
        → is_done (cond {A = SubframesFed} b x (record { state = s; answer = refused (refusal (feed_checks s p)) })).answer ≡ false
    go true x e = rw e
    go false x e = refl

-- What a page step completes, and when the next page is.
pub record Step (s : State) (r : Run) : Type 0 where
  pub one_subframe : length r.subframes ≤ 1
  pub one_dsm : length r.dsms ≤ 1
  pub one_pair : length r.subframes + r.state.totals.silent ≤ 1 + s.totals.silent
  pub more_silent : s.totals.silent ≤ r.state.totals.silent
  pub no_silent : (word_of s.next.time ≡ 14 → ⊥) → r.state.totals.silent ≡ s.totals.silent
  pub no_subframe : (word_of s.next.time ≡ 14 → ⊥) → r.subframes ≡ []
  pub no_dsm : (word_of s.next.time ≡ 14 → ⊥) → r.dsms ≡ []
  pub next_is : r.state.next ≡ later s.next

fed_step : (s : State) (page : List ℕ) → Step s (fed s (fed_page s page))
unfolding fed counted
fed_step s page =
    let f = feed_page s.subframes (fed_page s page) in
    record {
      one_subframe = omega (arith, pair_few f.answer);
      one_dsm = dsm_few (passed_on (subframes_in f.answer) f.state s.satellite s.dsms).answer;
      one_pair = omega (arith, pair_few f.answer);
      more_silent = omega arith;
      no_silent = λ ne. let none = ap length (none_silent f.answer (feed_quiet s.subframes (fed_page s page) ne)) in omega (arith, none);
      no_subframe = λ ne. none_in (feed_page s.subframes (fed_page s page)).answer (feed_quiet s.subframes (fed_page s page) ne);
      no_dsm = λ ne. none_passed (feed_page s.subframes (fed_page s page)).answer _ _ _ (feed_quiet s.subframes (fed_page s page) ne);
      next_is = refl;
    }

skipped_step : (s : State) → Step s (skipped s)
unfolding skipped
skipped_step s =
    record {
      one_subframe = omega arith;
      one_dsm = omega arith;
      one_pair = omega arith;
      more_silent = omega arith;
      no_silent = λ ne. refl;
      no_subframe = λ ne. refl;
      no_dsm = λ ne. refl;
      next_is = refl;
    }

pub step_does : (s : State) (page : List ℕ) → Step s (page_step s page)
unfolding page_step
step_does s page = go (is_counted page)
  where
    go : (b : Bool) → Step s (cond b (fed s (fed_page s page)) (skipped s))
    go true = fed_step s page
    go false = skipped_step s

-- The words follow one another, over the end of a week too.
word_later : (t : Time) → (word_of t.time ≡ 14 → ⊥) → word_of (later t).time ≡ word_of t.time + 1
unfolding later
word_later t ne = go (ltb (t.time + 2) 604800) refl
  where
    go : (b : Bool) → ltb (t.time + 2) 604800 ≡ b
        → word_of
        (cond {A = Time} b (record { week = t.week; time = t.time + 2 })
        (record { week = cond (eqb t.week 4095) 0 (t.week + 1); time = t.time + 2 - 604800 })).time
        ≡ word_of t.time + 1
    go true e = omega arith
    go false e = omega (arith, ltb-false (t.time + 2) 604800 e)

word_first : (t : Time) → word_of t.time ≡ 14 → word_of (later t).time ≡ 0
unfolding later
word_first t h = go (ltb (t.time + 2) 604800) refl
  where
    go : (b : Bool) → ltb (t.time + 2) 604800 ≡ b
        → word_of
        (cond {A = Time} b (record { week = t.week; time = t.time + 2 })
        (record { week = cond (eqb t.week 4095) 0 (t.week + 1); time = t.time + 2 - 604800 })).time
        ≡ 0
    go true e = omega arith
    go false e = omega (arith, ltb-false (t.time + 2) 604800 e)

-- One page more.
abbrev word : Run → ℕ
word r = word_of r.state.next.time

-- completed and silent subframes together
abbrev pairs : Run → ℕ
pairs r = length r.subframes + r.state.totals.silent

pub record More (r x : Run) : Type 0 where
  pub subframes_more : length x.subframes ≤ length r.subframes + 1
  pub dsms_more : length x.dsms ≤ length r.dsms + 1
  pub pairs_more : pairs x ≤ pairs r + 1
  pub subframes_same : (word r ≡ 14 → ⊥) → x.subframes ≡ r.subframes
  pub dsms_same : (word r ≡ 14 → ⊥) → x.dsms ≡ r.dsms
  pub pairs_same : (word r ≡ 14 → ⊥) → pairs x ≡ pairs r
  pub word_next : (word r ≡ 14 → ⊥) → word x ≡ word r + 1
  pub word_new : word r ≡ 14 → word x ≡ 0

more : (r : Run) (page : List ℕ) → More r (and_then r page)
unfolding and_then
more r page =
    let s = step_does r.state page in
    record {
      subframes_more = rw length-append (omega (arith, s.one_subframe));
      dsms_more = rw length-append (omega (arith, s.one_dsm));
      pairs_more = rw length-append (omega (arith, s.one_pair));
      subframes_same = λ ne. rw (s.no_subframe ne) (append-nil r.subframes);
      dsms_same = λ ne. rw (s.no_dsm ne) (append-nil r.dsms);
      pairs_same = λ ne. rw length-append (omega (arith, ap length (s.no_subframe ne), s.no_silent ne));
      word_next = λ ne. ap (λ (t : Time). word_of t.time) s.next_is ∙ word_later r.state.next ne;
      word_new = λ h. ap (λ (t : Time). word_of t.time) s.next_is ∙ word_first r.state.next h;
    }

-- what no page before word 14 changes, and what fifteen can
record Quiet (r x : Run) : Type 0 where
  subframes_are : x.subframes ≡ r.subframes
  dsms_are : x.dsms ≡ r.dsms
  pairs_are : pairs x ≡ pairs r

record Few (r x : Run) : Type 0 where
  subframes_few : length x.subframes ≤ length r.subframes + 1
  dsms_few : length x.dsms ≤ length r.dsms + 1
  pairs_few : pairs x ≤ pairs r + 1

quiet : (ps : List (List ℕ)) (r : Run) → word r + length ps ≤ 14 → Quiet r (onward r ps)
quiet [] r h = record { subframes_are = refl; dsms_are = refl; pairs_are = refl }
quiet (p ∷ ps) r h =
    let m = more r p in
    let ne : word r ≡ 14 → ⊥ = λ e. omega arith in
    let ih = quiet ps (and_then r p) (omega (arith, m.word_next ne)) in
    record {
      subframes_are = ih.subframes_are ∙ m.subframes_same ne;
      dsms_are = ih.dsms_are ∙ m.dsms_same ne;
      pairs_are = ih.pairs_are ∙ m.pairs_same ne;
    }

at_most : (ps : List (List ℕ)) (r : Run) → word r + length ps ≤ 29 → Few r (onward r ps)
at_most [] r h = record { subframes_few = omega arith; dsms_few = omega arith; pairs_few = omega arith }
at_most (p ∷ ps) r h = go (eqb (word r) 14) refl (more r p) (at_most ps (and_then r p)) (quiet ps (and_then r p))
  where
    go : (b : Bool) → eqb (word r) 14 ≡ b → More r (and_then r p)
        → (word (and_then r p) + length ps ≤ 29 → Few (and_then r p) (onward (and_then r p) ps))
        → (word (and_then r p) + length ps ≤ 14 → Quiet (and_then r p) (onward (and_then r p) ps)) → Few r (onward (and_then r p) ps)
    go true e m ih k =
        let last : word r ≡ 14 = eqb-true (word r) 14 e in
        let q = k (omega (arith, m.word_new last)) in
        record {
          subframes_few = rw q.subframes_are m.subframes_more;
          dsms_few = rw q.dsms_are m.dsms_more;
          pairs_few = omega (arith, q.pairs_are, m.pairs_more);
        }
    go false e m ih k =
        let ne : word r ≡ 14 → ⊥ = eqb-false (word r) 14 e in
        let q = ih (omega (arith, m.word_next ne)) in
        record {
          subframes_few = omega (arith, q.subframes_few, ap length (m.subframes_same ne));
          dsms_few = omega (arith, q.dsms_few, ap length (m.dsms_same ne));
          pairs_few = omega (arith, q.pairs_few, m.pairs_same ne);
        }

module _ (s : State) (ps : List (List ℕ)) (h : length ps ≤ 15) where
  pub at_most_one : AtMostOne (replayed s ps)
  unfolding replayed
  at_most_one = let q = at_most ps (start s) (omega arith) in record { subframe_one = q.subframes_few; dsm_one = q.dsms_few }

  pub one_pair_at_most : length (replayed s ps).subframes + (replayed s ps).state.totals.silent ≤ 1 + s.totals.silent
  unfolding replayed
  one_pair_at_most = omega (arith, (at_most ps (start s) (omega arith)).pairs_few)

-- What stays in range: the satellite and the time, and how far the totals go.
pub record Sound (s : State) (n : ℕ) : Type 0 where
  pub some : 1 ≤ s.satellite
  pub few : s.satellite ≤ 36
  pub in_weeks : s.next.week ≤ 4095
  pub in_week : s.next.time ≤ 604799
  pub pages_few : s.totals.pages ≤ n
  pub skipped_few : s.totals.skipped ≤ n
  pub used_few : s.totals.used ≤ n
  pub unused_few : s.totals.unused ≤ n
  pub subframes_few : s.totals.subframes ≤ n
  pub dsms_few : s.totals.dsms ≤ n
  pub silent_few : s.totals.silent ≤ n

pub later_weeks : (t : Time) → t.week ≤ 4095 → (later t).week ≤ 4095
unfolding later
later_weeks t h = go (ltb (t.time + 2) 604800) (eqb t.week 4095) refl
  where
    go :
        (a b : Bool) → eqb t.week 4095 ≡ b
        → (cond {A = Time} a (record { week = t.week; time = t.time + 2 })
        (record { week = cond b 0 (t.week + 1); time = t.time + 2 - 604800 })).week ≤ 4095
    go true b e = h
    go false true e = omega arith
    go false false e = let ne = eqb-false t.week 4095 e in omega arith

pub later_week : (t : Time) → t.time ≤ 604799 → (later t).time ≤ 604799
unfolding later
later_week t h = go (ltb (t.time + 2) 604800) refl
  where
    go :
        (b : Bool) → ltb (t.time + 2) 604800 ≡ b
        → (cond {A = Time} b (record { week = t.week; time = t.time + 2 })
        (record { week = cond (eqb t.week 4095) 0 (t.week + 1); time = t.time + 2 - 604800 })).time ≤ 604799
    go true e = omega (arith, ltb-true (t.time + 2) 604800 e)
    go false e = omega arith

sound_fed : (s : State) (n : ℕ) (page : List ℕ) → Sound s n → Sound (fed s (fed_page s page)).state (n + 1)
unfolding fed counted
sound_fed s n page h =
    let a : Answer = (feed_page s.subframes (fed_page s page)).answer in
    let u : Bool = is_taken (used_answer s.subframes (fed_page s page)) in
    record {
      some = h.some;
      few = h.few;
      in_weeks = later_weeks s.next h.in_weeks;
      in_week = later_week s.next h.in_week;
      pages_few = omega (arith, h.pages_few);
      skipped_few = omega (arith, h.skipped_few);
      used_few = omega (arith, h.used_few, one_few u);
      unused_few = omega (arith, h.unused_few, one_few (not u));
      subframes_few = omega (arith, h.subframes_few, pair_few a);
      dsms_few =
          omega
          (arith, h.dsms_few, dsm_few (passed_on (subframes_in a) (feed_page s.subframes (fed_page s page)).state s.satellite s.dsms).answer);
      silent_few = omega (arith, h.silent_few, pair_few a);
    }

sound_skipped : (s : State) (n : ℕ) → Sound s n → Sound (skipped s).state (n + 1)
unfolding skipped
sound_skipped s n h =
    record {
      some = h.some;
      few = h.few;
      in_weeks = later_weeks s.next h.in_weeks;
      in_week = later_week s.next h.in_week;
      pages_few = omega (arith, h.pages_few);
      skipped_few = omega (arith, h.skipped_few);
      used_few = omega (arith, h.used_few);
      unused_few = omega (arith, h.unused_few);
      subframes_few = omega (arith, h.subframes_few);
      dsms_few = omega (arith, h.dsms_few);
      silent_few = omega (arith, h.silent_few);
    }

pub sound_step : (s : State) (n : ℕ) (page : List ℕ) → Sound s n → Sound (page_step s page).state (n + 1)
unfolding page_step
sound_step s n page h = go (is_counted page)
  where
    go : (b : Bool) → Sound (cond b (fed s (fed_page s page)) (skipped s)).state (n + 1)
    go true = sound_fed s n page h
    go false = sound_skipped s n h

-- The pages one after the other.
onward_more : (ps : List (List ℕ)) (r : Run) (page : List ℕ) → onward r (ps ++ (page ∷ [])) ≡ and_then (onward r ps) page
onward_more [] r page = refl
onward_more (p ∷ ps) r page = onward_more ps (and_then r p) page

pub replayed_more : (s : State) (ps : List (List ℕ)) (page : List ℕ) → replayed s (ps ++ (page ∷ [])) ≡ and_then (replayed s ps) page
unfolding replayed
replayed_more s ps page = onward_more ps (start s) page

pages_suc : (n : ℕ) (bytes : List ℕ) → pages_of (suc n) bytes ≡ pages_of n bytes ++ (take 30 (drop (30 * n) bytes) ∷ [])
unfolding pages_of
pages_suc zero bytes = refl
pages_suc (suc n) bytes =
    let far : 30 + 30 * n ≡ 30 * suc n = omega arith in
    let ih : pages_of (suc n) (drop 30 bytes) ≡ pages_of n (drop 30 bytes) ++ (take 30 (drop (30 * n) (drop 30 bytes)) ∷ []) = pages_suc n (drop 30 bytes) in
    ap (λ (l : List (List ℕ)). take 30 bytes ∷ l)
    (ih ∙ ap (λ (l : List ℕ). pages_of n (drop 30 bytes) ++ (take 30 l ∷ [])) (drop-drop (30 * n) 30 bytes ∙ ap (λ (k : ℕ). drop k bytes) far))

pub pages_more : (n : ℕ) (bytes : List ℕ) → pages_of (n + 1) bytes ≡ pages_of n bytes ++ (take 30 (drop (30 * n) bytes) ∷ [])
pages_more n bytes = ap (λ (k : ℕ). pages_of k bytes) (add-one n) ∙ pages_suc n bytes

sound_onward : (ps : List (List ℕ)) (r : Run) (n : ℕ) → Sound r.state n → Sound (onward r ps).state (n + length ps)
unfolding and_then
sound_onward [] r n h = rw (add-zero n) h
sound_onward (p ∷ ps) r n h =
    let same : n + suc (length ps) ≡ n + 1 + length ps = omega arith in
    rw same (sound_onward ps (and_then r p) (n + 1) (sound_step r.state n p h))

pub sound_replayed : (s : State) (ps : List (List ℕ)) (n : ℕ) → Sound s n → Sound (replayed s ps).state (n + length ps)
unfolding replayed
sound_replayed s ps n h = sound_onward ps (start s) n h

-- A turn of the loop over the pages: what is known before it, and after it.
module _ (s : State) (bytes : List ℕ) (k : ℕ) (x : Stepped) (h m d : List ℕ) (e : ran x h m d ≡ replayed s (pages_of k bytes)) where
  turn_sound : Sound s most → Sound (state x.replay h m d) (most + k)
  turn_sound f =
      let q : Sound (replayed s (pages_of k bytes)).state (most + length (pages_of k bytes)) = sound_replayed s (pages_of k bytes) most f in
      rw (pages_many k bytes, ← e) at q

  pub turn_range : Sound s most → InRange x.replay
  turn_range f = let q = turn_sound f in record { some = q.some; few = q.few; in_weeks = q.in_weeks; in_week = q.in_week }

  pub turn_room : Sound s most → k < 15 → Room x.replay (2 ^ 62 + 14)
  turn_room f l =
      let q = turn_sound f in
      record {
        pages_room = omega (arith, q.pages_few);
        skipped_room = omega (arith, q.skipped_few);
        used_room = omega (arith, q.used_few);
        unused_room = omega (arith, q.unused_few);
        subframes_room = omega (arith, q.subframes_few);
        dsms_room = omega (arith, q.dsms_few);
        silent_room = omega (arith, q.silent_few);
      }

  module _ {page : List ℕ} (g : page ≡ take 30 (drop (30 * k) bytes)) where
    turn_next : and_then (ran x h m d) page ≡ replayed s (pages_of (k + 1) bytes)
    turn_next =
        ap (λ (r : Run). and_then r page) e ∙ ap (and_then (replayed s (pages_of k bytes))) g
        ∙ sym (replayed_more s (pages_of k bytes) (take 30 (drop (30 * k) bytes))) ∙ ap (replayed s) (sym (pages_more k bytes))

    pub turn_one : k < 15 → AtMostOne (and_then (ran x h m d) page)
    turn_one l = rw turn_next (at_most_one s (pages_of (k + 1) bytes) (rw (pages_many (k + 1) bytes) (omega arith)))

    pub turn_again : {y : Run} → y ≡ and_then (ran x h m d) page → y ≡ replayed s (pages_of (k + 1) bytes)
    turn_again f = f ∙ turn_next

-- the loop's slice of the pages
pub slice_30 : (bytes : List ℕ) (k : ℕ) → take (30 * k + 30 - 30 * k) (drop (30 * k) bytes) ≡ take 30 (drop (30 * k) bytes)
slice_30 bytes k = let w : 30 * k + 30 - 30 * k ≡ 30 = omega arith in rw w

pub slice_long : (bytes : List ℕ) (k n : ℕ) → k < n → 30 * n ≤ length bytes → length (take (30 * k + 30 - 30 * k) (drop (30 * k) bytes)) ≡ 30
slice_long bytes k n h l = simp (length-take, length-drop) (omega arith)

pub sound_first : (r : PageReplay) (h m d : List ℕ) → InRange r → Room r (2 ^ 62) → Sound (state r h m d) most
sound_first r h m d i q =
    record {
      some = i.some;
      few = i.few;
      in_weeks = i.in_weeks;
      in_week = i.in_week;
      pages_few = omega (arith, q.pages_room);
      skipped_few = omega (arith, q.skipped_room);
      used_few = omega (arith, q.used_room);
      unused_few = omega (arith, q.unused_room);
      subframes_few = omega (arith, q.subframes_room);
      dsms_few = omega (arith, q.dsms_room);
      silent_few = omega (arith, q.silent_room);
    }
