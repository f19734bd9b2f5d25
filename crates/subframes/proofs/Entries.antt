-- Laws of a trace of pages.
-- Assumes nothing.
use Prim.Native.Nat.{ℕ, suc, ◌+◌, ◌-◌, ◌*◌, ◌/◌, ◌%◌, ◌≤◌, ◌<◌}
use native.Mathlib.Omega.{arith}
use mathlib.Core.Path.{◌≡◌, refl, sym, ap, ◌∙◌, subst}
use mathlib.Core.List.{List, [], ◌∷◌}
use mathlib.Core.Bool.{Bool, true, false}
use lib.ListN.{length, get_or, take, drop, length-take, length-drop}
use borrow.Author.Tests.{eq-eqb, ne_eqb}
use Rattle.layouts.specs.Answer.{Answer, refused, nothing, gives, refusal}
use Rattle.layouts.specs.Gst.{svn_gst_checks}
use Rattle.layouts.proofs.Answers.{none_fails}
use Rattle.subframes.specs.Subframe.{State, Page, Fed, record_checks, feed_checks, is_silent, out_of, feed}
use Rattle.subframes.specs.Trace.{entry_at, entries_from, entries, FedMany, feed_each, trace_checks, feed_all}
use Rattle.layouts.specs.declared.gst.Stamp.{Stamp}
use Rattle.subframes.specs.SubframePromises.{page_of}
use Rattle.subframes.specs.inner.Page.{state_of, answer_of, PageFed}
use Rattle.subframes.specs.inner.Trace.{is_last, ends_with}
use Rattle.subframes.specs.declared.page.PageTaken.{PageTaken}
use Rattle.subframes.specs.declared.page.PageTaken.TheVariants.{Unused, Used, Last}
use Rattle.subframes.proofs.Pages.{fine, feed_refused}
use Rattle.subframes.proofs.SubframeSound.{Sound, sound, sound_passes, sound_fed}

-- The refusals of a trace.
module _ (s : State) (trace : List ℕ) where
  pub not_whole : (length trace % 12 ≡ 0 → ⊥) → 1 ≡ refusal (trace_checks s trace)
  unfolding refusal
  not_whole ne = rw (ne_eqb (length trace % 12) 0 ne)

  pub whole : {q : ℕ} → length trace % 12 ≡ 0 → q ≡ refusal (record_checks s) → q ≡ refusal (trace_checks s trace)
  unfolding refusal
  whole e h = rw (eq-eqb (length trace % 12) 0 e) h

-- of a record that is not refused only the entry can be
pub entry_refusal :
    (s : State) (p : Page) {q : ℕ} → Sound s → length p.bytes ≡ 5 → q ≡ refusal (svn_gst_checks p.satellite p.week p.time)
    → q ≡ refusal (feed_checks s p)
unfolding refusal
entry_refusal s p d l e = rw (eq-eqb (length p.bytes) 5 l) (e ∙ sym (sound_passes s d (svn_gst_checks p.satellite p.week p.time)))

-- What is answered where a trace ends before an entry.
module _ (n q : ℕ) where
  pub not_first : (n ≡ 0 → ⊥) → nothing ≡ ends_with n q
  not_first ne = rw (ne_eqb n 0 ne)

  pub is_first : n ≡ 0 → refused q ≡ ends_with n q
  is_first e = rw (eq-eqb n 0 e)

-- An entry's numbers.
pub entry_is : (trace : List ℕ) (k : ℕ) {w t : ℕ} → w ≡ get_or trace (12 * k + 1) 0 * 256 + get_or trace (12 * k + 2) 0
    → t ≡ get_or trace (12 * k + 3) 0 * 16777216 + get_or trace (12 * k + 4) 0 * 65536 + get_or trace (12 * k + 5) 0 * 256 + get_or trace (12 * k + 6) 0
    → ◌≡◌ {A = Page} (record { bytes = take 5 (drop (12 * k + 7) trace); satellite = get_or trace (12 * k) 0; week = w; time = t }) (entry_at trace k)
unfolding entry_at
entry_is trace k {t = t} e f =
    let g : t ≡ ((get_or trace (12 * k + 3) 0 * 256 + get_or trace (12 * k + 4) 0) * 256 + get_or trace (12 * k + 5) 0) * 256 + get_or trace (12 * k + 6) 0 =
    omega (arith, f) in
    rw (e, g)

-- Entries one by one.
module _ (n : ℕ) (s : State) (p : Page) (ps : List Page) where
  each_ends :
      {q : ℕ} → q ≡ refusal (feed_checks s p) → (q ≡ 0 → ⊥)
      → ◌≡◌ {A = FedMany} (record { state = s; answer = ends_with n q; consumed = n }) (feed_each n s (p ∷ ps))
  unfolding feed_each
  each_ends e ne = rw (← feed_refused s p e ne)

  each_goes_on : {f : Fed} → f ≡ feed s p → f.answer ≡ nothing → feed_each (n + 1) f.state ps ≡ feed_each n s (p ∷ ps)
  unfolding feed_each
  each_goes_on e a = let b : (feed s p).answer ≡ nothing = sym (ap (λ (x : Fed). x.answer) e) ∙ a in rw (b, ap (λ (x : Fed). x.state) e)

  each_completes :
      {f : Fed} {l : List ℕ} → f ≡ feed s p → f.answer ≡ gives l
      → ◌≡◌ {A = FedMany} (record { state = f.state; answer = gives l; consumed = n + 1 }) (feed_each n s (p ∷ ps))
  unfolding feed_each
  each_completes {f} {l} e a = let b : (feed s p).answer ≡ gives l = sym (ap (λ (x : Fed). x.answer) e) ∙ a in rw (b, ap (λ (x : Fed). x.state) e)

entries_more : (trace : List ℕ) (k n : ℕ) → k < n → entries_from trace k (n - k) ≡ entry_at trace k ∷ entries_from trace (k + 1) (n - (k + 1))
unfolding entries_from
entries_more trace k n h = let e : n - k ≡ suc (n - (k + 1)) = omega arith in rw e

entries_none : (trace : List ℕ) (k n : ℕ) → n ≤ k → entries_from trace k (n - k) ≡ []
unfolding entries_from
entries_none trace k n h = let e : n - k ≡ 0 = omega arith in rw e

-- Before each turn: feeding what is left one by one gives what feeding all does.
pub record Left (s₀ : State) (trace : List ℕ) (k : ℕ) (s : State) : Type 0 where
  pub few : k ≤ length trace / 12
  pub first : Sound s₀
  pub fine : Sound s
  pub rest : feed_each k s (entries_from trace k (length trace / 12 - k)) ≡ feed_each 0 s₀ (entries trace)

pub turn_first : (s : State) (trace : List ℕ) → refusal (record_checks s) ≡ 0 → Left s trace 0 s
turn_first s trace z =
    let e : length trace / 12 - 0 ≡ length trace / 12 = omega arith in record { few = omega arith; first = sound s z; fine = sound s z; rest = rw e }

-- the page of entry k, as the code cuts it out
abbrev page_part : List ℕ → ℕ → List ℕ
page_part trace k = take (12 * k + 12 - (12 * k + 7)) (drop (12 * k + 7) trace)

page_part_lem : (trace : List ℕ) (k : ℕ) → page_part trace k ≡ take 5 (drop (12 * k + 7) trace)
page_part_lem trace k = let e : 12 * k + 12 - (12 * k + 7) ≡ 5 = omega arith in rw e

page_5 : (trace : List ℕ) (k : ℕ) → k < length trace / 12 → length (page_part trace k) ≡ 5
page_5 trace k h = simp (length-take, length-drop) (omega arith)

pub turn_none : {s₀ s : State} {trace : List ℕ} {k : ℕ} → Left s₀ trace k s → {x : FedMany} → length trace / 12 ≤ k
    → x ≡ record { state = s; answer = nothing; consumed = length trace / 12 } → x ≡ feed_each 0 s₀ (entries trace)
unfolding feed_each
turn_none {s = s} {trace = trace} {k = k} d h ex =
    let all : length trace / 12 ≡ k = omega (arith, d.few, h) in
    ex ∙ ap (λ (n : ℕ). record { state = s; answer = nothing; consumed = n }) all ∙ rw (entries_none trace k (length trace / 12) h) at d.rest

-- A turn: entry k is e, and q is its refusal number.
pub record Turn : Type 0 where
  pub s₀ : State
  pub s : State
  pub trace : List ℕ
  pub k : ℕ
  pub e : Stamp
  pub q : ℕ
  pub left : Left s₀ trace k s
  pub inside : k < length trace / 12
  pub entry_is : page_of e (take 5 (drop (12 * k + 7) trace)) ≡ entry_at trace k
  pub number_is : q ≡ refusal (svn_gst_checks e.satellite e.week e.time)

module _ (t : Turn) where
  abbrev page : Page
  page = page_of t.e (page_part t.trace t.k)

  later : List Page
  later = entries_from t.trace (t.k + 1) (length t.trace / 12 - (t.k + 1))

  the_page : entry_at t.trace t.k ≡ page
  the_page = sym (ap (page_of t.e) (page_part_lem t.trace t.k) ∙ t.entry_is)

  ahead : feed_each t.k t.s (page ∷ later) ≡ feed_each 0 t.s₀ (entries t.trace)
  unfolding later
  ahead = rw (← the_page, ← entries_more t.trace t.k (length t.trace / 12) t.inside) t.left.rest

  number : t.q ≡ refusal (feed_checks t.s page)
  number = entry_refusal t.s page t.left.fine (page_5 t.trace t.k t.inside) t.number_is

  pub turn_ends : {x : FedMany} {a : Answer} → (t.q ≡ 0 → ⊥) → a ≡ ends_with t.k t.q → x ≡ record { state = t.s; answer = a; consumed = t.k }
      → x ≡ feed_each 0 t.s₀ (entries t.trace)
  turn_ends ne ea ex = ex ∙ rw ea (each_ends t.k t.s page later number ne ∙ ahead)

  module _ (z : t.q ≡ 0) where
    pub turn_asks : refusal (feed_checks t.s page) ≡ 0
    turn_asks = sym number ∙ z

    pub turn_time : t.e.time ≤ 604799
    turn_time = (fine t.s page number z).in_week

    pub turn_satellite : (1 ≤ t.e.satellite) × (t.e.satellite ≤ 36)
    turn_satellite = let f = fine t.s page number z in (f.some, f.few)

-- A turn whose page was taken.
pub record Taken : Type 0 where
  pub turn : Turn
  pub passed : turn.q ≡ 0
  pub r : PageTaken
  pub counts : List ℕ
  pub hkroot : List ℕ
  pub mack : List ℕ
  pub fed : PageFed turn.s (page_of turn.e (page_part turn.trace turn.k)) r counts hkroot mack

module _ (w : Taken) where
  abbrev t : Turn
  t = w.turn

  abbrev e : Stamp
  e = w.turn.e

  -- the state then
  abbrev then : State
  then = state_of e.week (e.time / 30) w.counts w.hkroot w.mack

  abbrev answer : PageTaken → Answer
  answer r = answer_of r e.week (e.time / 30) (is_silent w.hkroot w.mack (e.satellite - 1))

  -- whether its satellite's bytes are zeros
  abbrev silent_then : Bool
  silent_then = is_silent w.hkroot w.mack (e.satellite - 1)

  pub turn_last : {x : FedMany} {a : Answer} {b : Bool} → is_last w.r ≡ true → b ≡ silent_then → a ≡ out_of b e.week (e.time / 30)
      → x ≡ record { state = then; answer = a; consumed = t.k + 1 } → x ≡ feed_each 0 t.s₀ (entries t.trace)
  turn_last {a = a} c eb ea ex =
      let ea = ea ∙ ap (λ (y : Bool). out_of y e.week (e.time / 30)) eb in
      let g = either silent_then in
      let same = is_out w.r c in
      let whole = each_completes t.k t.s (page t) (later t) w.fed.fed (same ∙ g.1) ∙ ahead t in
      ex ∙ ap (λ (y : Answer). record { state = then; answer = y; consumed = t.k + 1 }) (ea ∙ g.1) ∙ whole
    where
      either : (b : Bool) → (l : List ℕ) × (out_of b e.week (e.time / 30) ≡ gives l)
      either true = (_, refl)
      either false = (_, refl)

      is_out : (r : PageTaken) → is_last r ≡ true → answer r ≡ out_of silent_then e.week (e.time / 30)
      is_out Unused c = let z : ◌≡◌ {A = ℕ} 0 1 = cc in absurd (omega arith)
      is_out Used c = let z : ◌≡◌ {A = ℕ} 0 1 = cc in absurd (omega arith)
      is_out Last c = refl

  pub turn_sound : Sound then
  turn_sound = subst (λ (x : Fed). Sound x.state) (sym w.fed.fed) (sound_fed t.s (page t) t.left.fine)

  pub turn_goes_on : is_last w.r ≡ false → Left t.s₀ t.trace (t.k + 1) then
  unfolding later
  turn_goes_on c =
      record {
        few = omega (arith, t.inside);
        first = t.left.first;
        fine = turn_sound;
        rest = each_goes_on t.k t.s (page t) (later t) w.fed.fed (is_nothing w.r c) ∙ ahead t;
      }
    where
      is_nothing : (r : PageTaken) → is_last r ≡ false → answer r ≡ nothing
      is_nothing Unused c = refl
      is_nothing Used c = refl
      is_nothing Last c = let z : ◌≡◌ {A = ℕ} 0 1 = cc in absurd (omega arith)

-- The whole call.
module _ (s : State) (trace : List ℕ) {q : ℕ} (e : q ≡ refusal (trace_checks s trace)) where
  pub all_refused : (q ≡ 0 → ⊥) → ◌≡◌ {A = FedMany} (record { state = s; answer = refused q; consumed = 0 }) (feed_all s trace)
  unfolding feed_all
  all_refused ne = rw (← e, ne_eqb q 0 ne)

  module _ (z : q ≡ 0) where
    pub all_asks : refusal (record_checks s) ≡ 0
    unfolding refusal
    all_asks = let f = none_fails (trace_checks s trace) tt (sym e ∙ z) in rw f.0 at (sym e ∙ z)

    pub all_fed : {r : FedMany} → r ≡ feed_each 0 s (entries trace) → r ≡ feed_all s trace
    unfolding feed_all
    all_fed h = let g : feed_all s trace ≡ feed_each 0 s (entries trace) = rw (← e, z) in h ∙ sym g
