-- Laws of the subframe collector's steps.
-- Assumes nothing.
use Prim.Native.Nat.{ℕ, zero, suc, ◌+◌, ◌-◌, ◌*◌, ◌/◌, ◌≤◌, ◌<◌}
use native.Mathlib.Omega.{arith}
use mathlib.Core.Path.{◌≡◌, refl, sym, ap, ◌∙◌}
use mathlib.Core.List.{List, [], ◌∷◌, ◌++◌}
use mathlib.Core.Bool.{Bool, true, false, cond, not, ◌&&◌}
use lib.ListN.{length, get_or, set, take, drop, get_or-replicate}
use lib.Seq.{take-suc}
use lib.Bits.{bit_or, or_zero_l, or_add_and, and_le_r}
use lib.Dec.{ltb, eqb, eqb-suc-zero}
use borrow.Author.Tests.{le-ltb, lt-ltb, eq-eqb, ne_eqb, eqb-true, ltb-false, not-false}
use Rattle.layouts.specs.Answer.{Answer, refused, nothing, gives, Check, refusal, shown, copied}
use Rattle.layouts.specs.Gst.{svn_checks, svn_gst_checks}
use Rattle.layouts.proofs.Answers.{none_fails, stopped, went_on, copied_refused, copied_bytes}
use Rattle.subframes.specs.Subframe.{State, Page, Fed, WordStep, word_of, subframe_of, small, range_checks, record_checks, view_checks}
use Rattle.subframes.specs.Subframe.{ask_checks, feed_checks, take_word, fresh, changed, put4, used_answer, view, came_out}
use Rattle.subframes.specs.Subframe.{zeros, is_silent, complete, silent, out_of, answer_at, used, offered, is_used, feed}
use Rattle.std.specs.Prelude.{Result, Ok, Err, Option, Some, None}
use Rattle.layouts.specs.declared.gst.Stamp.{Stamp}
use Rattle.layouts.specs.declared.refusal.Refusal.{Refusal}
use Rattle.subframes.specs.inner.Page.{state_of, answer_of, used_of, Offered, PageFed}
use Rattle.subframes.specs.SubframePromises.{state, page_of, TakeWord, meaning_word, size_of, buffer_of, meaning_shown}
use Rattle.subframes.specs.SubframePromises.{ViewSubframeShown, ViewSubframe, HkrootMessageRead}
use Rattle.subframes.specs.declared.page.PageTaken.{PageTaken}
use Rattle.subframes.specs.declared.page.PageTaken.TheVariants.{Unused, Used, Last}
use Rattle.subframes.specs.declared.subframe.Message.{Message}
use Rattle.subframes.specs.declared.subframe.Message.TheVariants.{Hkroot, Mack}
use Rattle.subframes.specs.inner.Subframe.{Inside}
use Rattle.subframes.specs.declared.subframe.CollectSubframe.{CollectSubframe}
use Rattle.layouts.specs.declared.part.Part.{Part}
use Rattle.subframes.specs.declared.subframe.WordTaken.{WordTaken}

-- The refusals: of the record,
module _ (s : State) where
  pub other_week : 4095 < s.week → 12 ≡ refusal (range_checks s)
  unfolding refusal
  other_week h = rw (lt-ltb 4095 s.week h)

  module _ (h0 : s.week ≤ 4095) where
    pub other_subframe : 20159 < s.subframe → 12 ≡ refusal (range_checks s)
    unfolding refusal
    other_subframe h = rw (le-ltb 4095 s.week h0, lt-ltb 20159 s.subframe h)

    module _ (h1 : s.subframe ≤ 20159) {b : Bool} (e : b ≡ small s.counts) where
      pub other_counts : not b ≡ true → 12 ≡ refusal (range_checks s)
      unfolding refusal
      other_counts h = rw (le-ltb 4095 s.week h0, le-ltb 20159 s.subframe h1, ← e, h)

      pub ranged : not b ≡ false → 0 ≡ refusal (range_checks s)
      unfolding refusal
      ranged h = rw (le-ltb 4095 s.week h0, le-ltb 20159 s.subframe h1, ← e, h)

  -- of the lent bytes and the record,
  pub other_hkroot : (length s.hkroot ≡ 540 → ⊥) → 1 ≡ refusal (record_checks s)
  unfolding refusal
  other_hkroot h = rw (ne_eqb (length s.hkroot) 540 h)

  module _ (h0 : length s.hkroot ≡ 540) where
    pub other_mack : (length s.mack ≡ 2160 → ⊥) → 1 ≡ refusal (record_checks s)
    unfolding refusal
    other_mack h = rw (eq-eqb (length s.hkroot) 540 h0, ne_eqb (length s.mack) 2160 h)

    pub right_lengths : {q : ℕ} → length s.mack ≡ 2160 → q ≡ refusal (range_checks s) → q ≡ refusal (record_checks s)
    unfolding refusal
    right_lengths h1 e = rw (eq-eqb (length s.hkroot) 540 h0, eq-eqb (length s.mack) 2160 h1) e

  -- with a satellite,
  module _ (n : ℕ) {q : ℕ} (e : q ≡ refusal (record_checks s)) where
    pub not_seen : (q ≡ 0 → ⊥) → q ≡ refusal (view_checks s n)
    not_seen ne = stopped (record_checks s) (svn_checks n) e ne

    pub seen : {r : ℕ} → q ≡ 0 → r ≡ refusal (svn_checks n) → r ≡ refusal (view_checks s n)
    seen z h = went_on (record_checks s) (svn_checks n) tt e z h

-- with satellite, week and time, and of a page
module _ (s : State) (p : Page) where
  abbrev asked : List Check
  asked = svn_gst_checks p.satellite p.week p.time

  module _ {q : ℕ} (e : q ≡ refusal (range_checks s)) where
    pub not_asked : (q ≡ 0 → ⊥) → q ≡ refusal (ask_checks s p)
    not_asked ne = stopped (range_checks s) asked e ne

    pub asked_then : {r : ℕ} → q ≡ 0 → r ≡ refusal asked → r ≡ refusal (ask_checks s p)
    asked_then z h = went_on (range_checks s) asked tt e z h

  pub other_page : (length p.bytes ≡ 5 → ⊥) → 1 ≡ refusal (feed_checks s p)
  unfolding refusal
  other_page ne = rw (ne_eqb (length p.bytes) 5 ne)

  module _ (l : length p.bytes ≡ 5) {q : ℕ} where
    pub right_page : q ≡ refusal (record_checks s ++ asked) → q ≡ refusal (feed_checks s p)
    unfolding refusal
    right_page h = rw (eq-eqb (length p.bytes) 5 l) h

  module _ (l : length p.bytes ≡ 5) {q : ℕ} (e : q ≡ refusal (record_checks s)) where
    pub not_taken : (q ≡ 0 → ⊥) → q ≡ refusal (feed_checks s p)
    unfolding refusal
    not_taken ne = rw (eq-eqb (length p.bytes) 5 l) (stopped (record_checks s) asked e ne)

    pub admitted : {r : ℕ} → q ≡ 0 → r ≡ refusal asked → r ≡ refusal (feed_checks s p)
    unfolding refusal
    admitted z h = rw (eq-eqb (length p.bytes) 5 l) (went_on (record_checks s) asked tt e z h)

-- what holds of a satellite that may be asked for
pub seen_satellite :
    (s : State) (n : ℕ) {q : ℕ} → q ≡ refusal (view_checks s n) → q ≡ 0 → (1 ≤ n) × (n ≤ 36) × (length s.hkroot ≡ 540) × (length s.mack ≡ 2160)
seen_satellite s n e z =
    let f = none_fails (view_checks s n) tt (sym e ∙ z) in (
      ltb-false n 1 f.1.1.1.1.1.0,
      ltb-false 36 n f.1.1.1.1.1.1.0,
      eqb-true (length s.hkroot) 540 (not-false _ f.0),
      eqb-true (length s.mack) 2160 (not-false _ f.1.0),
    )

-- what holds of a page that is not refused
pub record Fine (s : State) (p : Page) : Type 0 where
  pub h540 : length s.hkroot ≡ 540
  pub m2160 : length s.mack ≡ 2160
  pub p5 : length p.bytes ≡ 5
  pub some : 1 ≤ p.satellite
  pub few : p.satellite ≤ 36
  pub in_week : p.time ≤ 604799

pub fine : (s : State) (p : Page) {q : ℕ} → q ≡ refusal (feed_checks s p) → q ≡ 0 → Fine s p
fine s p e z =
    let f = none_fails (feed_checks s p) tt (sym e ∙ z) in
    record {
      p5 = eqb-true (length p.bytes) 5 (not-false _ f.0);
      h540 = eqb-true (length s.hkroot) 540 (not-false _ f.1.0);
      m2160 = eqb-true (length s.mack) 2160 (not-false _ f.1.1.0);
      some = ltb-false p.satellite 1 f.1.1.1.1.1.1.0;
      few = ltb-false 36 p.satellite f.1.1.1.1.1.1.1.0;
      in_week = ltb-false 604799 p.time f.1.1.1.1.1.1.1.1.1.0;
    }

-- One satellite's count.
module _ (n w : ℕ) where
  pub count_high : 15 < n → ◌≡◌ {A = WordStep} (record { next = n; answer = refused 12 }) (take_word n w)
  unfolding take_word
  count_high h = rw (lt-ltb 15 n h)

  module _ (h : n ≤ 15) where
    pub word_high : 14 < w → ◌≡◌ {A = WordStep} (record { next = n; answer = refused 7 }) (take_word n w)
    unfolding take_word
    word_high g = rw (le-ltb 15 n h, lt-ltb 14 w g)

    module _ (g : w ≤ 14) where
      pub word_other : (w ≡ n → ⊥) → ◌≡◌ {A = WordStep} (record { next = n; answer = nothing }) (take_word n w)
      unfolding take_word
      word_other ne = rw (le-ltb 15 n h, le-ltb 14 w g, ne_eqb w n ne)

      pub word_next : w ≡ n → ◌≡◌ {A = WordStep} (record { next = n + 1; answer = gives [] }) (take_word n w)
      unfolding take_word
      word_next e = rw (le-ltb 15 n h, le-ltb 14 w g, eq-eqb w n e)

-- what its answer tells
module _ (n w : ℕ) (x : WordTaken) (e : TakeWord n w x) (h : w < 15) where
  pub took_next : x.used ≡ Ok true → (eqb w n ≡ true) × (x.next.words ≡ w + 1)
  unfolding take_word
  took_next u = go (ltb 15 n) (ltb 14 w) (eqb w n) refl (ap (λ (y : WordStep). y.answer) e) (ap (λ (y : WordStep). y.next) e)
    where
      step : Bool → Bool → Bool → WordStep
      step a b c =
          cond a (record { next = n; answer = refused 12 })
          (cond b (record { next = n; answer = refused 7 })
          (cond c (record { next = n + 1; answer = gives [] }) (record { next = n; answer = nothing })))

      go : (a b c : Bool) → eqb w n ≡ c → meaning_word x.used ≡ (step a b c).answer → x.next.words ≡ (step a b c).next
          → (c ≡ true) × (x.next.words ≡ w + 1)
      go false false true q f g = (refl, omega (arith, g, eqb-true w n q))
      go false false false q f g = let f : gives [] ≡ nothing = rw u at f in let z : ◌≡◌ {A = ℕ} 0 1 = cc in absurd (omega arith)
      go false true c q f g = let f : gives [] ≡ refused 7 = rw u at f in let z : ◌≡◌ {A = ℕ} 0 1 = cc in absurd (omega arith)
      go true b c q f g = let f : gives [] ≡ refused 12 = rw u at f in let z : ◌≡◌ {A = ℕ} 0 1 = cc in absurd (omega arith)

  took_other : {a : Result Bool Refusal} → x.used ≡ a → (meaning_word a ≡ gives [] → ⊥) → eqb w n ≡ false
  unfolding take_word
  took_other {a} u ne = go (eqb w n) refl
    where
      go : (c : Bool) → eqb w n ≡ c → c ≡ false
      go false q = refl
      go true q =
          let same : w ≡ n = eqb-true w n q in
          let step = word_next n w (omega arith) (omega arith) same in
          let next : meaning_word x.used ≡ gives [] = ap (λ (y : WordStep). y.answer) (e ∙ sym step) in
          absurd (ne (rw u at next))

  pub took_unused : x.used ≡ Ok false → eqb w n ≡ false
  took_unused u = took_other u (λ z. let y : ◌≡◌ {A = ℕ} 0 1 = cc in omega arith)

  pub took_refused : {k : Refusal} → x.used ≡ Err k → eqb w n ≡ false
  took_refused u = took_other u (λ z. let y : ◌≡◌ {A = ℕ} 0 1 = cc in omega arith)

-- A change of week or subframe.
module _ (s : State) (week subframe : ℕ) where
  pub other_week_taken : (s.week ≡ week → ⊥) → fresh s week subframe ≡ changed s week subframe
  unfolding changed
  other_week_taken ne = rw (ne_eqb s.week week ne)

  pub other_subframe_taken : s.week ≡ week → (s.subframe ≡ subframe → ⊥) → fresh s week subframe ≡ changed s week subframe
  unfolding changed
  other_subframe_taken e ne = rw (eq-eqb s.week week e, ne_eqb s.subframe subframe ne)

  pub unchanged : s.week ≡ week → s.subframe ≡ subframe → s ≡ changed s week subframe
  unfolding changed
  unchanged e f = rw (eq-eqb s.week week e, eq-eqb s.subframe subframe f)

-- no change leaves lent counts
pub same_subframe :
    {week subframe to-week to-subframe : ℕ} (counts h m : List ℕ) → week ≡ to-week → subframe ≡ to-subframe
    → state_of to-week to-subframe counts h m ≡ changed (state_of week subframe counts h m) to-week to-subframe
unfolding changed
same_subframe {week} {subframe} counts h m e f = rw (← e, ← f, eq-eqb week week refl, eq-eqb subframe subframe refl)

-- Zeros, one byte more and one byte less.
or_zero : (a b : ℕ) → eqb (bit_or a b) 0 ≡ (eqb a 0 && eqb b 0)
or_zero zero b = rw (or_zero_l b)
or_zero (suc a) b =
    rw (eqb-suc-zero a)
    (ne_eqb (bit_or (suc a) b) 0 (λ z. absurd (omega (arith, z, or_add_and (suc a) b, and_le_r (suc a) b))))

and_end : (a : Bool) → (a && true) ≡ a
and_end true = refl
and_end false = refl

and_joined : (a b c : Bool) → (a && (b && c)) ≡ ((a && b) && c)
and_joined true b c = refl
and_joined false b c = refl

zeros_more : (l : List ℕ) (b : ℕ) → zeros (l ++ (b ∷ [])) ≡ (zeros l && eqb b 0)
unfolding zeros
zeros_more [] b = and_end (eqb b 0)
zeros_more (a ∷ l) b = ap (λ (x : Bool). eqb a 0 && x) (zeros_more l b) ∙ and_joined (eqb a 0) (zeros l) (eqb b 0)

pub zeros_none : true ≡ zeros []
unfolding zeros
zeros_none = refl

pub zeros_end : (l : List ℕ) (first : ℕ) {i many : ℕ} (any : ℕ) → i ≤ many → many ≤ i → eqb any 0 ≡ zeros (take i (drop first l))
    → eqb any 0 ≡ zeros (take many (drop first l))
zeros_end l first {i} {many} any few all e = let same : i ≡ many = omega arith in e ∙ ap (λ (n : ℕ). zeros (take n (drop first l))) same

pub zeros_turn : (l : List ℕ) (i any : ℕ) → i < length l → eqb any 0 ≡ zeros (take i l) → eqb (bit_or any (get_or l i 0)) 0 ≡ zeros (take (i + 1) l)
zeros_turn l i any h e =
    let next : i + 1 ≡ suc i = omega arith in
    or_zero any (get_or l i 0) ∙ ap (λ (x : Bool). x && eqb (get_or l i 0) 0) e
    ∙ sym (ap (λ (n : ℕ). zeros (take n l)) next ∙ ap zeros (take-suc l i 0 h) ∙ zeros_more (take i l) (get_or l i 0))

module _ (h m : List ℕ) (i : ℕ) {a : Bool} (ea : a ≡ zeros (take 15 (drop (15 * i) h))) where
  pub silent_both : {b : Bool} → b ≡ zeros (take 60 (drop (60 * i) m)) → a ≡ true → b ≡ is_silent h m i
  unfolding is_silent
  silent_both eb e = rw (← ea, ← eb, e)

  pub silent_not : a ≡ false → a ≡ is_silent h m i
  unfolding is_silent
  silent_not e = rw (← ea, e)

-- The page of a satellite.
pub answer_15 : (n week subframe : ℕ) (b : Bool) → n ≡ 15 → out_of b week subframe ≡ answer_at n week subframe b
unfolding answer_at
answer_15 n week subframe b e = rw (eq-eqb n 15 e)

pub answer_less : (n week subframe : ℕ) (b : Bool) → (n ≡ 15 → ⊥) → nothing ≡ answer_at n week subframe b
unfolding answer_at
answer_less n week subframe b ne = rw (ne_eqb n 15 ne)

-- a pair comes out
module _ (week subframe : ℕ) {b : Bool} where
  pub out_silent : b ≡ true → silent week subframe ≡ out_of b week subframe
  out_silent h = rw h

  pub out_complete : b ≡ false → complete week subframe ≡ out_of b week subframe
  out_complete h = rw h

pub answer_last :
    (week subframe : ℕ) (b : Bool) {r : PageTaken} {a : Answer} {x : Bool} → r ≡ Last → x ≡ b → a ≡ out_of x week subframe → a ≡ answer_of r week subframe b
answer_last week subframe b er ex ea = rw er (ea ∙ ap (λ (y : Bool). out_of y week subframe) ex)

module _ (s : State) (bytes : List ℕ) (i w : ℕ) where
  pub used_is :
      {h m : List ℕ} {a : Answer} {n : ℕ} → h ≡ set s.hkroot (15 * i + w) (get_or bytes 0 0) → m ≡ put4 s.mack (60 * i + 4 * w) bytes → n ≡ w + 1
      → a ≡ answer_at n s.week s.subframe (is_silent h m i)
      → ◌≡◌ {A = Fed}
      (record { state = record { week = s.week; subframe = s.subframe; counts = set s.counts i n; hkroot = h; mack = m }; answer = a })
      (used s bytes i w)
  unfolding used
  used_is eh em en ea = rw (ea, en, eh, em)

  pub offered_not : eqb w (get_or s.counts i 0) ≡ false → ◌≡◌ {A = Fed} (record { state = s; answer = nothing }) (offered s bytes i w)
  unfolding offered
  offered_not e = rw e

  pub offered_used : {f : Fed} → eqb w (get_or s.counts i 0) ≡ true → f ≡ used s bytes i w → f ≡ offered s bytes i w
  unfolding offered
  offered_used e g = let q : offered s bytes i w ≡ used s bytes i w = rw e in g ∙ sym q

-- at lent counts
module _ (counts h m bytes : List ℕ) (i w : ℕ) where
  not_next : eqb w (get_or counts i 0) ≡ false → Offered counts h m bytes i w Unused counts h m
  not_next e = record { fed = λ week subframe. offered_not (state_of week subframe counts h m) bytes i w e; used_as = sym e }

  module _ (x : WordTaken) (e : TakeWord (get_or counts i 0) w x) (few : w < 15) where
    pub count_refuses : {k : Refusal} → x.used ≡ Err k → Offered counts h m bytes i w Unused counts h m
    count_refuses u = not_next (took_refused (get_or counts i 0) w x e few u)

    pub count_stays : {b : Bool} → x.used ≡ Ok b → b ≡ false → Offered counts h m bytes i w Unused counts h m
    count_stays u f = not_next (took_unused (get_or counts i 0) w x e few (u ∙ ap Ok f))

    pub count_rises : {b : Bool} → x.used ≡ Ok b → b ≡ true → (x.next.words ≡ w + 1) × (get_or counts i 0 ≡ w)
    count_rises u f = let t = took_next (get_or counts i 0) w x e few (u ∙ ap Ok f) in (t.1, sym (eqb-true w (get_or counts i 0) t.0))

  module _ {x y : List ℕ} {n : ℕ} (same : get_or counts i 0 ≡ w) (en : n ≡ w + 1) (ex : x ≡ set h (15 * i + w) (get_or bytes 0 0))
      (ey : y ≡ put4 m (4 * (15 * i + w)) bytes) where
    next :
        (r : PageTaken)
        → ((week subframe : ℕ) → answer_of r week subframe (is_silent x y i) ≡ answer_at n week subframe (is_silent x y i)) → used_of r ≡ true
        → Offered counts h m bytes i w r (set counts i n) x y
    next r ea u =
        let e : eqb w (get_or counts i 0) ≡ true = eq-eqb w (get_or counts i 0) (sym same) in
        let place : 4 * (15 * i + w) ≡ 60 * i + 4 * w = omega arith in
        record {
          fed =
              λ week subframe. offered_used (state_of week subframe counts h m) bytes i w e
              (used_is (state_of week subframe counts h m) bytes i w ex (rw place at ey) en (ea week subframe));
          used_as = u ∙ sym e;
        }

    pub next_used : (n ≡ 15 → ⊥) → Offered counts h m bytes i w Used (set counts i n) x y
    next_used ne = next Used (λ week subframe. answer_less n week subframe (is_silent x y i) ne) refl

    pub next_last : n ≡ 15 → Offered counts h m bytes i w Last (set counts i n) x y
    next_last e = next Last (λ week subframe. answer_15 n week subframe (is_silent x y i) e) refl

-- A call.
module _ (s : State) (p : Page) {q : ℕ} (e : q ≡ refusal (feed_checks s p)) where
  pub feed_refused : (q ≡ 0 → ⊥) → ◌≡◌ {A = Fed} (record { state = s; answer = refused q }) (feed s p)
  unfolding feed
  feed_refused ne = rw (← e, ne_eqb q 0 ne)

  pub feed_admitted :
      {f : Fed} {t : State} → q ≡ 0 → t ≡ changed s p.week (subframe_of p.time) → f ≡ offered t p.bytes (p.satellite - 1) (word_of p.time)
      → f ≡ feed s p
  unfolding feed
  feed_admitted z et g =
      let whole : feed s p ≡ offered (changed s p.week (subframe_of p.time)) p.bytes (p.satellite - 1) (word_of p.time) = rw (← e, z) in
      g ∙ ap (λ (t : State). offered t p.bytes (p.satellite - 1) (word_of p.time)) et ∙ sym whole

-- an admitted page at lent counts
module _ (week subframe : ℕ) (counts h m : List ℕ) (e : Stamp) (bytes : List ℕ)
    (z : refusal (feed_checks (state_of week subframe counts h m) (page_of e bytes)) ≡ 0) where
  pub admitted_entry : Fine (state_of week subframe counts h m) (page_of e bytes)
  admitted_entry = fine (state_of week subframe counts h m) (page_of e bytes) (sym z) refl

  pub page_fed :
      {cs cs' h' m' : List ℕ} {r : PageTaken}
      → ((h m : List ℕ) → state_of e.week (e.time / 30) cs h m ≡ changed (state_of week subframe counts h m) e.week (e.time / 30))
      → Offered cs h m bytes (e.satellite - 1) (e.time / 2 - 15 * (e.time / 30)) r cs' h' m'
      → PageFed (state_of week subframe counts h m) (page_of e bytes) r cs' h' m'
  unfolding is_used
  page_fed {cs} {cs'} {h'} {m'} {r} er o =
      let word : e.time / 2 - 15 * (e.time / 30) ≡ word_of e.time = omega arith in
      let o : Offered cs h m bytes (e.satellite - 1) (word_of e.time) r cs' h' m' = rw word at o in
      record {
        fed = feed_admitted (state_of week subframe counts h m) (page_of e bytes) (sym z) refl (er h m) (o.fed e.week (e.time / 30));
        used_as = o.used_as ∙ ap (λ (s : State). eqb (word_of e.time) (get_or s.counts (e.satellite - 1) 0)) (er h m);
      }

pub fed_whole :
    {s : State} {p : Page} {r : PageTaken} {cs h m : List ℕ} {a : Answer} → PageFed s p r cs h m
    → a ≡ answer_of r p.week (subframe_of p.time) (is_silent h m (p.satellite - 1))
    → ◌≡◌ {A = Fed} (record { state = state_of p.week (subframe_of p.time) cs h m; answer = a }) (feed s p)
fed_whole {s} {p} {r} {cs} {h} {m} f e = ap (λ (a : Answer). record { state = state_of p.week (subframe_of p.time) cs h m; answer = a }) e ∙ f.fed

-- Whether a page is used, asked of the record.
module _ (s : State) (p : Page) {q : ℕ} (e : q ≡ refusal (ask_checks s p)) where
  pub ask_refused : (q ≡ 0 → ⊥) → refused q ≡ used_answer s p
  unfolding used_answer
  ask_refused ne = rw (← e, ne_eqb q 0 ne)

  pub ask_said : q ≡ 0 → (b : Bool) → b ≡ is_used s p → meaning_word (Ok b) ≡ used_answer s p
  unfolding used_answer
  ask_said z true u = rw (← e, z, ← u)
  ask_said z false u = rw (← e, z, ← u)

pub asked_is : (s : State) (p : Page) → refusal (ask_checks s p) ≡ 0 → (1 ≤ p.satellite) × (p.satellite ≤ 36) × (p.time ≤ 604799)
asked_is s p z =
    let f = none_fails (ask_checks s p) tt z in
    (ltb-false p.satellite 1 f.1.1.1.0, ltb-false 36 p.satellite f.1.1.1.1.0, ltb-false 604799 p.time f.1.1.1.1.1.1.0)

-- a page's word against the count of its satellite, which is 0 after a change
module _ (s : State) (p : Page) (z : refusal (ask_checks s p) ≡ 0) where
  none_yet : fresh s p.week (subframe_of p.time) ≡ changed s p.week (subframe_of p.time) → eqb (word_of p.time) 0 ≡ is_used s p
  unfolding is_used
  none_yet e =
      ap (eqb (word_of p.time)) (sym (get_or-replicate 36 (p.satellite - 1) 0 0 (omega (arith, (asked_is s p z).0, (asked_is s p z).1))))
      ∙ ap (λ (t : State). eqb (word_of p.time) (get_or t.counts (p.satellite - 1) 0)) e

  pub used_other_week : (s.week ≡ p.week → ⊥) → eqb (word_of p.time) 0 ≡ is_used s p
  used_other_week ne = none_yet (other_week_taken s p.week (subframe_of p.time) ne)

  module _ (e : s.week ≡ p.week) where
    pub used_other_subframe : (s.subframe ≡ subframe_of p.time → ⊥) → eqb (word_of p.time) 0 ≡ is_used s p
    used_other_subframe ne = none_yet (other_subframe_taken s p.week (subframe_of p.time) e ne)

    pub used_same : s.subframe ≡ subframe_of p.time → eqb (word_of p.time) (get_or s.counts (p.satellite - 1) 0) ≡ is_used s p
    unfolding is_used
    used_same f =
        ap (λ (t : State). eqb (word_of p.time) (get_or t.counts (p.satellite - 1) 0)) (unchanged s p.week (subframe_of p.time) e f)

-- The view.
module _ (s : State) (size n : ℕ) {q : ℕ} (e : q ≡ refusal (view_checks s n)) where
  pub view_refused : (q ≡ 0 → ⊥) → refused q ≡ view s size n
  unfolding view
  view_refused ne = rw (← e, ne_eqb q 0 ne)

  module _ (z : q ≡ 0) where
    pub view_less : (get_or s.counts (n - 1) 0 ≡ 15 → ⊥) → nothing ≡ view s size n
    unfolding view
    view_less ne = rw (← e, z, ne_eqb (get_or s.counts (n - 1) 0) 15 ne)

    pub view_15 : {m : ℕ} → get_or s.counts (n - 1) 0 ≡ 15 → m ≡ size → gives (m * (n - 1) ∷ m ∷ []) ≡ view s size n
    unfolding view
    view_15 h g = rw (← e, z, eq-eqb (get_or s.counts (n - 1) 0) 15 h, g)

-- What has come out.
module _ (s : State) (n : ℕ) {q : ℕ} (e : q ≡ refusal (view_checks s n)) where
  pub came_refused : (q ≡ 0 → ⊥) → refused q ≡ came_out s n
  unfolding came_out
  came_refused ne = rw (← e, ne_eqb q 0 ne)

  module _ (z : q ≡ 0) where
    came_at : answer_at (get_or s.counts (n - 1) 0) s.week s.subframe (is_silent s.hkroot s.mack (n - 1)) ≡ came_out s n
    unfolding came_out
    came_at = rw (← e, z)

    pub came_less : (get_or s.counts (n - 1) 0 ≡ 15 → ⊥) → nothing ≡ came_out s n
    came_less ne = answer_less (get_or s.counts (n - 1) 0) s.week s.subframe (is_silent s.hkroot s.mack (n - 1)) ne ∙ came_at

    pub came_15 :
        {a : Answer} {b : Bool} → get_or s.counts (n - 1) 0 ≡ 15 → b ≡ is_silent s.hkroot s.mack (n - 1) → a ≡ out_of b s.week s.subframe
        → a ≡ came_out s n
    came_15 h eb ea =
        ea ∙ ap (λ (x : Bool). out_of x s.week s.subframe) eb
        ∙ answer_15 (get_or s.counts (n - 1) 0) s.week s.subframe (is_silent s.hkroot s.mack (n - 1)) h ∙ came_at

-- what the view shows of the satellite says which of the three it is
module _ (s : State) (size n : ℕ) where
  abbrev out : Answer
  out = out_of (is_silent s.hkroot s.mack (n - 1)) s.week s.subframe

  abbrev either : Bool → Bool → Answer → Answer
  either passes all then = cond passes (cond all then nothing) (refused (refusal (view_checks s n)))

  abbrev place : Answer
  place = gives (size * (n - 1) ∷ size ∷ [])

  pub came_shown : view s size n ≡ place → came_out s n ≡ out
  unfolding view came_out answer_at
  came_shown e = go (eqb (refusal (view_checks s n)) 0) (eqb (get_or s.counts (n - 1) 0) 15) e
    where
      go : (a b : Bool) → either a b place ≡ place → either a b out ≡ out
      go true true f = refl
      go true false f = let z : ◌≡◌ {A = ℕ} 0 1 = cc in absurd (omega arith)
      go false b f = let z : ◌≡◌ {A = ℕ} 0 1 = cc in absurd (omega arith)

  pub came_nothing : view s size n ≡ nothing → came_out s n ≡ nothing
  unfolding view came_out answer_at
  came_nothing e = go (eqb (refusal (view_checks s n)) 0) (eqb (get_or s.counts (n - 1) 0) 15) e
    where
      go : (a b : Bool) → either a b place ≡ nothing → either a b out ≡ nothing
      go true true f = let z : ◌≡◌ {A = ℕ} 0 1 = cc in absurd (omega arith)
      go true false f = refl
      go false b f = f

  pub came_not : {q : ℕ} → view s size n ≡ refused q → came_out s n ≡ refused q
  unfolding view came_out answer_at
  came_not {q} e = go (eqb (refusal (view_checks s n)) 0) (eqb (get_or s.counts (n - 1) 0) 15) e
    where
      go : (a b : Bool) → either a b place ≡ refused q → either a b out ≡ refused q
      go true true f = let z : ◌≡◌ {A = ℕ} 0 1 = cc in absurd (omega arith)
      go true false f = let z : ◌≡◌ {A = ℕ} 0 1 = cc in absurd (omega arith)
      go false b f = f

-- a message lies within its buffer
pub message_room :
    (m : Message) (h k : List ℕ) {b : ℕ} (n : ℕ) → b ≡ size_of m → length h ≡ 540 → length k ≡ 2160 → 1 ≤ n → n ≤ 36
    → (b * (n - 1) ≤ 2160) × (b * (n - 1) + b ≤ length (buffer_of m h k))
message_room Hkroot h k n e lh lk s f = (rw e (omega arith), rw e (omega arith))
message_room Mack h k n e lh lk s f = (rw e (omega arith), rw e (omega arith))

-- what is shown of some bytes
module _ {o : Option Part} where
  pub inside_shown : {x : Part} {len : ℕ} → o ≡ Some x → Inside o len → x.first + x.many ≤ len
  inside_shown e h = rw e at h

  module _ (m : List ℕ) where
    pub part_bytes : {x : Part} → o ≡ Some x → take x.many (drop x.first m) ≡ shown m (meaning_shown (Ok o))
    unfolding shown
    part_bytes e = rw e

    pub part_nothing : o ≡ None → [] ≡ shown m (meaning_shown (Ok o))
    unfolding shown
    part_nothing e = rw e

-- what the question tells of lies in the buffer
view_lies :
    (h m : List ℕ) (s : State) (k : Message) (n : ℕ) → s.hkroot ≡ h → s.mack ≡ m → {first many : ℕ}
    → gives (first ∷ many ∷ []) ≡ view s (size_of k) n → first + many ≤ length (buffer_of k h m)
unfolding view
view_lies h m s k n eh em e = go (refusal (view_checks s n)) refl (eqb (get_or s.counts (n - 1) 0) 15) e
  where
    go :
        (q : ℕ) → q ≡ refusal (view_checks s n) → (b : Bool) → {first many : ℕ}
        → gives (first ∷ many ∷ []) ≡ cond (eqb q 0) (cond b (gives (size_of k * (n - 1) ∷ size_of k ∷ [])) nothing) (refused q)
        → first + many ≤ length (buffer_of k h m)
    go zero e true {first} {many} f =
        let i = seen_satellite s n e refl in
        let room = (message_room k h m n refl (sym (ap length eh) ∙ i.2) (sym (ap length em) ∙ i.3) i.0 i.1).1 in
        let a : first ≡ size_of k * (n - 1) = cc in
        let b : many ≡ size_of k = cc in
        rw (a, b) room
    go zero e false f = let z : ◌≡◌ {A = ℕ} 0 1 = cc in absurd (omega arith)
    go (suc q) e b {first} {many} f =
        let f : gives (first ∷ many ∷ []) ≡ refused (suc q) = rw (eqb-suc-zero q) at f in let z : ◌≡◌ {A = ℕ} 0 1 = cc in absurd (omega arith)

module _ (c : CollectSubframe) (h m : List ℕ) (k : Message) (n : ℕ) where
  view_inside : (o : Option Part) → ViewSubframeShown c h m k n (Ok o) → Inside o (length (buffer_of k h m))
  view_inside None e = tt
  view_inside (Some x) e = view_lies h m (state c h m) k n refl refl e

  pub no_part : (e : Refusal) → ViewSubframeShown c h m k n (Err e) → ViewSubframe c h m k n []
  unfolding shown
  no_part e g = ap (shown (buffer_of k h m)) g

  -- the two kinds of message
  module _ (o : Option Part) (e : ViewSubframeShown c h m k n (Ok o)) where
    pub hkroot_inside : k ≡ Hkroot → Inside o (length h)
    hkroot_inside g = let i : Inside o (length (buffer_of k h m)) = view_inside o e in rw g at i

    pub mack_inside : k ≡ Mack → Inside o (length m)
    mack_inside g = let i : Inside o (length (buffer_of k h m)) = view_inside o e in rw g at i

    pub hkroot_part : {r : List ℕ} → k ≡ Hkroot → r ≡ shown h (meaning_shown (Ok o)) → ViewSubframe c h m k n r
    hkroot_part g p =
        p ∙ ap (λ (l : List ℕ). shown l (meaning_shown (Ok o))) (sym (ap (λ (j : Message). buffer_of j h m) g)) ∙ ap (shown (buffer_of k h m)) e

    pub mack_part : {r : List ℕ} → k ≡ Mack → r ≡ shown m (meaning_shown (Ok o)) → ViewSubframe c h m k n r
    mack_part g p =
        p ∙ ap (λ (l : List ℕ). shown l (meaning_shown (Ok o))) (sym (ap (λ (j : Message). buffer_of j h m) g)) ∙ ap (shown (buffer_of k h m)) e

-- an HKROOT message by value
module _ (c : CollectSubframe) (h m : List ℕ) (n : ℕ) where
  pub message_refused : (e : Refusal) → ViewSubframeShown c h m Hkroot n (Err e) → HkrootMessageRead c h m n (Err e)
  message_refused e g = copied_refused 15 h g

  pub message_nothing : {o : Option Part} → ViewSubframeShown c h m Hkroot n (Ok o) → o ≡ None → HkrootMessageRead c h m n (Ok None)
  unfolding copied
  message_nothing g e = ap (copied 15 h) (rw e at g)

  module _ {o : Option Part} {p : Part} (eo : ViewSubframeShown c h m Hkroot n (Ok o)) (is : o ≡ Some p) where
    e : ViewSubframeShown c h m Hkroot n (Ok (Some p))
    e = rw is at eo

    message_15 : p.many ≡ 15
    unfolding view
    message_15 = go (eqb (refusal (view_checks (state c h m) n)) 0) (eqb (get_or c.counts (n - 1) 0) 15) e
      where
        go :
            (a b : Bool) {first many : ℕ}
            → gives (first ∷ many ∷ []) ≡ cond a (cond b (gives (15 * (n - 1) ∷ 15 ∷ [])) nothing) (refused (refusal (view_checks (state c h m) n)))
            → many ≡ 15
        go true true f = cc
        go true false f = let z : ◌≡◌ {A = ℕ} 0 1 = cc in absurd (omega arith)
        go false b f = let z : ◌≡◌ {A = ℕ} 0 1 = cc in absurd (omega arith)

    pub message_room_15 : p.first + 15 ≤ length h
    message_room_15 = let i = view_inside c h m Hkroot n (Some p) e in rw message_15 at i

    pub message_bytes : {l : List ℕ} → l ≡ take 15 (drop p.first h) → HkrootMessageRead c h m n (Ok (Some (record { part = p; bytes = l })))
    message_bytes g = copied_bytes 15 h e (g ∙ ap (λ (k : ℕ). take k (drop p.first h)) (sym message_15))
