-- A file that is replayed in pieces: totals, what is completed, and that a call hands back a legal record.
-- Assumes nothing.
use Prim.Native.Nat.{ℕ, zero, suc, ◌+◌, ◌-◌, ◌*◌, ◌/◌, ◌≤◌, ◌<◌, min}
use native.Mathlib.Nat.{add-zero, zero-add, suc-add}
use native.Mathlib.Omega.{arith}
use mathlib.Core.Path.{◌≡◌, refl, sym, ap, ◌∙◌, subst}
use mathlib.Core.List.{List, [], ◌∷◌, ◌++◌, append-nil, append_assoc}
use mathlib.Core.Bool.{Bool, true, false, cond, not}
use lib.ListN.{length, take, drop, replicate, length-append, length-drop, take-append-drop}
use lib.Seq.{length-take-le, take-append-le, drop-append-le}
use lib.Dec.{eqb}
use borrow.Author.Tests.{ltb-false}
use Rattle.layouts.specs.Answer.{Answer, refused, nothing, gives, refusal, copied}
use Rattle.layouts.specs.Bits.{bit, field, bytes_from}
use Rattle.layouts.specs.Gst.{svn_gst_checks}
use Rattle.layouts.specs.InavPage.{is_counted, osnma}
use Rattle.layouts.specs.Lists.{all}
use Rattle.layouts.specs.Sizes.{kroot_blocks}
use Rattle.layouts.proofs.Answers.{none_fails}
use Rattle.subframes.specs.Subframe.{feed_checks, used_answer, is_used, small, State as Subframes, Page, changed, used, offered, answer_at, is_silent}
use Rattle.subframes.specs.Subframe.{zeros as are_zeros, feed as feed_page, view as view_page}
use Rattle.subframes.specs.SubframePromises.{meaning_subframe}
use Rattle.std.specs.Prelude.{Result, Ok, Err, Option, Some, None}
use Rattle.layouts.specs.declared.refusal.Refusal.{Refusal}
use Rattle.subframes.specs.declared.subframe.Pair.{Pair}
use Rattle.subframes.specs.declared.subframe.Pair.TheVariants.{Complete, Silent}
use Rattle.subframes.proofs.SubframeUnique.{back_subframe}
use Rattle.subframes.proofs.SubframeHistory.{fed_coded}
use Rattle.dsms.specs.Dsm.{State as Dsms, begun, stored, counted as counted_blocks, finished, taken, feed as feed_block}
use Rattle.page_replay.specs.Replay.{Totals, Time, State, new, Run, start, is_taken, one, subframes_in, silent_in, passed_on, skipped, counted, fed_page}
use Rattle.page_replay.specs.Replay.{fed, page_step, and_then, onward, replayed, pages_of, whole_pages, consumed, most, are_few, replay_checks}
use Rattle.page_replay.specs.Replay.{Outcome, replay, fed_hkroot, later}
use Rattle.page_replay.specs.Pieces.{OneOfEach, AddsUp, TotalsAddUp, PagesAddUp, followed_by, SplitAnywhere, Call, answered_to, called, called_all}
use Rattle.page_replay.specs.Pieces.{reported, consumed_bytes, plus, Ready, InPieces, CallsGoOn, NewIsReady, TotalsSayUsed, Example}
use Rattle.page_replay.specs.Pieces.{comes_out, PairsCounted, SilentStaysOut}
use Rattle.page_replay.proofs.PageFold.{at_most_one, one_pair_at_most, Sound, sound_step}
use Rattle.page_replay.proofs.PageSteps.{start_admitted}
use Rattle.page_replay.proofs.PageRefusals.{pages_many, all_few, few_each, call_admitted, other_budget, legal, replay_refused, replay_done}
use Rattle.subframes.proofs.SubframeSound.{Sound as Collecting, sound_admitted, sound_fed}
use Rattle.dsms.proofs.DsmSound.{Sound as Gathering, sound_fed as sound_block}

pub one_of_each : OneOfEach
one_of_each s pages h =
    let q = at_most_one s pages h in record { subframe = q.subframe_one; dsm = q.dsm_one; pair = one_pair_at_most s pages h }

-- An answer of the subframe collector is one pair, complete or silent.
abbrev Paired : Answer → Type 0
Paired a = length (subframes_in a) + length (silent_in a) ≡ comes_out a

paired : (x : Result (Option Pair) Refusal) → Paired (meaning_subframe x)
paired (Err e) = refl
paired (Ok None) = refl
paired (Ok (Some (Complete w t))) = refl
paired (Ok (Some (Silent w t))) = refl

pair_in : (s : Subframes) (p : Page) → Paired (feed_page s p).answer
pair_in s p = subst Paired (fed_coded s p) (paired (back_subframe (feed_page s p).answer))

pub pairs_counted : PairsCounted
unfolding page_step fed counted skipped
pairs_counted s page =
    record {
      counted = λ e. rw e (omega (arith, pair_in s.subframes (fed_page s page)));
      skipped = λ e. rw e;
    }

-- A silent answer.
pub silent_stays_out : SilentStaysOut
unfolding page_step fed counted
silent_stays_out s page week subframe e f =
    rw e
    (rw f
    (record {
      no_subframe = refl;
      no_dsm = refl;
      dsms_are = refl;
      subframes_total = add-zero s.totals.subframes;
      dsms_total = add-zero s.totals.dsms;
      silent_total = refl;
    }))

-- The totals add up.
one_or_not : (u : Bool) → one u + one (not u) ≡ 1
one_or_not true = refl
one_or_not false = refl

fed_adds : (s : State) (page : List ℕ) → AddsUp s.totals (fed s (fed_page s page)) 1
unfolding fed counted
fed_adds s page =
    let u : Bool = is_taken (used_answer s.subframes (fed_page s page)) in
    record { all_pages_lem = refl; each_page = omega (arith, one_or_not u); all_subframes = refl; all_dsms = refl }

skipped_adds : (s : State) → AddsUp s.totals (skipped s) 1
unfolding skipped
skipped_adds s =
    record {
      all_pages_lem = refl;
      each_page = omega arith;
      all_subframes = sym (add-zero s.totals.subframes);
      all_dsms = sym (add-zero s.totals.dsms);
    }

step_adds : (s : State) (page : List ℕ) → AddsUp s.totals (page_step s page) 1
unfolding page_step
step_adds s page = go (is_counted page)
  where
    go : (b : Bool) → AddsUp s.totals (cond b (fed s (fed_page s page)) (skipped s)) 1
    go true = fed_adds s page
    go false = skipped_adds s

more_adds : (t : Totals) (r : Run) (n : ℕ) (page : List ℕ) → AddsUp t r n → AddsUp t (and_then r page) (n + 1)
unfolding and_then
more_adds t r n page h =
    let q = step_adds r.state page in
    record {
      all_pages_lem = omega (arith, h.all_pages_lem, q.all_pages_lem);
      each_page = omega (arith, h.each_page, q.each_page);
      all_subframes = rw length-append (omega (arith, h.all_subframes, q.all_subframes));
      all_dsms = rw length-append (omega (arith, h.all_dsms, q.all_dsms));
    }

onward_adds : (t : Totals) (ps : List (List ℕ)) (r : Run) (n : ℕ) → AddsUp t r n → AddsUp t (onward r ps) (n + length ps)
onward_adds t [] r n h = rw (add-zero n) h
onward_adds t (p ∷ ps) r n h =
    let same : n + suc (length ps) ≡ n + 1 + length ps = omega arith in
    rw same (onward_adds t ps (and_then r p) (n + 1) (more_adds t r n p h))

pub totals_add_up : TotalsAddUp
unfolding replayed
totals_add_up s ps =
    let none : AddsUp s.totals (start s) 0 =
    record {
      all_pages_lem = sym (add-zero s.totals.pages);
      each_page = omega arith;
      all_subframes = sym (add-zero s.totals.subframes);
      all_dsms = sym (add-zero s.totals.dsms);
    }
    in
    rw (zero-add (length ps)) at (onward_adds s.totals ps (start s) 0 none)

pub pages_add_up : PagesAddUp
pages_add_up satellite week time hkroot mack memory ps =
    let q = totals_add_up (new satellite week time hkroot mack memory) ps in
    omega (arith, q.all_pages_lem, q.each_page)

-- Pages that are split anywhere.
onward_append : (ps qs : List (List ℕ)) (r : Run) → onward r (ps ++ qs) ≡ onward (onward r ps) qs
onward_append [] qs r = refl
onward_append (p ∷ ps) qs r = onward_append ps qs (and_then r p)

followed_assoc : (a b c : Run) → followed_by (followed_by a b) c ≡ followed_by a (followed_by b c)
followed_assoc a b c = rw (append_assoc a.subframes b.subframes c.subframes, append_assoc a.dsms b.dsms c.dsms)

and_then_start : (r : Run) (page : List ℕ) → and_then r page ≡ followed_by r (and_then (start r.state) page)
unfolding and_then
and_then_start r page = refl

onward_start : (ps : List (List ℕ)) (r : Run) → onward r ps ≡ followed_by r (onward (start r.state) ps)
unfolding and_then
onward_start [] r = rw (append-nil r.subframes, append-nil r.dsms)
onward_start (p ∷ ps) r =
    let s : State = r.state in
    onward_start ps (and_then r p)
    ∙ ap (λ (x : Run). followed_by x (onward (start (and_then r p).state) ps)) (and_then_start r p)
    ∙ followed_assoc r (and_then (start s) p) (onward (start (and_then r p).state) ps)
    ∙ ap (followed_by r) (sym (onward_start ps (and_then (start s) p)))

pub split_anywhere : SplitAnywhere
unfolding replayed
split_anywhere s ps qs = onward_append ps qs (start s) ∙ onward_start qs (onward (start s) ps)

-- A legal record stays legal.
dsms_passed : (l : List Time) (s : Subframes) (n : ℕ) (d : Dsms) → Gathering d → Gathering (passed_on l s n d).state
unfolding fed_hkroot
dsms_passed [] s n d h = h
dsms_passed (t ∷ l) s n d h = sound_block d _ _ h

pub record Good (s : State) (n : ℕ) : Type 0 where
  pub sound : Sound s n
  pub collector : Collecting s.subframes
  pub dsms : Gathering s.dsms

collector_step : (s : State) (page : List ℕ) → Collecting s.subframes → Collecting (page_step s page).state.subframes
unfolding page_step fed counted skipped
collector_step s page f = go (is_counted page)
  where
    go : (b : Bool) → Collecting (cond b (fed s (fed_page s page)) (skipped s)).state.subframes
    go true = sound_fed s.subframes (fed_page s page) f
    go false = f

dsms_step : (s : State) (page : List ℕ) → Gathering s.dsms → Gathering (page_step s page).state.dsms
unfolding page_step fed counted skipped
dsms_step s page h = go (is_counted page)
  where
    go : (b : Bool) → Gathering (cond b (fed s (fed_page s page)) (skipped s)).state.dsms
    go true =
        let f = feed_page s.subframes (fed_page s page) in dsms_passed (subframes_in f.answer) f.state s.satellite s.dsms h
    go false = h

pub good_onward : (ps : List (List ℕ)) (r : Run) (n : ℕ) → Good r.state n → Good (onward r ps).state (n + length ps)
unfolding and_then
good_onward [] r n g = rw (add-zero n) g
good_onward (p ∷ ps) r n g =
    let same : n + suc (length ps) ≡ n + 1 + length ps = omega arith in
    let f = g.sound in
    rw same
    (good_onward ps (and_then r p) (n + 1)
    (record { sound = sound_step r.state n p f; collector = collector_step r.state p g.collector; dsms = dsms_step r.state p g.dsms }))

few_totals : (s : State) (n : ℕ) → Sound s n → n ≤ most → true ≡ are_few s.totals
few_totals s n f l =
    all_few s.totals (omega (arith, f.pages_few)) (omega (arith, f.skipped_few)) (omega (arith, f.used_few)) (omega (arith, f.unused_few))
    (omega (arith, f.subframes_few)) (omega (arith, f.dsms_few)) (omega (arith, f.silent_few))

-- Of such a record only a budget is refused.
module _ (s : State) (n budget : ℕ) (g : Good s n) (l : n ≤ most) where
  in_place : 0 ≡ refusal (svn_gst_checks s.satellite s.next.week s.next.time)
  in_place = let f = g.sound in start_admitted s.satellite s.next.week s.next.time f.some f.few f.in_weeks f.in_week

  pub admitted_call : budget ≤ 15 → 0 ≡ refusal (replay_checks s budget)
  admitted_call b =
      call_admitted s budget g.dsms.d208
      (sound_admitted s.subframes g.collector) refl g.dsms.id_low (few_totals s n g.sound l) in_place refl b

  pub high_budget_7 : 15 < budget → 7 ≡ refusal (replay_checks s budget)
  high_budget_7 b =
      other_budget s budget g.dsms.d208
      (sound_admitted s.subframes g.collector) refl g.dsms.id_low (few_totals s n g.sound l) in_place refl b

-- A call: the pages that it consumed, which are none where it is refused.
abbrev pub consumed_pages : State → Call → List (List ℕ)
consumed_pages s c = pages_of (reported (answered_to s c).answer) c.bytes

module _ (s : State) (c : Call) where
  abbrev ps : List (List ℕ)
  ps = consumed c.bytes c.budget

  abbrev q : ℕ
  q = refusal (replay_checks s c.budget)

  abbrev either : Bool → Outcome
  either b =
      cond b
      (record { state = (replayed s ps).state; answer = gives (length ps ∷ []); subframes = (replayed s ps).subframes; dsms = (replayed s ps).dsms })
      (record { state = s; answer = refused q; subframes = []; dsms = [] })

  few_consumed : (b : Bool) → 30 * reported (either b).answer ≤ length c.bytes
  few_consumed true =
      let many : length ps ≡ min c.budget (whole_pages c.bytes) = pages_many (min c.budget (whole_pages c.bytes)) c.bytes in omega arith
  few_consumed false = omega arith

  pub consumed_fit : 30 * reported (answered_to s c).answer ≤ length c.bytes
  unfolding replay
  consumed_fit = few_consumed (eqb q 0)

  consumes_by : (b : Bool) → record { state = (either b).state; subframes = (either b).subframes; dsms = (either b).dsms }
      ≡ replayed s (pages_of (reported (either b).answer) c.bytes)
  unfolding replayed pages_of
  consumes_by true =
      ap (λ (k : ℕ). replayed s (pages_of k c.bytes)) (sym (pages_many (min c.budget (whole_pages c.bytes)) c.bytes))
  consumes_by false = refl

  pub call_consumes :
      record { state = (answered_to s c).state; subframes = (answered_to s c).subframes; dsms = (answered_to s c).dsms } ≡ replayed s (consumed_pages s c)
  unfolding replay
  call_consumes = consumes_by (eqb q 0)

called_is : (r : Run) (c : Call) → called r c ≡ onward r (consumed_pages r.state c)
unfolding replayed
called_is r c = ap (followed_by r) (call_consumes r.state c) ∙ sym (onward_start (consumed_pages r.state c) r)

-- Calls one after the other.
abbrev all_consumed : State → List Call → List (List ℕ)
all_consumed s [] = []
all_consumed s (c ∷ cs) = consumed_pages s c ++ all_consumed (answered_to s c).state cs

calls_are : (cs : List Call) (r : Run) → called_all r cs ≡ onward r (all_consumed r.state cs)
calls_are [] r = refl
calls_are (c ∷ cs) r =
    let rest : List (List ℕ) = all_consumed (answered_to r.state c).state cs in
    calls_are cs (called r c) ∙ ap (λ (x : Run). onward x rest) (called_is r c) ∙ sym (onward_append (consumed_pages r.state c) rest r)

-- The pages of bytes that are put together.
pub pages_join : (k m : ℕ) (a b : List ℕ) → length a ≡ 30 * k → pages_of (k + m) (a ++ b) ≡ pages_of k a ++ pages_of m b
unfolding pages_of
pages_join zero m [] b e = ap (λ (j : ℕ). pages_of j b) (zero-add m)
pages_join zero m (x ∷ a) b e = let e : suc (length a) ≡ 0 = e in absurd (omega arith)
pages_join (suc k) m a b e =
    let first : take 30 (a ++ b) ≡ take 30 a = take-append-le 30 a b (omega arith) in
    let rest : drop 30 (a ++ b) ≡ drop 30 a ++ b = drop-append-le 30 a b (omega arith) in
    let short : length (drop 30 a) ≡ 30 * k = rw length-drop (omega arith) in
    ap (λ (j : ℕ). pages_of j (a ++ b)) (suc-add k m) ∙ rw (first, rest, pages_join k m (drop 30 a) b short)

pages_taken : (k : ℕ) (bytes : List ℕ) → 30 * k ≤ length bytes → pages_of k bytes ≡ pages_of k (take (30 * k) bytes)
unfolding pages_of
pages_taken k bytes h =
    ap (λ (j : ℕ). pages_of j bytes) (sym (add-zero k)) ∙ ap (pages_of (k + 0)) (sym (take-append-drop (30 * k) bytes))
    ∙ pages_join k 0 (take (30 * k) bytes) (drop (30 * k) bytes) (length-take-le (30 * k) bytes h) ∙ append-nil (pages_of k (take (30 * k) bytes))

abbrev all_pages : List ℕ → List (List ℕ)
all_pages bytes = pages_of (whole_pages bytes) bytes

pages_first : (k : ℕ) (bytes rest : List ℕ) → 30 * k ≤ length bytes → pages_of k bytes ++ all_pages rest ≡ all_pages (take (30 * k) bytes ++ rest)
pages_first k bytes rest h =
    let first : List ℕ = take (30 * k) bytes in
    let long : length first ≡ 30 * k = length-take-le (30 * k) bytes h in
    let many : whole_pages (first ++ rest) ≡ k + whole_pages rest = ap (λ (j : ℕ). j / 30) (length-append first rest) ∙ rw long (omega arith) in
    ap (λ (l : List (List ℕ)). l ++ all_pages rest) (pages_taken k bytes h)
    ∙ sym (pages_join k (whole_pages rest) first rest long)
    ∙ sym (ap (λ (j : ℕ). pages_of j (first ++ rest)) many)

file_pages : (cs : List Call) (s : State) (tail : List ℕ) → length tail < 30 → all_consumed s cs ≡ all_pages (consumed_bytes s cs ++ tail)
unfolding pages_of
file_pages [] s tail l = let none : length tail / 30 ≡ 0 = omega arith in rw none
file_pages (c ∷ cs) s tail l =
    let k : ℕ = reported (answered_to s c).answer in
    let later : State = (answered_to s c).state in
    ap (λ (x : List (List ℕ)). pages_of k c.bytes ++ x) (file_pages cs later tail l)
    ∙ pages_first k c.bytes (consumed_bytes later cs ++ tail) (consumed_fit s c)
    ∙ ap all_pages (sym (append_assoc (take (30 * k) c.bytes) (consumed_bytes later cs) tail))

pub in_pieces : InPieces
unfolding replayed
in_pieces s file tail cs e l = calls_are cs (start s) ∙ ap (onward (start s)) (file_pages cs s tail l ∙ ap all_pages e)

-- A legal record with room.
good_first : (s : State) (n : ℕ) → Ready s n → (n ≤ most) × Good s (most - n)
good_first s n r =
    let l = legal s 0 refl r.not_refused in
    let f = few_each (plus s.totals n) r.room in (
      omega (arith, f.0),
      record {
        sound =
            record {
              some = l.some;
              few = l.few;
              in_weeks = l.in_weeks;
              in_week = l.in_week;
              pages_few = omega (arith, f.0);
              skipped_few = omega (arith, f.1);
              used_few = omega (arith, f.2);
              unused_few = omega (arith, f.3);
              subframes_few = omega (arith, f.4);
              dsms_few = omega (arith, f.5);
              silent_few = omega (arith, f.6);
            };
        collector = l.collector;
        dsms = record { d208 = l.d208; id_low = l.id_low };
      },
    )

good_ready : (s : State) (m n : ℕ) → Good s m → m + n ≤ most → Ready s n
good_ready s m n g l =
    let f = g.sound in
    record {
      not_refused = sym (admitted_call s m 0 g (omega arith) (omega arith));
      room =
          sym
          (all_few (plus s.totals n) (omega (arith, f.pages_few)) (omega (arith, f.skipped_few)) (omega (arith, f.used_few))
          (omega (arith, f.unused_few)) (omega (arith, f.subframes_few)) (omega (arith, f.dsms_few)) (omega (arith, f.silent_few)));
    }

module _ (s : State) (n : ℕ) (c : Call) (r : Ready s n) where
  abbrev o : Outcome
  o = answered_to s c

  few : n ≤ most
  few = (good_first s n r).0

  good : Good s (most - n)
  good = (good_first s n r).1

  legal_budget : c.budget ≤ 15 → o.answer ≡ gives (min c.budget (whole_pages c.bytes) ∷ [])
  legal_budget b =
      ap (λ (x : Outcome). x.answer) (sym (replay_done s c.bytes c.budget (admitted_call s (most - n) c.budget good (omega arith) b) refl refl refl))

  high_budget : 15 < c.budget → o ≡ record { state = s; answer = refused 7; subframes = []; dsms = [] }
  high_budget b =
      sym (replay_refused s c.bytes c.budget (high_budget_7 s (most - n) c.budget good (omega arith) b) (λ z. absurd (omega (arith, z))))

  ready_still : reported o.answer ≤ n → Ready o.state (n - reported o.answer)
  unfolding replayed
  ready_still l =
      let k : ℕ = reported o.answer in
      let qs : List (List ℕ) = consumed_pages s c in
      let many : length qs ≡ k = pages_many k c.bytes in
      let g : Good (replayed s qs).state (most - n + length qs) = good_onward qs (start s) (most - n) good in
      let same : (replayed s qs).state ≡ o.state = sym (ap (λ (x : Run). x.state) (call_consumes s c)) in
      good_ready o.state (most - n + k) (n - k) (rw (many, same) at g) (omega (arith, few))

pub calls_go_on : CallsGoOn
calls_go_on s n c r = record { legal_budget = legal_budget s n c r; high_budget = high_budget s n c r; ready_still = ready_still s n c r }

pub zeros_small : small (replicate 36 0) ≡ true
unfolding small
zeros_small = refl

-- a new record in range
pub good_first_page : (satellite week time : ℕ) (hkroot mack memory : List ℕ) → refusal (svn_gst_checks satellite week time) ≡ 0
    → length hkroot ≡ 540 → length mack ≡ 2160 → length memory ≡ 208 → Good (new satellite week time hkroot mack memory) 0
good_first_page satellite week time hkroot mack memory e lh lm ld =
    let f = none_fails (svn_gst_checks satellite week time) tt e in
    record {
      sound =
          record {
            some = ltb-false satellite 1 f.0;
            few = ltb-false 36 satellite f.1.0;
            in_weeks = ltb-false 4095 week f.1.1.0;
            in_week = ltb-false 604799 time f.1.1.1.0;
            pages_few = omega arith;
            skipped_few = omega arith;
            used_few = omega arith;
            unused_few = omega arith;
            subframes_few = omega arith;
            dsms_few = omega arith;
            silent_few = omega arith;
          };
      collector = record { h540 = lh; m2160 = lm; week_fits = omega arith; subframe_fits = omega arith; all_small = zeros_small };
      dsms = record { d208 = ld; id_low = omega arith };
    }

pub new_is_ready : NewIsReady
new_is_ready satellite week time n hkroot mack memory e lh lm ld l =
    good_ready (new satellite week time hkroot mack memory) 0 n (good_first_page satellite week time hkroot mack memory e lh lm ld) (omega arith)

-- what is asked of a page that is admitted is not refused
pub totals_say_used : TotalsSayUsed
unfolding used_answer refusal
totals_say_used s p e =
    let f = none_fails (feed_checks s p) tt e in
    rw (
      f.1.1.1.0,
      f.1.1.1.1.0,
      f.1.1.1.1.1.0,
      f.1.1.1.1.1.1.0,
      f.1.1.1.1.1.1.1.0,
      f.1.1.1.1.1.1.1.1.0,
      f.1.1.1.1.1.1.1.1.1.0,
    ) (yes_or_no (is_used s p))
  where
    yes_or_no : (b : Bool) → is_taken (cond b (gives []) nothing) ≡ b
    yes_or_no true = refl
    yes_or_no false = refl

pub example : Example
unfolding
    replayed and_then page_step is_counted skipped fed counted used_answer is_used later osnma fed_hkroot bit field refusal small changed used offered answer_at
    is_silent are_zeros feed_page view_page copied begun stored counted_blocks all finished taken feed_block kroot_blocks bytes_from
example =
    record {
      silent_answer = refl;
      twin_answer = refl;
      silent_subframes = refl;
      silent_dsms = refl;
      silent_totals = refl;
      twin_subframes = refl;
      twin_dsms = refl;
      twin_totals = refl;
    }
