-- The pages and the blocks that a replay feeds its collectors, one by one; they refuse none.
-- Assumes nothing.
use Prim.Native.Nat.{ℕ, ◌+◌, ◌-◌, ◌*◌, ◌≤◌}
use native.Mathlib.Nat.{add-zero}
use native.Mathlib.Omega.{arith}
use mathlib.Core.Path.{◌≡◌, refl, sym, ap, ◌∙◌, subst, subst⁻¹}
use mathlib.Core.List.{List, [], ◌∷◌, ◌++◌, append-nil, append_assoc}
use mathlib.Core.Bool.{Bool, true, false, cond}
use lib.ListN.{length, get_or, take, drop, replicate, length-append, length-take, length-drop}
use lib.Dec.{eqb}
use borrow.Author.Tests.{eq-eqb}
use Rattle.layouts.specs.Answer.{Answer, refused, nothing, gives, refusal, copied, shown_or}
use Rattle.layouts.specs.InavPage.{is_counted, osnma}
use Rattle.layouts.proofs.Tags.{bytes_long}
use Rattle.runs.specs.Runs.{after_all}
use Rattle.subframes.specs.Subframe.{Page, State as Subframes, feed as feed_page, view_checks, view as view_page}
use Rattle.subframes.specs.SubframePromises.{call}
use Rattle.subframes.proofs.SubframeSound.{Sound as Collecting, sound_fed}
use Rattle.subframes.specs.SubframeRecovery.{is_admitted as is_admitted_page, after as after_pages}
use Rattle.dsms.specs.Dsm.{State as Dsms}
use Rattle.dsms.specs.DsmRecovery.{Call as Block, is_admitted as is_admitted_block, fed_to, after as after_blocks}
use Rattle.page_replay.specs.Replay.{Time, later, Dsm, State, Run, start, hkroot_of, subframes_in, silent_in, dsms_in, passed_on, fed_hkroot, skipped, counted}
use Rattle.page_replay.specs.Replay.{fed_page, fed, page_step, and_then, replayed}
use Rattle.page_replay.specs.Pieces.{followed_by}
use Rattle.page_replay.specs.ReplayHistory.{fed_as, fed_from, blocks_in, blocks_from, times_from, subframes_from, silent_from, dsms_from, block_in}
use Rattle.page_replay.proofs.PageFold.{later_weeks, later_week}
use Rattle.page_replay.proofs.PagePieces.{split_anywhere}
use Rattle.page_replay.proofs.PageSteps.{start_admitted}

-- Lists of pages and blocks that are put together.
after_append : {S A : Type 0} (step : S → A → S) (s : S) (ps qs : List A) → after_all step s (ps ++ qs) ≡ after_all step (after_all step s ps) qs
after_append step s [] qs = refl
after_append step s (p ∷ ps) qs = after_append step (step s p) ps qs

blocks_append : (s : Subframes) (ps qs : List Page) → blocks_from s (ps ++ qs) ≡ blocks_from s ps ++ blocks_from (after_pages s ps) qs
unfolding blocks_from
blocks_append s [] qs = refl
blocks_append s (p ∷ ps) qs =
    let f = feed_page s p in
    let first = blocks_in (subframes_in f.answer) f.state p.satellite in
    ap (λ (l : List Block). first ++ l) (blocks_append f.state ps qs)
    ∙ sym (append_assoc first (blocks_from f.state ps) (blocks_from (after_pages f.state ps) qs))

times_append : (told : Answer → List Time) (s : Subframes) (ps qs : List Page)
    → times_from told s (ps ++ qs) ≡ times_from told s ps ++ times_from told (after_pages s ps) qs
unfolding times_from
times_append told s [] qs = refl
times_append told s (p ∷ ps) qs =
    let f = feed_page s p in
    ap (λ (l : List Time). told f.answer ++ l) (times_append told f.state ps qs)
    ∙ sym (append_assoc (told f.answer) (times_from told f.state ps) (times_from told (after_pages f.state ps) qs))

dsms_append : (d : Dsms) (cs es : List Block) → dsms_from d (cs ++ es) ≡ dsms_from d cs ++ dsms_from (after_blocks d cs) es
unfolding dsms_from
dsms_append d [] es = refl
dsms_append d (c ∷ cs) es =
    let f = fed_to d c in
    ap (λ (l : List Dsm). dsms_in f.answer ++ l) (dsms_append f.state cs es)
    ∙ sym (append_assoc (dsms_in f.answer) (dsms_from f.state cs) (dsms_from (after_blocks f.state cs) es))

-- From a state, what a run does that feeds these pages.
pub record Feeds (s : State) (ps : List Page) (r : Run) : Type 0 where
  pub subframes_is : r.state.subframes ≡ after_pages s.subframes ps
  pub dsms_is : r.state.dsms ≡ after_blocks s.dsms (blocks_from s.subframes ps)
  pub subframes_done : r.subframes ≡ subframes_from s.subframes ps
  pub silent_done : r.state.totals.silent ≡ s.totals.silent + length (silent_from s.subframes ps)
  pub dsms_done : r.dsms ≡ dsms_from s.dsms (blocks_from s.subframes ps)

passed_state : (l : List Time) (s : Subframes) (n : ℕ) (d : Dsms) → (passed_on l s n d).state ≡ after_blocks d (blocks_in l s n)
unfolding fed_hkroot
passed_state [] s n d = refl
passed_state (t ∷ l) s n d = refl

passed_done : (l : List Time) (s : Subframes) (n : ℕ) (d : Dsms) → dsms_in (passed_on l s n d).answer ≡ dsms_from d (blocks_in l s n)
unfolding fed_hkroot dsms_from
passed_done [] s n d = refl
passed_done (t ∷ l) s n d = sym (append-nil _)

fed_feeds : (s : State) (page : List ℕ) → Feeds s (fed_page s page ∷ []) (fed s (fed_page s page))
unfolding fed counted blocks_from times_from
fed_feeds s page =
    let f = feed_page s.subframes (fed_page s page) in
    let done = subframes_in f.answer in
    let one : blocks_from s.subframes (fed_page s page ∷ []) ≡ blocks_in done f.state s.satellite = append-nil _ in
    record {
      subframes_is = refl;
      dsms_is = passed_state done f.state s.satellite s.dsms ∙ ap (after_blocks s.dsms) (sym one);
      subframes_done = sym (append-nil done);
      silent_done = ap (λ (l : List Time). s.totals.silent + length l) (sym (append-nil (silent_in f.answer)));
      dsms_done = passed_done done f.state s.satellite s.dsms ∙ ap (dsms_from s.dsms) (sym one);
    }

none_fed : (s : State) → Feeds s [] (start s)
unfolding blocks_from times_from dsms_from
none_fed s =
    record { subframes_is = refl; dsms_is = refl; subframes_done = refl; silent_done = sym (add-zero s.totals.silent); dsms_done = refl }

skipped_feeds : (s : State) → Feeds s [] (skipped s)
unfolding skipped blocks_from times_from dsms_from
skipped_feeds s =
    record { subframes_is = refl; dsms_is = refl; subframes_done = refl; silent_done = sym (add-zero s.totals.silent); dsms_done = refl }

step_feeds : (s : State) (page : List ℕ) → Feeds s (fed_as s.satellite s.next page) (page_step s page)
unfolding page_step
step_feeds s page = go (is_counted page)
  where
    go : (b : Bool) → Feeds s (cond b (fed_page s page ∷ []) []) (cond b (fed s (fed_page s page)) (skipped s))
    go true = fed_feeds s page
    go false = skipped_feeds s

pub step_place : (s : State) (page : List ℕ) → ((page_step s page).state.satellite ≡ s.satellite) × ((page_step s page).state.next ≡ later s.next)
unfolding page_step fed counted skipped
step_place s page = go (is_counted page)
  where
    next : Bool → State
    next b = (cond b (fed s (fed_page s page)) (skipped s)).state

    go : (b : Bool) → ((next b).satellite ≡ s.satellite) × ((next b).next ≡ later s.next)
    go true = (refl, refl)
    go false = (refl, refl)

-- One run after another.
module _ (s : State) (ps qs : List Page) (r x : Run) (f : Feeds s ps r) (g : Feeds r.state qs x) where
  abbrev bs : List Block
  bs = blocks_from s.subframes ps

  abbrev es : List Block
  es = blocks_from (after_pages s.subframes ps) qs

  then_blocks : blocks_from r.state.subframes qs ≡ es
  then_blocks = ap (λ (t : Subframes). blocks_from t qs) f.subframes_is

  feeds_more : Feeds s (ps ++ qs) (followed_by r x)
  feeds_more =
      record {
        subframes_is =
            g.subframes_is ∙ ap (λ (t : Subframes). after_pages t qs) f.subframes_is
            ∙ sym (after_append (λ (t : Subframes) (p : Page). (feed_page t p).state) s.subframes ps qs);
        dsms_is =
            g.dsms_is ∙ ap (after_blocks r.state.dsms) then_blocks ∙ ap (λ (d : Dsms). after_blocks d es) f.dsms_is
            ∙ sym (after_append (λ (d : Dsms) (c : Block). (fed_to d c).state) s.dsms bs es)
            ∙ ap (after_blocks s.dsms) (sym (blocks_append s.subframes ps qs));
        subframes_done =
            ap (λ (l : List Time). l ++ x.subframes) f.subframes_done
            ∙ ap (λ (l : List Time). subframes_from s.subframes ps ++ l) (g.subframes_done ∙ ap (λ (t : Subframes). subframes_from t qs) f.subframes_is)
            ∙ sym (times_append subframes_in s.subframes ps qs);
        silent_done =
            let more = ap length (times_append silent_in s.subframes ps qs) ∙ length-append (silent_from s.subframes ps) _ in
            let then = ap (λ (t : Subframes). length (silent_from t qs)) f.subframes_is in
            omega (arith, f.silent_done, g.silent_done, more, then);
        dsms_done =
            ap (λ (l : List Dsm). l ++ x.dsms) f.dsms_done
            ∙ ap (λ (l : List Dsm). dsms_from s.dsms bs ++ l)
            (g.dsms_done ∙ ap (dsms_from r.state.dsms) then_blocks ∙ ap (λ (d : Dsms). dsms_from d es) f.dsms_is)
            ∙ sym (dsms_append s.dsms bs es) ∙ ap (dsms_from s.dsms) (sym (blocks_append s.subframes ps qs));
      }

pub one_more : (s : State) (page : List ℕ) (pages : List (List ℕ))
    → replayed s (page ∷ pages) ≡ followed_by (page_step s page) (replayed (page_step s page).state pages)
unfolding replayed and_then
one_more s page pages = split_anywhere s (page ∷ []) pages

pub replay_feeds : (pages : List (List ℕ)) (s : State) → Feeds s (fed_from s.satellite s.next pages) (replayed s pages)
unfolding fed_from replayed
replay_feeds [] s = none_fed s
replay_feeds (page ∷ pages) s =
    let x : State = (page_step s page).state in
    let place = step_place s page in
    let same : fed_from x.satellite x.next pages ≡ fed_from s.satellite (later s.next) pages =
    ap (λ (n : ℕ). fed_from n x.next pages) place.0 ∙ ap (λ (t : Time). fed_from s.satellite t pages) place.1 in
    let rest : Feeds x (fed_from s.satellite (later s.next) pages) (replayed x pages) =
    subst (λ (l : List Page). Feeds x l (replayed x pages)) same (replay_feeds pages x) in
    subst⁻¹ (λ (r : Run). Feeds s (fed_as s.satellite s.next page ++ fed_from s.satellite (later s.next) pages) r) (one_more s page pages)
    (feeds_more s (fed_as s.satellite s.next page) (fed_from s.satellite (later s.next) pages) (page_step s page) (replayed x pages)
    (step_feeds s page) rest)

-- The collectors refuse no page and no block.
abbrev pub Each : {A : Type 0} → (A → Type 0) → List A → Type 0
Each P [] = Unit {0}
Each P (x ∷ xs) = P x × Each P xs

each_append : {A : Type 0} (P : A → Type 0) (xs ys : List A) → Each P xs → Each P ys → Each P (xs ++ ys)
each_append P [] ys f g = g
each_append P (x ∷ xs) ys f g = (f.0, each_append P xs ys f.1 g)

pub each_at : {A : Type 0} (P : A → Type 0) (xs ys : List A) (x : A) → Each P (xs ++ (x ∷ ys)) → P x
each_at P [] ys x f = f.0
each_at P (y ∷ xs) ys x f = each_at P xs ys x f.1

pub record Fits (p : Page) : Type 0 where
  pub five : length p.bytes ≡ 5
  pub some : 1 ≤ p.satellite
  pub few : p.satellite ≤ 36
  pub in_weeks : p.week ≤ 4095
  pub in_week : p.time ≤ 604799

pub fits_admitted : (p : Page) → Fits p → is_admitted_page p ≡ true
unfolding refusal
fits_admitted p f =
    let z = start_admitted p.satellite p.week p.time f.some f.few f.in_weeks f.in_week in
    rw (eq-eqb (length p.bytes) 5 f.five) (eq-eqb _ 0 (sym z))

pub fed_fit : (pages : List (List ℕ)) (n : ℕ) (t : Time) → 1 ≤ n → n ≤ 36 → t.week ≤ 4095 → t.time ≤ 604799 → Each Fits (fed_from n t pages)
unfolding fed_from osnma
fed_fit [] n t l u v w = tt
fed_fit (page ∷ pages) n t l u v w =
    each_append Fits (fed_as n t page) (fed_from n (later t) pages) (go (is_counted page)) (fed_fit pages n (later t) l u (later_weeks t v) (later_week t w))
  where
    go : (b : Bool) → Each Fits (cond b (call (osnma page) n t.week t.time ∷ []) [])
    go true = (record { five = bytes_long page 138 5; some = l; few = u; in_weeks = v; in_week = w }, tt)
    go false = tt

hkroot_long : (s : Subframes) (n : ℕ) → Collecting s → 1 ≤ n → n ≤ 36 → length (hkroot_of s n) ≡ 15
unfolding copied view_page
hkroot_long s n k l u = go (eqb (refusal (view_checks s n)) 0) (eqb (get_or s.counts (n - 1) 0) 15)
  where
    go : (a b : Bool)
        → length (shown_or (replicate 15 0) s.hkroot (cond a (cond b (gives (15 * (n - 1) ∷ 15 ∷ [])) nothing) (refused (refusal (view_checks s n))))) ≡ 15
    go true true = simp (length-take, length-drop) (omega (arith, k.h540))
    go true false = refl
    go false b = refl

block_long : (m : List ℕ) → length m ≡ 15 → is_admitted_block (block_in m) ≡ true
block_long m l = eq-eqb (length (take 13 (drop 2 m))) 13 (simp (length-take, length-drop) (omega arith))

pub blocks_fit : (ps : List Page) (s : Subframes) → Collecting s → Each Fits ps → Each (λ (d : Block). is_admitted_block d ≡ true) (blocks_from s ps)
unfolding blocks_from
blocks_fit [] s k f = tt
blocks_fit (p ∷ ps) s k f =
    let x = feed_page s p in
    let on : Collecting x.state = sound_fed s p k in
    each_append (λ (d : Block). is_admitted_block d ≡ true) (blocks_in (subframes_in x.answer) x.state p.satellite) (blocks_from x.state ps)
    (go (subframes_in x.answer) (block_long (hkroot_of x.state p.satellite) (hkroot_long x.state p.satellite on f.0.some f.0.few)))
    (blocks_fit ps x.state on f.1)
  where
    t : Subframes
    t = (feed_page s p).state

    go : (l : List Time) → is_admitted_block (block_in (hkroot_of t p.satellite)) ≡ true
        → Each (λ (d : Block). is_admitted_block d ≡ true) (blocks_in l t p.satellite)
    go [] h = tt
    go (u ∷ l) h = (h, tt)
