-- Demand 3, of the page replay's code: what holds of any history of calls of `new` and `replay`, each of which did what it promises (`ReplayPromises.antt`).
-- "A collector, new at the start, recovers. Let pages be lost, doubled, reordered or altered, the clock jump and calls be refused, with record and memory
-- changed by these calls only."
-- Assumes nothing.
use Rattle.std.specs.Prelude.{ℕ, ◌≤◌, min, List, [], ◌∷◌, ◌++◌, true, false, cond, ◌≡◌, length, get_or, take, drop, replicate, ltb}
use Rattle.std.specs.Prelude.{Result, Ok, Err, Some, None, ⊤}
use Rattle.layouts.specs.declared.refusal.Refusal.{Refusal}
use Rattle.layouts.specs.declared.refusal.Refusal.TheVariants.{SliceLength, Argument, RecordRange}
use Rattle.layouts.specs.Answer.{Answer, refused, gives, refusal}
use Rattle.layouts.specs.Gst.{svn_gst_checks}
use Rattle.layouts.specs.InavPage.{is_counted, osnma}
use Rattle.subframes.specs.Subframe.{Page, State as Subframes, new as new_subframes, feed as feed_page}
use Rattle.subframes.specs.SubframePromises.{state as subframe_state}
use Rattle.subframes.specs.SubframeRecovery.{is_admitted as is_admitted_page, after as after_pages, run as run_of_pages, Words, Recovers as PageRecovers}
use Rattle.subframes.specs.SubframeHistory.{History as SubframeHistory, ShowsPair, ShowsNone}
use Rattle.dsms.specs.Dsm.{State as Dsms, new as new_dsms}
use Rattle.dsms.specs.DsmPromises.{state as dsm_state}
use Rattle.dsms.specs.DsmRecovery.{Call as Block, is_admitted as is_admitted_block, fed_to, after as after_blocks, run as run_of_blocks, Recovers as BlockRecovers}
use Rattle.dsms.specs.DsmHistory.{History as DsmHistory, Shows as ShowsDsm}
use Rattle.page_replay.specs.Replay.{Time, later, Dsm, Run, hkroot_of, subframes_in, silent_in, dsms_in, pages_of, whole_pages, most, replayed}
use Rattle.page_replay.specs.Pieces.{reported, good_page, last_page}
use Rattle.page_replay.specs.ReplayPromises.{state, meaning_replay, meaning_subframes, meaning_dsms, BeginReplay, ReplayPages}
use Rattle.page_replay.specs.declared.replay.PageReplay.{PageReplay}
use Rattle.page_replay.specs.declared.replay.NewReplay.{NewReplay}
use Rattle.page_replay.specs.declared.replay.Replayed.{Replayed}

-- How it began: the record that `new` handed back, and the memory then.
pub record Beginning : Type 0 where
  pub replay : PageReplay
  pub hkroot : List ℕ
  pub mack : List ℕ
  pub memory : List ℕ

-- lent bytes that are not 540, 2,160 and 208
abbrev pub Misfit : List ℕ → List ℕ → List ℕ → Type 0
Misfit hkroot mack memory = (length hkroot ≡ 540) × (length mack ≡ 2160) × (length memory ≡ 208) → ⊥

-- What the caller holds after some calls: the record and the memory; the pages that they consumed, the oldest first; the subframes and DSMs that they answered.
pub data History (b : Beginning) : PageReplay → List ℕ → List ℕ → List ℕ → List (List ℕ) → List Time → List Dsm → Type 0 where
  -- "new at the start", with any memory. (A record of zeros, where `new` is refused, is refused with 12 at every call.)
  begun : (satellite week time : ℕ) (a : Result ⊤ Refusal) → BeginReplay satellite week time (record { replay = b.replay; answer = a })
      → length b.hkroot ≡ 540 → length b.mack ≡ 2160 → length b.memory ≡ 208
      → History b b.replay b.hkroot b.mack b.memory [] [] []
  -- a call with the record and the memory as they are, with any bytes and any budget: "and reports that number", which is none where it is refused
  called : {c : PageReplay} {hkroot mack memory : List ℕ} {pages : List (List ℕ)} {subframes : List Time} {dsms : List Dsm}
      → History b c hkroot mack memory pages subframes dsms
      → (bytes : List ℕ) (budget : ℕ) (r : Replayed) (hkroot' mack' memory' : List ℕ)
      → ReplayPages c hkroot mack memory bytes budget r hkroot' mack' memory'
      → History b r.replay hkroot' mack' memory' (pages ++ pages_of (reported (meaning_replay r.answer)) bytes)
      (subframes ++ meaning_subframes r.subframe) (dsms ++ meaning_dsms r.dsm)
  -- a call that was lent bytes x, y and z of other lengths, wherever they lie: `hkroot`, `mack` and `memory` say what the memory is where the lent bytes are
  -- these (it holds them as a part, or they lie elsewhere and it does not depend on them)
  misfit : {c : PageReplay} {x y z : List ℕ} {pages : List (List ℕ)} {subframes : List Time} {dsms : List Dsm}
      (hkroot mack memory : List ℕ → List ℕ → List ℕ → List ℕ)
      → History b c (hkroot x y z) (mack x y z) (memory x y z) pages subframes dsms → Misfit x y z
      → (bytes : List ℕ) (budget : ℕ) (r : Replayed) (x' y' z' : List ℕ) → ReplayPages c x y z bytes budget r x' y' z'
      → History b r.replay (hkroot x' y' z') (mack x' y' z') (memory x' y' z') pages subframes dsms

-- "A page counts if ..; OSNMA is bits 138..177. Others are skipped, and time still passes.": the pages that the subframe collector is fed
abbrev pub fed_as : ℕ → Time → List ℕ → List Page
fed_as satellite t page =
    cond (is_counted page) (record { bytes = osnma page; satellite = satellite; week = t.week; time = t.time } ∷ []) []

unfoldable pub fed_from : ℕ → Time → List (List ℕ) → List Page
fed_from satellite t [] = []
fed_from satellite t (page ∷ pages) = fed_as satellite t page ++ fed_from satellite (later t) pages

-- "Complete HKROOTs feed the DSM collector.": the blocks that it is fed
abbrev pub block_in : List ℕ → Block
block_in m = record { header = get_or m 1 0; block = take 13 (drop 2 m) }

abbrev pub blocks_in : List Time → Subframes → ℕ → List Block
blocks_in [] s satellite = []
blocks_in (t ∷ l) s satellite = block_in (hkroot_of s satellite) ∷ []

unfoldable pub blocks_from : Subframes → List Page → List Block
blocks_from s [] = []
blocks_from s (p ∷ ps) = blocks_in (subframes_in (feed_page s p).answer) (feed_page s p).state p.satellite ++ blocks_from (feed_page s p).state ps

-- what a collector answers to them, one by one
unfoldable pub times_from : (Answer → List Time) → Subframes → List Page → List Time
times_from told s [] = []
times_from told s (p ∷ ps) = told (feed_page s p).answer ++ times_from told (feed_page s p).state ps

abbrev pub subframes_from : Subframes → List Page → List Time
subframes_from s ps = times_from subframes_in s ps

abbrev pub silent_from : Subframes → List Page → List Time
silent_from s ps = times_from silent_in s ps

unfoldable pub dsms_from : Dsms → List Block → List Dsm
dsms_from d [] = []
dsms_from d (c ∷ cs) = dsms_in (fed_to d c).answer ++ dsms_from (fed_to d c).state cs

-- of a history: two new collectors, and the pages and blocks that they were fed
abbrev pub first_subframes : Beginning → Subframes
first_subframes b = new_subframes b.hkroot b.mack

abbrev pub first_dsms : Beginning → Dsms
first_dsms b = new_dsms b.memory

abbrev pub pages_fed : Beginning → List (List ℕ) → List Page
pages_fed b pages = fed_from b.replay.next.satellite (record { week = b.replay.next.week; time = b.replay.next.time }) pages

abbrev pub blocks_fed : Beginning → List (List ℕ) → List Block
blocks_fed b pages = blocks_from (first_subframes b) (pages_fed b pages)

-- What holds after a history.
pub record Recovered (b : Beginning) (c : PageReplay) (hkroot mack memory : List ℕ) (pages : List (List ℕ)) (times : List Time) (dsms : List Dsm) : Type 0 where
  -- the calls did what one run over all pages that they consumed does
  pub one_run : ◌≡◌ {A = Run} (record { state = state c hkroot mack memory; subframes = times; dsms = dsms })
      (replayed (state b.replay b.hkroot b.mack b.memory) pages)
  -- the collectors are as new ones that were fed the pages and the blocks one by one, and these answered what the calls did
  pub subframes_are : subframe_state c.subframes hkroot mack ≡ after_pages (first_subframes b) (pages_fed b pages)
  pub dsms_are : dsm_state c.dsms memory ≡ after_blocks (first_dsms b) (blocks_fed b pages)
  pub subframes_answered : times ≡ subframes_from (first_subframes b) (pages_fed b pages)
  pub dsms_answered : dsms ≡ dsms_from (first_dsms b) (blocks_fed b pages)
  -- "silent subframes get their own count": how many of its answers were silent
  pub silent_counted : c.silent ≡ length (silent_from (first_subframes b) (pages_fed b pages))
  -- the collectors refuse none of them
  pub page_admitted : (ps qs : List Page) (p : Page) → pages_fed b pages ≡ ps ++ (p ∷ qs) → is_admitted_page p ≡ true
  pub block_admitted : (cs es : List Block) (d : Block) → blocks_fed b pages ≡ cs ++ (d ∷ es) → is_admitted_block d ≡ true
  -- each page and each block recovers: "In it all answers and completed messages are those a new collector gives. .."
  pub page_recovers : (ps qs : List Page) (p : Page) → pages_fed b pages ≡ ps ++ (p ∷ qs)
      → let s = after_pages (first_subframes b) ps in PageRecovers s (run_of_pages ps) p (feed_page s p)
  pub block_recovers : (cs es : List Block) (d : Block) → blocks_fed b pages ≡ cs ++ (d ∷ es)
      → let s = after_blocks (first_dsms b) cs in BlockRecovers s (run_of_blocks cs) d (fed_to s d)
  -- the record's collectors and the memory are what histories of the collectors' own calls leave, so that all that `CodeRecovers` of `subframes` and of
  -- `dsms` say holds of them
  pub subframe_history : SubframeHistory c.subframes hkroot mack (pages_fed b pages)
  pub dsm_history : DsmHistory c.dsms memory (blocks_fed b pages)
  -- among it what their viewers show: a satellite's pair from the earliest choice where its words are there, and the DSM of the last run where it is whole
  pub shows_pair : (satellite : ℕ) → 1 ≤ satellite → satellite ≤ 36 → Words satellite (run_of_pages (pages_fed b pages))
      → ShowsPair c.subframes hkroot mack (run_of_pages (pages_fed b pages)) satellite
  pub shows_none : (satellite : ℕ) → 1 ≤ satellite → satellite ≤ 36 → (Words satellite (run_of_pages (pages_fed b pages)) → ⊥)
      → ShowsNone c.subframes hkroot mack satellite None
  pub shows_dsm : ShowsDsm c.dsms memory (run_of_blocks (blocks_fed b pages))

abbrev pub ReplayRecovers : Type 0
ReplayRecovers =
    (b : Beginning) (c : PageReplay) (hkroot mack memory : List ℕ) (pages : List (List ℕ)) (subframes : List Time) (dsms : List Dsm)
    → History b c hkroot mack memory pages subframes dsms → Recovered b c hkroot mack memory pages subframes dsms

-- A call after a history gets its number: 7 for a budget above 15 and no other, as long as no total can be above 2^62; 12 always, where `new` was refused.
abbrev pub refused_start : Beginning → ℕ
refused_start b = refusal (svn_gst_checks b.replay.next.satellite b.replay.next.week b.replay.next.time)

pub record CallAnswers (b : Beginning) (pages : List (List ℕ)) (bytes : List ℕ) (budget : ℕ) (r : Replayed) : Type 0 where
  pub in_range : refused_start b ≡ 0 → length pages ≤ most
      → meaning_replay r.answer ≡ cond (ltb 15 budget) (refused 7) (gives (min budget (whole_pages bytes) ∷ []))
  pub never_began : (refused_start b ≡ 0 → ⊥) → (pages ≡ []) × (r.answer ≡ Err RecordRange)

abbrev pub CallsAnswered : Type 0
CallsAnswered =
    (b : Beginning) (c : PageReplay) (hkroot mack memory : List ℕ) (pages : List (List ℕ)) (subframes : List Time) (dsms : List Dsm)
    → History b c hkroot mack memory pages subframes dsms
    → (bytes : List ℕ) (budget : ℕ) (r : Replayed) (hkroot' mack' memory' : List ℕ)
    → ReplayPages c hkroot mack memory bytes budget r hkroot' mack' memory' → CallAnswers b pages bytes budget r

-- A call of which any record was handed in, that is refused: record and lent bytes are as before.
pub record Unchanged (c : PageReplay) (hkroot mack memory : List ℕ) (r : Replayed) (hkroot' mack' memory' : List ℕ) : Type 0 where
  pub record_is : r.replay ≡ c
  pub hkroot_is : hkroot' ≡ hkroot
  pub mack_is : mack' ≡ mack
  pub memory_is : memory' ≡ memory
  pub no_subframe : r.subframe ≡ None
  pub no_dsm : r.dsm ≡ None

abbrev pub RefusedChangesNothing : Type 0
RefusedChangesNothing =
    (c : PageReplay) (hkroot mack memory bytes : List ℕ) (budget : ℕ) (r : Replayed) (hkroot' mack' memory' : List ℕ) (e : Refusal)
    → ReplayPages c hkroot mack memory bytes budget r hkroot' mack' memory' → r.answer ≡ Err e
    → Unchanged c hkroot mack memory r hkroot' mack' memory'

abbrev pub MisfitIsRefused : Type 0
MisfitIsRefused =
    (c : PageReplay) (x y z bytes : List ℕ) (budget : ℕ) (r : Replayed) (x' y' z' : List ℕ) → Misfit x y z
    → ReplayPages c x y z bytes budget r x' y' z' → (r.answer ≡ Err SliceLength) × Unchanged c x y z r x' y' z'

-- No premise is empty: whatever is handed in, each call has an answer that meets its promise.
pub record AnyCalls : Type 0 where
  pub new : (satellite week time : ℕ) → (r : NewReplay) × BeginReplay satellite week time r
  pub replay : (c : PageReplay) (hkroot mack memory bytes : List ℕ) (budget : ℕ)
      → (r : Replayed) × (hkroot' : List ℕ) × (mack' : List ℕ) × (memory' : List ℕ) × ReplayPages c hkroot mack memory bytes budget r hkroot' mack' memory'

-- The smallest case: "Fifteen good pages with a zero field, satellite 3, week 1200, time 60", and after the seventh a call with a budget of 16.
abbrev pub zeros : Beginning
zeros =
    record {
      replay =
          record {
            next = record { satellite = 3; week = 1200; time = 60 };
            subframes = record { week = 0; subframe = 0; counts = replicate 36 0 };
            dsms = record { id = 0; came = false; held = replicate 16 false; done = false };
            pages = 0;
            skipped = 0;
            used = 0;
            unused = 0;
            subframes_done = 0;
            dsms_done = 0;
            silent = 0;
          };
      hkroot = replicate 540 0;
      mack = replicate 2160 0;
      memory = replicate 208 0;
    }

abbrev pub joined : List (List ℕ) → List ℕ
joined [] = []
joined (page ∷ pages) = page ++ joined pages

abbrev pub good_pages : ℕ → List ℕ
good_pages n = joined (replicate n good_page)

-- It is refused with 7, and with the other eight the subframe is silent, or complete if the last byte is 1; with seven of them it is neither.
pub record SmallestCase : Type 0 where
  pub begins : BeginReplay 3 1200 60 (record { replay = zeros.replay; answer = Ok tt })
  pub comes_out_lem : {c : PageReplay} {hkroot mack memory : List ℕ} → History zeros c hkroot mack memory (replicate 7 good_page) [] []
      → (bytes : List ℕ) (r : Replayed) (hkroot' mack' memory' : List ℕ) → ReplayPages c hkroot mack memory bytes 16 r hkroot' mack' memory'
      → (q : Replayed) (hkroot'' mack'' memory'' : List ℕ) → ReplayPages r.replay hkroot' mack' memory' (good_pages 8) 15 q hkroot'' mack'' memory''
      → (r.answer ≡ Err Argument) × (q.answer ≡ Ok 8) × (q.subframe ≡ None) × (q.replay.silent ≡ 1)
  pub completes : {c : PageReplay} {hkroot mack memory : List ℕ} → History zeros c hkroot mack memory (replicate 7 good_page) [] []
      → (q : Replayed) (hkroot' mack' memory' : List ℕ) → ReplayPages c hkroot mack memory (good_pages 7 ++ last_page) 15 q hkroot' mack' memory'
      → (q.answer ≡ Ok 8) × (q.subframe ≡ Some (record { week = 1200; time = 60 })) × (q.replay.silent ≡ 0)
  pub stays_out : {c : PageReplay} {hkroot mack memory : List ℕ} → History zeros c hkroot mack memory (replicate 7 good_page) [] []
      → (q : Replayed) (hkroot' mack' memory' : List ℕ) → ReplayPages c hkroot mack memory (good_pages 7) 15 q hkroot' mack' memory'
      → (q.answer ≡ Ok 7) × (q.subframe ≡ None) × (q.replay.silent ≡ 0)
