-- Demand 3, for subframes, of the code: "A collector, new at the start, recovers. Let pages be lost, doubled, reordered or altered, the clock jump and
-- calls be refused, with record and memory changed by these calls only." What holds of any history of calls of the public functions, each of which did what
-- it promises.
-- Assumes nothing.
use Rattle.std.specs.Prelude.{ℕ, zero, suc, ◌+◌, ◌-◌, ◌*◌, ◌%◌, ◌≤◌, ◌<◌, List, [], ◌∷◌, ◌++◌, true, false, ◌≡◌, Bool, Result, Ok, Err, Option, Some, None, length, get_or, take, replicate}
use Rattle.layouts.specs.Answer.{refused, nothing, refusal}
use Rattle.layouts.specs.Gst.{svn_checks}
use Rattle.subframes.specs.Subframe.{State, new, Page, Fed, subframe_of, out_of, feed}
use Rattle.subframes.specs.Trace.{entries, feed_all}
use Rattle.subframes.specs.SubframePromises.{state, call, meaning_subframe, outcome, size_of}
use Rattle.subframes.specs.SubframePromises.{NewSubframe, FeedSubframe, IsUsed, ViewSubframeShown, CameOut, ViewSubframe, HkrootMessageRead}
use Rattle.subframes.specs.SubframeUsed.{new_one}
use Rattle.subframes.specs.TracePromises.{FeedAll}
use Rattle.subframes.specs.SubframeRecovery.{is_admitted, before, run, after, no_page, has_word, Words, hkroot_of, mack_of, are_zeros, Alike, Recovers}
use Rattle.runs.specs.Rising.{Earliest}
use Rattle.subframes.specs.declared.subframe.CollectSubframe.{CollectSubframe}
use Rattle.layouts.specs.declared.refusal.Refusal.{Refusal}
use Rattle.layouts.specs.declared.refusal.Refusal.TheVariants.{SliceLength, Satellite}
use Rattle.subframes.specs.declared.subframe.Pair.{Pair}
use Rattle.subframes.specs.declared.subframe.Pair.TheVariants.{Complete, Silent}
use Rattle.subframes.specs.declared.subframe.SubframeFed.{SubframeFed}
use Rattle.subframes.specs.declared.subframe.HkrootMessage.{HkrootMessage}
use Rattle.subframes.specs.declared.subframe.Message.{Message}
use Rattle.subframes.specs.declared.subframe.Message.TheVariants.{Hkroot, Mack}
use Rattle.layouts.specs.declared.part.Part.{Part}
use Rattle.subframes.specs.declared.trace.TraceFed.{TraceFed}

-- A call that takes the record and is lent memory to change: the record handed in and the lent bytes before it; the pages that it fed; the answer, the record
-- handed back and the lent bytes after it.
pub data Call (c : CollectSubframe) (hkroot mack : List ℕ) : List Page → Result (Option Pair) Refusal → CollectSubframe → List ℕ → List ℕ → Type 0 where
  -- `feed`: one page, refused or not
  one : (p : Page) (r : SubframeFed) (hkroot' mack' : List ℕ) → FeedSubframe c hkroot mack p r hkroot' mack'
      → Call c hkroot mack (p ∷ []) r.answer r.collector hkroot' mack'
  -- `feed_all`: as many entries of the trace as it consumed
  many : (trace : List ℕ) (r : TraceFed) (hkroot' mack' : List ℕ) → FeedAll c hkroot mack trace r hkroot' mack'
      → Call c hkroot mack (take r.consumed (entries trace)) r.answer r.collector hkroot' mack'

-- A call that only reads: the two viewers, the message by value, what has come out, and the question whether a page is used. It hands back neither record nor
-- memory.
pub data Look (c : CollectSubframe) (hkroot mack : List ℕ) : Type 0 where
  question : (m : Message) (satellite : ℕ) (r : Result (Option Part) Refusal) → ViewSubframeShown c hkroot mack m satellite r → Look c hkroot mack
  part : (m : Message) (satellite : ℕ) (bytes : List ℕ) → ViewSubframe c hkroot mack m satellite bytes → Look c hkroot mack
  whole : (satellite : ℕ) (r : Result (Option HkrootMessage) Refusal) → HkrootMessageRead c hkroot mack satellite r → Look c hkroot mack
  out : (satellite : ℕ) (r : Result (Option Pair) Refusal) → CameOut c hkroot mack satellite r → Look c hkroot mack
  used : (satellite week time : ℕ) (r : Result Bool Refusal) → IsUsed c satellite week time r → Look c hkroot mack

-- lent bytes that are not 540 and 2,160
abbrev pub Misfit : List ℕ → List ℕ → Type 0
Misfit hkroot mack = (length hkroot ≡ 540) × (length mack ≡ 2160) → ⊥

-- What the caller holds after some calls: the record, the memory, and the pages that were fed to them, the oldest first.
pub data History : CollectSubframe → List ℕ → List ℕ → List Page → Type 0 where
  -- "new at the start", with any memory
  begun : (c : CollectSubframe) (hkroot mack : List ℕ) → NewSubframe c → length hkroot ≡ 540 → length mack ≡ 2160 → History c hkroot mack []
  -- a call with the record and the memory as they are
  called : {c c' : CollectSubframe} {hkroot mack hkroot' mack' : List ℕ} {ps qs : List Page} {a : Result (Option Pair) Refusal} → History c hkroot mack ps
      → Call c hkroot mack qs a c' hkroot' mack' → History c' hkroot' mack' (ps ++ qs)
  -- a call that was lent bytes x and y of other lengths, wherever they lie: `hkroot` and `mack` say what the memory is where the lent bytes are these (it
  -- holds them as a part, or they lie elsewhere and it does not depend on them)
  misfit : {c c' : CollectSubframe} {x y x' y' : List ℕ} {ps qs : List Page} {a : Result (Option Pair) Refusal} (hkroot mack : List ℕ → List ℕ → List ℕ)
      → History c (hkroot x y) (mack x y) ps → Misfit x y → Call c x y qs a c' x' y' → History c' (hkroot x' y') (mack x' y') ps
  -- a call that only reads, whatever bytes it was lent
  looked : {c : CollectSubframe} {hkroot mack x y : List ℕ} {ps : List Page} → History c hkroot mack ps → Look c x y → History c hkroot mack ps

-- What the calls that only read give of a satellite at the end of a run r: the pair from the earliest choice where its words are there,
pub record ShowsPair (c : CollectSubframe) (hkroot mack : List ℕ) (r : List Page) (satellite : ℕ) : Type 0 where
  pub choice : Words satellite r
  pub earliest : Earliest (has_word satellite) no_page choice
  pub question : (m : Message) (a : Result (Option Part) Refusal) → ViewSubframeShown c hkroot mack m satellite a
      → a ≡ Ok (Some (record { first = size_of m * (satellite - 1); many = size_of m }))
  pub hkroot_part : (bytes : List ℕ) → ViewSubframe c hkroot mack Hkroot satellite bytes → bytes ≡ hkroot_of (λ k. get_or r (choice.at k) no_page) 15
  pub mack_part : (bytes : List ℕ) → ViewSubframe c hkroot mack Mack satellite bytes → bytes ≡ mack_of (λ k. get_or r (choice.at k) no_page) 15
  pub whole : (a : Result (Option HkrootMessage) Refusal) → HkrootMessageRead c hkroot mack satellite a
      → a ≡ Ok (Some (record { part = record { first = 15 * (satellite - 1); many = 15 }; bytes = hkroot_of (λ k. get_or r (choice.at k) no_page) 15 }))
  -- complete or silent, as the bytes of that choice decide, with the record's time
  pub out : (a : Result (Option Pair) Refusal) → CameOut c hkroot mack satellite a → meaning_subframe a ≡ out_of (are_zeros r choice.at) c.week c.subframe

-- and no bytes else: nothing, or refused
abbrev pub no_bytes : {A : Type 0} → Option Refusal → Result (Option A) Refusal
no_bytes None = Ok None
no_bytes (Some e) = Err e

pub record ShowsNone (c : CollectSubframe) (hkroot mack : List ℕ) (satellite : ℕ) (why : Option Refusal) : Type 0 where
  pub question : (m : Message) (a : Result (Option Part) Refusal) → ViewSubframeShown c hkroot mack m satellite a → a ≡ no_bytes why
  pub part : (m : Message) (bytes : List ℕ) → ViewSubframe c hkroot mack m satellite bytes → bytes ≡ []
  pub whole : (a : Result (Option HkrootMessage) Refusal) → HkrootMessageRead c hkroot mack satellite a → a ≡ no_bytes why
  pub out : (a : Result (Option Pair) Refusal) → CameOut c hkroot mack satellite a → a ≡ no_bytes why

-- A call of `feed` after a history of the pages ps.
pub record FeedRecovers (c : CollectSubframe) (hkroot mack : List ℕ) (ps : List Page) (p : Page) (r : SubframeFed) (hkroot' mack' : List ℕ) : Type 0 where
  -- (b) to (e), of the answer, the record and the bytes that the code gave
  pub recovers : Recovers (state c hkroot mack) (run ps) p (outcome r hkroot' mack')
  -- (a) "In it all answers and completed messages are those a new collector gives": any other history, of this run alone, and its call with the same page
  pub like_new : {d : CollectSubframe} {x y : List ℕ} → History d x y (before (run ps) p) → (q : SubframeFed) (x' y' : List ℕ)
      → FeedSubframe d x y p q x' y' → is_admitted p ≡ true → (r.answer ≡ q.answer) × Alike (outcome r hkroot' mack') (outcome q x' y')

-- entry k of a trace, fed after those before it: it gave f
abbrev pub EntryRecovers : CollectSubframe → List ℕ → List ℕ → List Page → List ℕ → ℕ → Fed → Type 0
EntryRecovers c hkroot mack ps trace k f =
    Recovers (after (state c hkroot mack) (take k (entries trace))) (run (ps ++ take k (entries trace))) (get_or (entries trace) k no_page) f

-- A call of `feed_all` after a history of the pages ps: it does what `feed`, called with one entry after the other, does.
pub record FeedAllRecovers (c : CollectSubframe) (hkroot mack : List ℕ) (ps : List Page) (trace : List ℕ) (r : TraceFed) (hkroot' mack' : List ℕ) : Type 0 where
  pub some : r.consumed ≤ length (entries trace)
  -- its state is that of the first `consumed` entries fed one by one
  pub state_is : state r.collector hkroot' mack' ≡ after (state c hkroot mack) (take r.consumed (entries trace))
  -- no entry before the last that was consumed brings anything
  pub before_last : (k : ℕ) → suc k < r.consumed
      → EntryRecovers c hkroot mack ps trace k (record { state = after (state c hkroot mack) (take (suc k) (entries trace)); answer = nothing })
  -- what is answered is the last one's
  pub last : (k : ℕ) → suc k ≡ r.consumed
      → EntryRecovers c hkroot mack ps trace k (record { state = state r.collector hkroot' mack'; answer = meaning_subframe r.answer })
  -- where none was consumed record and memory are as before
  pub none : r.consumed ≡ 0 → (r.collector ≡ c) × (hkroot' ≡ hkroot) × (mack' ≡ mack)
  -- of whole entries it stops short of the end only where a pair is complete or silent or the next entry is refused
  pub stops : length trace % 12 ≡ 0 → r.consumed < length (entries trace) → ((week time : ℕ) → r.answer ≡ Ok (Some (Complete week time)) → ⊥)
      → ((week time : ℕ) → r.answer ≡ Ok (Some (Silent week time)) → ⊥) → is_admitted (get_or (entries trace) r.consumed no_page) ≡ false
  -- and a trace that is not whole entries is refused with 1
  pub not_whole : (length trace % 12 ≡ 0 → ⊥) → (r.answer ≡ Err SliceLength) × (r.consumed ≡ 0)

-- A call of either function that is lent bytes of other lengths: refused with 1, and record and lent bytes are as before.
pub record MisfitRefused (c : CollectSubframe) (x y : List ℕ) (a : Result (Option Pair) Refusal) (c' : CollectSubframe) (x' y' : List ℕ) : Type 0 where
  pub answer : a ≡ Err SliceLength
  pub record_is : c' ≡ c
  pub hkroot_is : x' ≡ x
  pub mack_is : y' ≡ y

-- Whatever came before.
pub record CodeRecovers : Type 0 where
  -- (c), (d) "built from the earliest such choice": what the calls that only read hand out, from then until the next change, and nothing before
  pub shows_pair : {c : CollectSubframe} {hkroot mack : List ℕ} {ps : List Page} → History c hkroot mack ps
      → (satellite : ℕ) → 1 ≤ satellite → satellite ≤ 36 → Words satellite (run ps) → ShowsPair c hkroot mack (run ps) satellite
  pub shows_none : {c : CollectSubframe} {hkroot mack : List ℕ} {ps : List Page} → History c hkroot mack ps
      → (satellite : ℕ) → 1 ≤ satellite → satellite ≤ 36 → (Words satellite (run ps) → ⊥) → ShowsNone c hkroot mack satellite None
  -- a satellite that is refused, 2, and lent bytes of other lengths, 1
  pub shows_refused : {c : CollectSubframe} {hkroot mack : List ℕ} {ps : List Page} → History c hkroot mack ps
      → (satellite : ℕ) → (refusal (svn_checks satellite) ≡ 0 → ⊥) → ShowsNone c hkroot mack satellite (Some Satellite)
  pub shows_misfit : (c : CollectSubframe) (x y : List ℕ) (satellite : ℕ) → Misfit x y → ShowsNone c x y satellite (Some SliceLength)
  -- the record's week and subframe are those of every page of its run
  pub record_of_run : {c : CollectSubframe} {hkroot mack : List ℕ} {ps : List Page} → History c hkroot mack ps
      → (j : ℕ) → j < length (run ps) → (c.week ≡ (get_or (run ps) j no_page).week) × (c.subframe ≡ subframe_of (get_or (run ps) j no_page).time)
  pub feed_recovers : {c : CollectSubframe} {hkroot mack : List ℕ} {ps : List Page} → History c hkroot mack ps
      → (p : Page) (r : SubframeFed) (hkroot' mack' : List ℕ) → FeedSubframe c hkroot mack p r hkroot' mack'
      → FeedRecovers c hkroot mack ps p r hkroot' mack'
  pub feed_all_recovers : {c : CollectSubframe} {hkroot mack : List ℕ} {ps : List Page} → History c hkroot mack ps
      → (trace : List ℕ) (r : TraceFed) (hkroot' mack' : List ℕ) → FeedAll c hkroot mack trace r hkroot' mack'
      → FeedAllRecovers c hkroot mack ps trace r hkroot' mack'
  pub misfit_refused : {c c' : CollectSubframe} {x y x' y' : List ℕ} {qs : List Page} {a : Result (Option Pair) Refusal} → Misfit x y
      → Call c x y qs a c' x' y' → MisfitRefused c x y a c' x' y'

-- Of any pages there is a history: nothing that is asked of its calls rules any out.
abbrev pub AnyPages : Type 0
AnyPages =
    (hkroot mack : List ℕ) → length hkroot ≡ 540 → length mack ≡ 2160 → (ps : List Page)
    → (c : CollectSubframe) × (x : List ℕ) × (y : List ℕ) × History c x y ps

-- n pages of satellite 7, from that word on, all zeros
abbrev pub word_page : ℕ → Page
word_page word = call (replicate 5 0) 7 1200 (60 + 2 * word)

abbrev pub words_from : ℕ → ℕ → List Page
words_from word zero = []
words_from word (suc n) = word_page word ∷ words_from (suc word) n

-- word 14 with a last byte of 1
abbrev pub last_page : Page
last_page = call (0 ∷ 0 ∷ 0 ∷ 0 ∷ 1 ∷ []) 7 1200 88

-- word 7 with 4 bytes, which is refused
abbrev pub short_page : Page
short_page = call (replicate 4 0) 7 1200 74

-- a new collector's record, and so many HKROOT bytes lent
abbrev pub lent_of : ℕ → State
lent_of n = new (replicate n 0) (replicate 2160 0)

-- Fifteen of them contain words 0 to 14 in that order, fourteen do not.
pub record WordsExample : Type 0 where
  pub fifteen : Words 7 (run (words_from 0 15))
  pub fourteen : Words 7 (run (words_from 0 14)) → ⊥

-- Refused calls of each kind, at a new collector: each gets its number and changes nothing.
pub record RefusedCalls : Type 0 where
  pub four_bytes : feed new_one short_page ≡ record { state = new_one; answer = refused 1 }
  pub satellite_37 : feed new_one (call (replicate 5 0) 37 1200 60) ≡ record { state = new_one; answer = refused 2 }
  pub thirteen_bytes : feed_all new_one (replicate 13 0) ≡ record { state = new_one; answer = refused 1; consumed = 0 }
  pub lent_539 : feed (lent_of 539) (word_page 0) ≡ record { state = lent_of 539; answer = refused 1 }

-- The smallest case of a refused call in the middle: words 0 to 6, one call that lends 539 HKROOT bytes, words 7 to 14. The pair comes out.
pub record SmallestCase : Type 0 where
  -- it is refused, and the history goes on with the words that it had
  pub refused_between : {c : CollectSubframe} {hkroot mack : List ℕ} → History c hkroot mack (words_from 0 7)
      → (x : List ℕ) → length x ≡ 539 → (p : Page) (r : SubframeFed) (x' mack' : List ℕ) → FeedSubframe c x mack p r x' mack'
      → (r.answer ≡ Err SliceLength) × History r.collector hkroot mack' (words_from 0 7)
  -- so that words 7 to 13 make it a history of 14 words, and with the last one the pair comes out: silent, and with a last byte of 1 complete
  pub comes_out : {c : CollectSubframe} {hkroot mack : List ℕ} → History c hkroot mack (words_from 0 7 ++ words_from 7 7)
      → (r : SubframeFed) (hkroot' mack' : List ℕ) → FeedSubframe c hkroot mack (word_page 14) r hkroot' mack' → r.answer ≡ Ok (Some (Silent 1200 60))
  pub completes : {c : CollectSubframe} {hkroot mack : List ℕ} → History c hkroot mack (words_from 0 7 ++ words_from 7 7)
      → (r : SubframeFed) (hkroot' mack' : List ℕ) → FeedSubframe c hkroot mack last_page r hkroot' mack' → r.answer ≡ Ok (Some (Complete 1200 60))
  -- where the refused call was to bring word 7, with 4 bytes, the pair does not come out
  pub stays_out : {c : CollectSubframe} {hkroot mack : List ℕ} → History c hkroot mack (words_from 0 7 ++ (short_page ∷ words_from 8 6))
      → (r : SubframeFed) (hkroot' mack' : List ℕ) → FeedSubframe c hkroot mack (word_page 14) r hkroot' mack' → r.answer ≡ Ok None
