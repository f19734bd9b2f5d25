-- What is also shown of the page replay, over the fold of page steps and over sequences of calls.
-- Assumes nothing.
use Rattle.std.specs.Prelude.{ℕ, ◌+◌, ◌-◌, ◌*◌, ◌≤◌, ◌<◌, min, List, [], ◌∷◌, ◌++◌, true, false, ◌≡◌, length, take, replicate}
use Rattle.layouts.specs.Answer.{Answer, refused, nothing, gives, refusal}
use Rattle.layouts.specs.Gst.{svn_gst_checks}
use Rattle.runs.specs.Runs.{after_all}
use Rattle.layouts.specs.InavPage.{is_counted}
use Rattle.subframes.specs.Subframe.{State as Subframes, Page, feed_checks, is_used, used_answer, complete, silent, feed as feed_page}
use Rattle.page_replay.specs.Replay.{State, Totals, new, Run, start, is_taken, fed_page, page_step, replayed, pages_of, whole_pages, most, are_few}
use Rattle.page_replay.specs.Replay.{replay_checks, Outcome, replay}

-- "A budget above 15 is 7, so a call completes at most one subframe and one DSM": so do fifteen pages, whatever they are, from any record
pub record AtMostOneEach (s : State) (r : Run) : Type 0 where
  pub subframe : length r.subframes ≤ 1
  pub dsm : length r.dsms ≤ 1
  -- and of completed and silent ones together there is at most one
  pub pair : length r.subframes + r.state.totals.silent ≤ 1 + s.totals.silent

abbrev pub OneOfEach : Type 0
OneOfEach = (s : State) (pages : List (List ℕ)) → length pages ≤ 15 → AtMostOneEach s (replayed s pages)

-- Document 02, [2]: a page that counts completes a subframe, or one is silent, exactly where the subframe collector has an answer
abbrev pub comes_out : Answer → ℕ
comes_out (refused n) = 0
comes_out nothing = 0
comes_out (gives l) = 1

pub record OnePair (s : State) (page : List ℕ) (t : Totals) : Type 0 where
  pub counted : is_counted page ≡ true
      → t.subframes + t.silent ≡ s.totals.subframes + s.totals.silent + comes_out (feed_page s.subframes (fed_page s page)).answer
  pub skipped : is_counted page ≡ false → t.subframes + t.silent ≡ s.totals.subframes + s.totals.silent

abbrev pub PairsCounted : Type 0
PairsCounted = (s : State) (page : List ℕ) → OnePair s page (page_step s page).state.totals

-- "a silent pair never reaches the DSM collector", and its count is its own: no subframe and no DSM is answered, the DSM collector is as it was
pub record StaysOut (s : State) (r : Run) : Type 0 where
  pub no_subframe : r.subframes ≡ []
  pub no_dsm : r.dsms ≡ []
  pub dsms_are : r.state.dsms ≡ s.dsms
  pub subframes_total : r.state.totals.subframes ≡ s.totals.subframes
  pub dsms_total : r.state.totals.dsms ≡ s.totals.dsms
  pub silent_total : r.state.totals.silent ≡ s.totals.silent + 1

abbrev pub SilentStaysOut : Type 0
SilentStaysOut =
    (s : State) (page : List ℕ) (week subframe : ℕ) → is_counted page ≡ true
    → (feed_page s.subframes (fed_page s page)).answer ≡ silent week subframe → StaysOut s (page_step s page)

-- "Pages include skipped ones": skipped plus used plus unused pages is all pages, and the other totals are how many were completed
pub record AddsUp (t : Totals) (r : Run) (n : ℕ) : Type 0 where
  pub all_pages_lem : r.state.totals.pages ≡ t.pages + n
  pub each_page : r.state.totals.skipped + r.state.totals.used + r.state.totals.unused ≡ t.skipped + t.used + t.unused + n
  pub all_subframes : r.state.totals.subframes ≡ t.subframes + length r.subframes
  pub all_dsms : r.state.totals.dsms ≡ t.dsms + length r.dsms

abbrev pub TotalsAddUp : Type 0
TotalsAddUp = (s : State) (pages : List (List ℕ)) → AddsUp s.totals (replayed s pages) (length pages)

-- from a new record
abbrev pub PagesAddUp : Type 0
PagesAddUp =
    (satellite week time : ℕ) (hkroot mack memory : List ℕ) (pages : List (List ℕ))
    → let t = (replayed (new satellite week time hkroot mack memory) pages).state.totals in t.pages ≡ t.skipped + t.used + t.unused

-- Pieces of any sizes: pages that are split anywhere make the same state, totals and lent bytes among it, and complete the same messages in the same order.
abbrev pub followed_by : Run → Run → Run
followed_by r x = record { state = x.state; subframes = r.subframes ++ x.subframes; dsms = r.dsms ++ x.dsms }

abbrev pub SplitAnywhere : Type 0
SplitAnywhere = (s : State) (ps qs : List (List ℕ)) → replayed s (ps ++ qs) ≡ followed_by (replayed s ps) (replayed (replayed s ps).state qs)

-- The same of calls of any budget and any bytes lent, each with the record and the lent memory that the call before it handed back.
pub record Call : Type 0 where
  pub bytes : List ℕ
  pub budget : ℕ

abbrev pub answered_to : State → Call → Outcome
answered_to s c = replay s c.bytes c.budget

-- the state, and what the calls answered
abbrev pub called : Run → Call → Run
called r c =
    let o = answered_to r.state c in
    followed_by r (record { state = o.state; subframes = o.subframes; dsms = o.dsms })

abbrev pub called_all : Run → List Call → Run
called_all r cs = after_all called r cs

-- "and reports that number": how many pages a call consumed; one that is refused consumes none
abbrev pub reported : Answer → ℕ
reported (refused n) = 0
reported nothing = 0
reported (gives []) = 0
reported (gives (n ∷ l)) = n

-- the bytes that the calls consume, one after the other
abbrev pub consumed_bytes : State → List Call → List ℕ
consumed_bytes s [] = []
consumed_bytes s (c ∷ cs) = take (30 * reported (answered_to s c).answer) c.bytes ++ consumed_bytes (answered_to s c).state cs

-- "A replay call consumes the smaller of its page budget and the whole pages lent": calls, refused ones among them, of which the consumed bytes are the file
-- without its tail, end where one run over all whole pages of the file ends, and answer what it completes
abbrev pub InPieces : Type 0
InPieces =
    (s : State) (file tail : List ℕ) (cs : List Call) → consumed_bytes s cs ++ tail ≡ file → length tail < 30
    → called_all (start s) cs ≡ replayed s (pages_of (whole_pages file) file)

-- a legal record whose totals stay legal for n pages
abbrev pub plus : Totals → ℕ → Totals
plus t n =
    record {
      pages = t.pages + n;
      skipped = t.skipped + n;
      used = t.used + n;
      unused = t.unused + n;
      subframes = t.subframes + n;
      dsms = t.dsms + n;
      silent = t.silent + n;
    }

pub record Ready (s : State) (n : ℕ) : Type 0 where
  pub not_refused : refusal (replay_checks s 0) ≡ 0
  pub room : are_few (plus s.totals n) ≡ true

-- of such a record a call of a legal budget is not refused, and it hands back such a record; "A budget above 15 is 7", and nothing else is refused
pub record GoesOn (s : State) (n : ℕ) (c : Call) : Type 0 where
  pub legal_budget : c.budget ≤ 15 → (answered_to s c).answer ≡ gives (min c.budget (whole_pages c.bytes) ∷ [])
  pub high_budget : 15 < c.budget → answered_to s c ≡ record { state = s; answer = refused 7; subframes = []; dsms = [] }
  pub ready_still : reported (answered_to s c).answer ≤ n → Ready (answered_to s c).state (n - reported (answered_to s c).answer)

abbrev pub CallsGoOn : Type 0
CallsGoOn = (s : State) (n : ℕ) (c : Call) → Ready s n → GoesOn s n c

-- a new record is ready, with lent bytes of any contents
abbrev pub NewIsReady : Type 0
NewIsReady =
    (satellite week time n : ℕ) (hkroot mack memory : List ℕ) → refusal (svn_gst_checks satellite week time) ≡ 0
    → length hkroot ≡ 540 → length mack ≡ 2160 → length memory ≡ 208 → n ≤ most
    → Ready (new satellite week time hkroot mack memory) n

-- a page that counts is called used exactly where the collector takes its word (`UsedIsTaken` of `subframes`)
abbrev pub TotalsSayUsed : Type 0
TotalsSayUsed = (s : Subframes) (p : Page) → refusal (feed_checks s p) ≡ 0 → is_taken (used_answer s p) ≡ is_used s p

-- "Fifteen good pages with a zero field, satellite 3, week 1200, time 60"; document 02, [2]: "document 01's listing becomes no S line and
-- `pages 15 skipped 0 subframes 0 dsms 0 silent 1 tail 0`"
abbrev pub good_page : List ℕ
good_page = replicate 15 0 ++ (128 ∷ replicate 14 0)

-- its twin: the last MACK byte is 1, which ends at bit 177
abbrev pub last_page : List ℕ
last_page = replicate 15 0 ++ (128 ∷ replicate 6 0 ++ (64 ∷ replicate 7 0))

-- fourteen of the first, and one more
abbrev pub fourteen : State
fourteen = (replayed (new 3 1200 60 (replicate 540 0) (replicate 2160 0) (replicate 208 0)) (replicate 14 good_page)).state

abbrev pub fifteen : List ℕ → Run
fifteen last = replayed (new 3 1200 60 (replicate 540 0) (replicate 2160 0) (replicate 208 0)) (replicate 14 good_page ++ (last ∷ []))

pub record Example : Type 0 where
  -- the answers of the subframe collector: what `SilentStaysOut` asks for, and what it does not
  pub silent_answer : (feed_page fourteen.subframes (fed_page fourteen good_page)).answer ≡ silent 1200 2
  pub twin_answer : (feed_page fourteen.subframes (fed_page fourteen last_page)).answer ≡ complete 1200 2
  pub silent_subframes : (fifteen good_page).subframes ≡ []
  pub silent_dsms : (fifteen good_page).dsms ≡ []
  pub silent_totals :
      (fifteen good_page).state.totals ≡ record { pages = 15; skipped = 0; used = 15; unused = 0; subframes = 0; dsms = 0; silent = 1 }
  pub twin_subframes : (fifteen last_page).subframes ≡ record { week = 1200; time = 60 } ∷ []
  pub twin_dsms : (fifteen last_page).dsms ≡ []
  pub twin_totals :
      (fifteen last_page).state.totals ≡ record { pages = 15; skipped = 0; used = 15; unused = 0; subframes = 1; dsms = 0; silent = 0 }
