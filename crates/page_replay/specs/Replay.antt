-- The page replay: document 01, "Page replay", and document 02, [2], "Silent satellites show up as complete".
-- Assumes nothing.
use Rattle.std.specs.Prelude.{ℕ, zero, suc, ◌+◌, ◌-◌, ◌/◌, ◌^◌, min, List, [], ◌∷◌, ◌++◌, Bool, true, false, cond, not, ◌&&◌, length, get_or, take, drop, leb, ltb, eqb}
use Rattle.layouts.specs.Answer.{Answer, refused, nothing, gives, Check, ◌when◌, refusal, copied}
use Rattle.layouts.specs.Gst.{svn_gst_checks}
use Rattle.layouts.specs.InavPage.{is_counted, osnma}
use Rattle.runs.specs.Runs.{after_all}
use Rattle.subframes.specs.Subframe.{Page, record_checks, used_answer, view, State as Subframes, new as new_subframes, Fed as SubframeFed, feed as feed_page}
use Rattle.dsms.specs.Dsm.{State as Dsms, new as new_dsms, Fed as DsmFed, feed as feed_block}

-- "two seconds apart": the time of a page, and of a subframe
pub record Time : Type 0 where
  pub week : ℕ
  pub time : ℕ

-- "Time wraps at 604,800 into the next week, 4,095 into 0."
unfoldable pub later : Time → Time
later t =
    cond (ltb (t.time + 2) 604800) (record { week = t.week; time = t.time + 2 })
    (record { week = cond (eqb t.week 4095) 0 (t.week + 1); time = t.time + 2 - 604800 })

-- a DSM that is complete: "`D id n` .. n its length in bytes"
pub record Dsm : Type 0 where
  pub id : ℕ
  pub bytes : ℕ

-- "Pages include skipped ones"; a page that counts is used where the subframe collector takes its word, and else unused; "silent subframes get their own
-- count"
pub record Totals : Type 0 where
  pub pages : ℕ
  pub skipped : ℕ
  pub used : ℕ
  pub unused : ℕ
  pub subframes : ℕ
  pub dsms : ℕ
  pub silent : ℕ

-- "the record of a running replay": the satellite, the time of the next page, the two collectors with their lent bytes, and the totals
pub record State : Type 0 where
  pub satellite : ℕ
  pub next : Time
  pub subframes : Subframes
  pub dsms : Dsms
  pub totals : Totals

abbrev pub no_totals : Totals
no_totals = record { pages = 0; skipped = 0; used = 0; unused = 0; subframes = 0; dsms = 0; silent = 0 }

-- a new one, of a satellite and the time of the first page
abbrev pub new : ℕ → ℕ → ℕ → List ℕ → List ℕ → List ℕ → State
new satellite week time hkroot mack memory =
    record {
      satellite = satellite;
      next = record { week = week; time = time };
      subframes = new_subframes hkroot mack;
      dsms = new_dsms memory;
      totals = no_totals;
    }

-- a new record, where satellite, week and first time are not refused with 2, 3, 4; "bytes or numbers that the form of an answer holds beside it are zero"
pub record Begun : Type 0 where
  pub state : State
  pub answer : Answer

unfoldable pub begun : ℕ → ℕ → ℕ → List ℕ → List ℕ → List ℕ → Begun
begun satellite week time hkroot mack memory =
    cond (eqb (refusal (svn_gst_checks satellite week time)) 0)
    (record { state = new satellite week time hkroot mack memory; answer = gives [] })
    (record { state = new 0 0 0 hkroot mack memory; answer = refused (refusal (svn_gst_checks satellite week time)) })

-- what the pages so far made of a replay: its state, and the subframes and DSMs that they completed
pub record Run : Type 0 where
  pub state : State
  pub subframes : List Time
  pub dsms : List Dsm

-- no page yet
abbrev pub start : State → Run
start s = record { state = s; subframes = []; dsms = [] }

-- "Others are skipped, and time still passes."
unfoldable pub skipped : State → Run
skipped s =
    record {
      state =
          record {
            satellite = s.satellite;
            next = later s.next;
            subframes = s.subframes;
            dsms = s.dsms;
            totals =
                record {
                  pages = s.totals.pages + 1;
                  skipped = s.totals.skipped + 1;
                  used = s.totals.used;
                  unused = s.totals.unused;
                  subframes = s.totals.subframes;
                  dsms = s.totals.dsms;
                  silent = s.totals.silent;
                };
          };
      subframes = [];
      dsms = [];
    }

-- the page as the subframe collector is fed it
abbrev pub fed_page : State → List ℕ → Page
fed_page s page = record { bytes = osnma page; satellite = s.satellite; week = s.next.week; time = s.next.time }

-- "An HKROOT message is also handed over whole, as its 15 bytes"; "HKROOT: NMA header, DSM header, 13-byte DSM block."
abbrev pub hkroot_of : Subframes → ℕ → List ℕ
hkroot_of s satellite = (copied 15 s.hkroot (view s 15 satellite)).bytes

unfoldable pub fed_hkroot : Dsms → List ℕ → DsmFed
fed_hkroot d m = feed_block d (get_or m 1 0) (take 13 (drop 2 m))

-- What a collector's answer completes. "A pair whose 75 bytes are all zero is to be answered "silent" in place of complete": it has a third number, and is
-- no completed subframe,
abbrev pub subframes_in : Answer → List Time
subframes_in (refused n) = []
subframes_in nothing = []
subframes_in (gives []) = []
subframes_in (gives (w ∷ [])) = []
subframes_in (gives (w ∷ t ∷ [])) = record { week = w; time = t } ∷ []
subframes_in (gives (w ∷ t ∷ n ∷ l)) = []

-- but a silent one.
abbrev pub silent_in : Answer → List Time
silent_in (refused n) = []
silent_in nothing = []
silent_in (gives []) = []
silent_in (gives (w ∷ [])) = []
silent_in (gives (w ∷ t ∷ [])) = []
silent_in (gives (w ∷ t ∷ n ∷ l)) = record { week = w; time = t } ∷ []

abbrev pub dsms_in : Answer → List Dsm
dsms_in (refused n) = []
dsms_in nothing = []
dsms_in (gives []) = []
dsms_in (gives (i ∷ [])) = []
dsms_in (gives (i ∷ t ∷ [])) = []
dsms_in (gives (i ∷ t ∷ n ∷ l)) = record { id = i; bytes = n } ∷ []

-- "Complete HKROOTs feed the DSM collector."; "a silent pair never reaches the DSM collector"
abbrev pub passed_on : List Time → Subframes → ℕ → Dsms → DsmFed
passed_on [] s satellite d = record { state = d; answer = nothing }
passed_on (t ∷ l) s satellite d = fed_hkroot d (hkroot_of s satellite)

-- a page is used where the subframe collector, asked before, says so
abbrev pub is_taken : Answer → Bool
is_taken (refused n) = false
is_taken nothing = false
is_taken (gives l) = true

abbrev pub one : Bool → ℕ
one true = 1
one false = 0

-- a page that counts, used or not, and what the two collectors made of it
unfoldable pub counted : State → Bool → SubframeFed → DsmFed → Run
counted s u f d =
    record {
      state =
          record {
            satellite = s.satellite;
            next = later s.next;
            subframes = f.state;
            dsms = d.state;
            totals =
                record {
                  pages = s.totals.pages + 1;
                  skipped = s.totals.skipped;
                  used = s.totals.used + one u;
                  unused = s.totals.unused + one (not u);
                  subframes = s.totals.subframes + length (subframes_in f.answer);
                  dsms = s.totals.dsms + length (dsms_in d.answer);
                  silent = s.totals.silent + length (silent_in f.answer);
                };
          };
      subframes = subframes_in f.answer;
      dsms = dsms_in d.answer;
    }

unfoldable pub fed : State → Page → Run
fed s p =
    let f = feed_page s.subframes p in
    counted s (is_taken (used_answer s.subframes p)) f (passed_on (subframes_in f.answer) f.state s.satellite s.dsms)

-- A page step.
unfoldable pub page_step : State → List ℕ → Run
page_step s page = cond (is_counted page) (fed s (fed_page s page)) (skipped s)

-- one more page
unfoldable pub and_then : Run → List ℕ → Run
and_then r page =
    record {
      state = (page_step r.state page).state;
      subframes = r.subframes ++ (page_step r.state page).subframes;
      dsms = r.dsms ++ (page_step r.state page).dsms;
    }

-- the pages one after the other
abbrev pub onward : Run → List (List ℕ) → Run
onward r pages = after_all and_then r pages

unfoldable pub replayed : State → List (List ℕ) → Run
replayed s pages = onward (start s) pages

-- "bare 30-byte I/NAV pages": the first n pages of some bytes
unfoldable pub pages_of : ℕ → List ℕ → List (List ℕ)
pages_of zero bytes = []
pages_of (suc n) bytes = take 30 bytes ∷ pages_of n (drop 30 bytes)

-- "the whole pages lent"
abbrev pub whole_pages : List ℕ → ℕ
whole_pages bytes = length bytes / 30

-- "A replay call consumes the smaller of its page budget and the whole pages lent"
abbrev pub consumed : List ℕ → ℕ → List (List ℕ)
consumed bytes budget = pages_of (min budget (whole_pages bytes)) bytes

-- "Totals handed in above 2^62 are 12"
abbrev pub most : ℕ
most = 2 ^ 62

unfoldable pub are_few : Totals → Bool
are_few t =
    leb t.pages most && leb t.skipped most && leb t.used most && leb t.unused most && leb t.subframes most && leb t.dsms most &&
    leb t.silent most

-- the same checks, each under that number
abbrev pub under : ℕ → List Check → List Check
under n [] = []
under n (c ∷ cs) = n when c.fails ∷ under n cs

-- 540, 2,160 and 208 bytes are lent, else 1; totals, "as is a satellite, week or time out of range in the record of a running replay", and a collector's
-- record out of range: 12; "A budget above 15 is 7"
abbrev pub replay_checks : State → ℕ → List Check
replay_checks s budget =
    1 when not (eqb (length s.dsms.memory) 208) ∷
    record_checks s.subframes ++
    (12 when ltb 15 s.dsms.id ∷
    12 when not (are_few s.totals) ∷
    under 12 (svn_gst_checks s.satellite s.next.week s.next.time) ++
    (7 when ltb 15 budget ∷ []))

-- "and reports that number"; a call "completes at most one subframe and one DSM, and answers them"
pub record Outcome : Type 0 where
  pub state : State
  pub answer : Answer
  pub subframes : List Time
  pub dsms : List Dsm

unfoldable pub replay : State → List ℕ → ℕ → Outcome
replay s bytes budget =
    cond (eqb (refusal (replay_checks s budget)) 0)
    (record {
      state = (replayed s (consumed bytes budget)).state;
      answer = gives (length (consumed bytes budget) ∷ []);
      subframes = (replayed s (consumed bytes budget)).subframes;
      dsms = (replayed s (consumed bytes budget)).dsms;
    })
    (record { state = s; answer = refused (refusal (replay_checks s budget)); subframes = []; dsms = [] })
