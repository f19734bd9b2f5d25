-- Demand 3, for subframes: "A collector, new at the start, recovers. Let pages be lost, doubled, reordered or altered, the clock jump and calls be refused,
-- with record and memory changed by these calls only. A run is the admitted pages from the first, or from one whose week or subframe differs from the one
-- before, up to the next such change. In it all answers and completed messages are those a new collector gives. A satellite's message pair comes out
-- exactly when its pages in the run first contain words 0 to 14 in that order, built from the earliest such choice." By document 02, [2], it comes out
-- complete or silent. Here of the definition `feed`; of the code in `SubframeHistory.antt`.
-- Assumes nothing.
use Rattle.std.specs.Prelude.{ℕ, zero, suc, ◌-◌, ◌*◌, ◌≤◌, List, [], ◌∷◌, ◌++◌, Bool, true, false, not, ◌&&◌, ◌≡◌, ◌↔◌, ◌⊎◌, length, get_or, take, drop, eqb}
use Rattle.layouts.specs.Answer.{Answer, refused, nothing, gives, shown, Check, ◌when◌, refusal}
use Rattle.layouts.specs.Gst.{svn_gst_checks}
use Rattle.subframes.specs.Subframe.{State, new, Page, Fed, word_of, subframe_of, zeros, complete, silent, out_of, feed, view}
use Rattle.runs.specs.Runs.{after_all, goes_on, run_before, run_with, run_of}
use Rattle.runs.specs.Rising.{Choice, Earliest}

-- A call is any page bytes, satellite, week and time. What it can be refused for after `new`, with 540 and 2,160 lent bytes, whatever came before: 12 never
-- comes up.
abbrev pub call_checks : Page → List Check
call_checks p = 1 when not (eqb (length p.bytes) 5) ∷ svn_gst_checks p.satellite p.week p.time

abbrev pub is_admitted : Page → Bool
is_admitted p = eqb (refusal (call_checks p)) 0

-- Runs are cut where week or subframe differs from the admitted call before.
abbrev pub same_subframe : Page → Page → Bool
same_subframe p q = eqb p.week q.week && eqb (subframe_of p.time) (subframe_of q.time)

abbrev pub before : List Page → Page → List Page
before r p = run_before is_admitted same_subframe r p

abbrev pub grown : List Page → Page → List Page
grown r p = run_with is_admitted same_subframe r p

abbrev pub run : List Page → List Page
run ps = run_of is_admitted same_subframe ps

-- the state after calls, the oldest first
abbrev pub after : State → List Page → State
after s ps = after_all (λ (t : State) (p : Page). (feed t p).state) s ps

-- the page is of that satellite and has that word
abbrev pub has_word : ℕ → Page → ℕ → Bool
has_word satellite p word = eqb p.satellite satellite && eqb (word_of p.time) word

abbrev pub no_page : Page
no_page = record { bytes = []; satellite = 0; week = 0; time = 0 }

-- the satellite's pages in a run contain words 0 to 14, in that order
abbrev pub Words : ℕ → List Page → Type 0
Words satellite r = Choice (has_word satellite) no_page r 0 15

-- "1 HKROOT byte, then 4 MACK bytes": the message of the first n words, from the page of each word
unfoldable pub hkroot_of : (ℕ → Page) → ℕ → List ℕ
hkroot_of page zero = []
hkroot_of page (suc n) = hkroot_of page n ++ take 1 (page n).bytes

unfoldable pub mack_of : (ℕ → Page) → ℕ → List ℕ
mack_of page zero = []
mack_of page (suc n) = mack_of page n ++ drop 1 (page n).bytes

-- the satellite's message of that size in its buffer
abbrev pub message : ℕ → ℕ → List ℕ → List ℕ
message size satellite buffer = take size (drop (size * (satellite - 1)) buffer)

-- The satellite's pair in memory is built from the earliest choice of its pages in the run.
pub record Built (s : State) (satellite : ℕ) (r : List Page) : Type 0 where
  pub choice : Words satellite r
  pub earliest : Earliest (has_word satellite) no_page choice
  pub hkroot_is : message 15 satellite s.hkroot ≡ hkroot_of (λ k. get_or r (choice.at k) no_page) 15
  pub mack_is : message 60 satellite s.mack ≡ mack_of (λ k. get_or r (choice.at k) no_page) 15

-- A pair comes out of a page's call: "complete, with time (week, 30 x subframe)"; document 02, [2]: "The recovery property now reads "complete or silent"."
abbrev pub ComesOut : Answer → Page → Type 0
ComesOut a p = (a ≡ complete p.week (subframe_of p.time)) ⊎ (a ≡ silent p.week (subframe_of p.time))

-- "A pair whose 75 bytes are all zero": built from the pages of a run at these positions
abbrev pub are_zeros : List Page → (ℕ → ℕ) → Bool
are_zeros r at = zeros (hkroot_of (λ k. get_or r (at k) no_page) 15) && zeros (mack_of (λ k. get_or r (at k) no_page) 15)

-- Two calls did the same: the answer, and what the viewer shows of each satellite after it.
pub record Alike (f g : Fed) : Type 0 where
  pub answer : f.answer ≡ g.answer
  pub view_is : (size satellite : ℕ) → view f.state size satellite ≡ view g.state size satellite
  pub hkroot_is : (satellite : ℕ) → shown f.state.hkroot (view f.state 15 satellite) ≡ shown g.state.hkroot (view g.state 15 satellite)
  pub mack_is : (satellite : ℕ) → shown f.state.mack (view f.state 60 satellite) ≡ shown g.state.mack (view g.state 60 satellite)

-- What the viewer shows of a satellite at the end of a run: its pair where its words are there, and nothing else. (`shown` are the bytes of its place,
-- `message`.)
pub record Viewed (s : State) (r : List Page) (satellite : ℕ) : Type 0 where
  pub pair : Words satellite r → Built s satellite r × ((size : ℕ) → view s size satellite ≡ gives (size * (satellite - 1) ∷ size ∷ []))
  pub none : (Words satellite r → ⊥) → (size : ℕ) → view s size satellite ≡ nothing

-- What holds of a call p that gave f, where the calls before it led to the state s and left the run r. Here f is what the definition gives (`feed s p`); in
-- `SubframeHistory.antt` it is what the code gave.
pub record Recovers (s : State) (r : List Page) (p : Page) (f : Fed) : Type 0 where
  -- (a) in each run the answers and the completed messages are those of a new collector, with any memory, that is fed that run alone
  pub like_new : (hkroot mack : List ℕ) → length hkroot ≡ 540 → length mack ≡ 2160 → is_admitted p ≡ true
      → Alike f (feed (after (new hkroot mack) (before r p)) p)
  -- (b) the pair comes out exactly when the satellite's pages in the run contain words 0 to 14 in that order, and had not before; else nothing does
  pub exactly_when : is_admitted p ≡ true → ComesOut f.answer p ↔ (Words p.satellite (grown r p) × (Words p.satellite (before r p) → ⊥))
  pub else_nothing : is_admitted p ≡ true → (ComesOut f.answer p → ⊥) → f.answer ≡ nothing
  -- (c) built from the earliest such choice
  pub earliest : is_admitted p ≡ true → ComesOut f.answer p → Built f.state p.satellite (grown r p)
  -- "is to be answered "silent" in place of complete": the bytes of the earliest choice alone decide which of the two
  pub said : is_admitted p ≡ true → (q : Words p.satellite (grown r p)) → Earliest (has_word p.satellite) no_page q
      → (Words p.satellite (before r p) → ⊥) → f.answer ≡ out_of (are_zeros (grown r p) q.at) p.week (subframe_of p.time)
  -- (d) the viewer shows it from then until the next change, and nothing before
  pub viewed : is_admitted p ≡ true → (satellite : ℕ) → 1 ≤ satellite → satellite ≤ 36 → Viewed f.state (grown r p) satellite
  pub until_changed : goes_on is_admitted same_subframe r p ≡ true → (satellite : ℕ) → 1 ≤ satellite → satellite ≤ 36 → Words satellite r
      → (message 15 satellite f.state.hkroot ≡ message 15 satellite s.hkroot) × (message 60 satellite f.state.mack ≡ message 60 satellite s.mack)
  -- (e) a refused call changes nothing, and its number depends on the call alone
  pub refused_call : is_admitted p ≡ false → f ≡ record { state = s; answer = refused (refusal (call_checks p)) }

-- From a new record and any 540 and 2,160 bytes, after any calls. (Any other number of lent bytes is refused with 1 at every call: `feed`.)
abbrev pub SubframesRecover : Type 0
SubframesRecover =
    (hkroot mack : List ℕ) → length hkroot ≡ 540 → length mack ≡ 2160 → (ps : List Page) (p : Page)
    → Recovers (after (new hkroot mack) ps) (run ps) p (feed (after (new hkroot mack) ps) p)

-- Between the calls, and also after refused ones: the viewer shows of each satellite what the last run has.
abbrev pub SubframesShow : Type 0
SubframesShow =
    (hkroot mack : List ℕ) → length hkroot ≡ 540 → length mack ≡ 2160 → (ps : List Page) (satellite : ℕ) → 1 ≤ satellite → satellite ≤ 36
    → Viewed (after (new hkroot mack) ps) (run ps) satellite
