-- The MACK store: document 01, "MACK store". Everything is said over two numbers: how many messages a place has room for, and how many times (places) there
-- are. Document 01 has 36 and 12.
-- Assumes nothing.
use Rattle.std.specs.Prelude.{ℕ, zero, suc, ◌+◌, ◌*◌, List, [], ◌∷◌, ◌++◌, Bool, true, false, cond, not, ◌&&◌, length, get_or, set, replicate, leb, ltb, eqb}
use Rattle.layouts.specs.Gst.{svn_gst_checks}
use Rattle.layouts.specs.Lists.{put, all}
use Rattle.layouts.specs.Answer.{Answer, refused, nothing, gives, Check, ◌when◌, refusal, answered}

-- "The record holds the current place 0..11; for each place a time and a count 0..36, or none and 0; for each message held a satellite and an NMA status 0..3"
pub record Storage : Type 0 where
  pub current : ℕ
  -- of each place: whether it has a time, its week and time of week, and how many messages it holds
  pub timed : List Bool
  pub weeks : List ℕ
  pub tows : List ℕ
  pub counts : List ℕ
  -- of each message, in the order of the lent bytes
  pub satellites : List ℕ
  pub statuses : List ℕ

-- beside it the lent bytes: 25,920 in document 01
pub record State : Type 0 where
  pub storage : Storage
  pub memory : List ℕ

-- a new one: place 0, no times and no messages
abbrev pub new_storage : ℕ → ℕ → Storage
new_storage messages times =
    record {
      current = 0;
      timed = replicate times false;
      weeks = replicate times 0;
      tows = replicate times 0;
      counts = replicate times 0;
      satellites = replicate (messages * times) 0;
      statuses = replicate (messages * times) 0;
    }

-- "Message j of place p is the 60 bytes from 60(36p + j)."
abbrev pub entry : ℕ → ℕ → ℕ → ℕ
entry messages p j = messages * p + j

-- the first of the n numbers from i on for which the test holds; i + n where there is none
unfoldable pub first : (ℕ → Bool) → ℕ → ℕ → ℕ
first test zero i = i
first test (suc n) i = cond (test i) i (first test n (suc i))

-- What a legal record is. A message held has a satellite 1..36 and a status 0..3 ..
unfoldable pub legal_entry : ℕ → ℕ → Bool
legal_entry satellite status = leb 1 satellite && leb satellite 36 && leb status 3

-- .. a place has a time in range, or none and no message, and no more messages than there is room for. (What stands beside "no time" does not matter.)
unfoldable pub legal_time : ℕ → Bool → ℕ → ℕ → ℕ → Bool
legal_time messages timed week tow count = leb count messages && cond timed (leb week 4095 && leb tow 604799) (eqb count 0)

-- "Entries at or past a count don't matter.": of the messages from number `at` on, as many as the count says
unfoldable pub legal_entries : List ℕ → List ℕ → ℕ → ℕ → Bool
legal_entries satellites statuses at count = all (λ j. legal_entry (get_or satellites (at + j) 0) (get_or statuses (at + j) 0)) count

abbrev pub legal_place : ℕ → Storage → ℕ → Bool
legal_place messages o p =
    legal_time messages (get_or o.timed p false) (get_or o.weeks p 0) (get_or o.tows p 0) (get_or o.counts p 0)
    && legal_entries o.satellites o.statuses (messages * p) (get_or o.counts p 0)

unfoldable pub legal : ℕ → ℕ → Storage → Bool
legal messages times o = ltb o.current times && all (legal_place messages o) times

-- Whether a place that has a time, or none, has this one.
unfoldable pub is_time : Bool → ℕ → ℕ → ℕ → ℕ → Bool
is_time timed week tow w t = timed && eqb week w && eqb tow t

abbrev pub has_time : Storage → ℕ → ℕ → ℕ → Bool
has_time o week time p = is_time (get_or o.timed p false) (get_or o.weeks p 0) (get_or o.tows p 0) week time

-- What is asked for, and where a message is stored: a satellite and a time.
pub record Asked : Type 0 where
  pub satellite : ℕ
  pub week : ℕ
  pub time : ℕ

-- A call of `store`.
pub record Call : Type 0 where
  pub message : List ℕ
  pub asked : Asked
  pub status : ℕ

-- What is refused of the record, and of a satellite and a time: 12, 2, 3, 4
abbrev pub ask_checks : ℕ → ℕ → Storage → Asked → List Check
ask_checks messages times o a = 12 when not (legal messages times o) ∷ svn_gst_checks a.satellite a.week a.time

-- "a message is stored at the current place's time and that place has 36"
abbrev pub full : ℕ → Storage → ℕ → ℕ → Bool
full messages o week time = has_time o week time o.current && eqb (get_or o.counts o.current 0) messages

-- "a status above 3 given to a store is 7"
abbrev pub status_checks : ℕ → Bool → List Check
status_checks status isFull = 7 when ltb 3 status ∷ 10 when isFull ∷ []

-- 12, 2, 3, 4, 7, then 10 ..
abbrev pub entry_checks : ℕ → ℕ → Storage → Asked → ℕ → List Check
entry_checks messages times o a status = ask_checks messages times o a ++ status_checks status (full messages o a.week a.time)

-- .. after the lent bytes and the message: 1
abbrev pub store_checks : ℕ → ℕ → State → Call → List Check
store_checks messages times s c =
    1 when not (eqb (length s.memory) (60 * (messages * times)))
    ∷ 1 when not (eqb (length c.message) 60)
    ∷ entry_checks messages times s.storage c.asked c.status

-- "12 places in a ring": the place after p
unfoldable pub next_place : ℕ → ℕ → ℕ
next_place times p = cond (eqb (p + 1) times) 0 (p + 1)

-- "Storing at another time than the current place's moves to the next place and empties it; a current place without a time is just used."
abbrev pub moves : Storage → ℕ → ℕ → Bool
moves o week time = get_or o.timed o.current false && not (has_time o week time o.current)

-- where a message goes: the place, and how many messages are there before it
unfoldable pub place_for : ℕ → Storage → ℕ → ℕ → ℕ
place_for times o week time = cond (moves o week time) (next_place times o.current) o.current

unfoldable pub number_for : Storage → ℕ → ℕ → ℕ
number_for o week time = cond (moves o week time) 0 (get_or o.counts o.current 0)

-- "Messages append in order; the same satellite may appear twice."
unfoldable pub entered : ℕ → Storage → ℕ → ℕ → Asked → ℕ → Storage
entered messages o p j a status =
    record {
      current = p;
      timed = set o.timed p true;
      weeks = set o.weeks p a.week;
      tows = set o.tows p a.time;
      counts = set o.counts p (j + 1);
      satellites = set o.satellites (entry messages p j) a.satellite;
      statuses = set o.statuses (entry messages p j) status;
    }

abbrev pub place_of : ℕ → State → Call → ℕ
place_of times s c = place_for times s.storage c.asked.week c.asked.time

abbrev pub number_of : State → Call → ℕ
number_of s c = number_for s.storage c.asked.week c.asked.time

unfoldable pub stored : ℕ → ℕ → State → Call → State
stored messages times s c =
    record {
      storage = entered messages s.storage (place_of times s c) (number_of s c) c.asked c.status;
      memory = put s.memory (60 * entry messages (place_of times s c) (number_of s c)) 60 c.message;
    }

-- the state after a call, and the answer: stored or refused
pub record Outcome : Type 0 where
  pub state : State
  pub answer : Answer

unfoldable pub store : ℕ → ℕ → State → Call → Outcome
store messages times s c =
    cond (eqb (refusal (store_checks messages times s c)) 0) (record { state = stored messages times s c; answer = gives [] })
    (record { state = s; answer = refused (refusal (store_checks messages times s c)) })

-- The place that asking a time reaches: "the lowest-numbered place with that time"; the number of places where no place has it.
unfoldable pub reached : ℕ → Storage → ℕ → ℕ → ℕ
reached times o week time = first (has_time o week time) times 0

-- "where its first message of that satellite lies, as the number of its first byte, with its status": of the messages from number `at` on, as many as the
-- count says
unfoldable pub first_of : List ℕ → ℕ → ℕ → ℕ → ℕ
first_of satellites at count satellite = first (λ j. eqb (get_or satellites (at + j) 0) satellite) count 0

unfoldable pub found_among : List ℕ → List ℕ → ℕ → ℕ → ℕ → Answer
found_among satellites statuses at count satellite =
    cond (ltb (first_of satellites at count satellite) count)
    (gives (60 * (at + first_of satellites at count satellite) ∷ get_or statuses (at + first_of satellites at count satellite) 0 ∷ [])) nothing

abbrev pub found : ℕ → Storage → ℕ → ℕ → Answer
found messages o p satellite = found_among o.satellites o.statuses (messages * p) (get_or o.counts p 0) satellite

-- "`get` looks only in the lowest-numbered place with that time"
unfoldable pub get : ℕ → ℕ → Storage → Asked → Answer
get messages times o a =
    answered (refusal (ask_checks messages times o a))
    (cond (ltb (reached times o a.week a.time) times) (found messages o (reached times o a.week a.time) a.satellite) nothing)
