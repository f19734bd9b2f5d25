-- What the MACK store keeps, over lists of calls of `store` from a new store: the messages that asking finds, and the bytes that stay. Over any number of
-- messages and of times, as the rules are.
-- Assumes nothing.
use Rattle.std.specs.Prelude.{ℕ, ◌+◌, ◌*◌, ◌≤◌, ◌<◌, List, [], ◌∷◌, Bool, true, false, not, ◌&&◌, ◌≡◌, length, get_or, take, drop, replicate, eqb}
use Rattle.layouts.specs.Answer.{nothing, gives, refusal}
use Rattle.runs.specs.Runs.{after_all}
use Rattle.storage.specs.Store.{State, new_storage, Call, entry, legal, has_time, store_checks, next_place, moves, place_of, number_of}
use Rattle.storage.specs.Store.{store, reached, first_of, get}

-- a new store over that memory; the state that a call leaves, and the one after calls, the oldest first; refused ones may be among them
abbrev pub new_store : ℕ → ℕ → List ℕ → State
new_store messages times memory = record { storage = new_storage messages times; memory = memory }

abbrev pub next : ℕ → ℕ → State → Call → State
next messages times s c = (store messages times s c).state

abbrev pub after : ℕ → ℕ → State → List Call → State
after messages times s cs = after_all (next messages times) s cs

-- the number of the message that a call stores, and of the first of its 60 bytes
abbrev pub entry_of : ℕ → ℕ → State → Call → ℕ
entry_of messages times s c = entry messages (place_of times s c) (number_of s c)

abbrev pub first_byte : ℕ → ℕ → State → Call → ℕ
first_byte messages times s c = 60 * entry_of messages times s c

-- whether a place has the call's time, which place asking it reaches, and whether storing at it moves on
abbrev pub at_time : State → Call → ℕ → Bool
at_time s c p = has_time s.storage c.asked.week c.asked.time p

abbrev pub reached_by : ℕ → State → Call → ℕ
reached_by times s c = reached times s.storage c.asked.week c.asked.time

abbrev pub moves_on : State → Call → Bool
moves_on s c = moves s.storage c.asked.week c.asked.time

-- the 60 bytes of message j of place p
abbrev pub bytes_at : ℕ → State → ℕ → ℕ → List ℕ
bytes_at messages s p j = take 60 (drop (60 * entry messages p j) s.memory)

-- a call that is not refused
abbrev pub is_stored : ℕ → ℕ → State → Call → Bool
is_stored messages times s c = eqb (refusal (store_checks messages times s c)) 0

-- "moves to the next place and empties it": the call empties place p
abbrev pub empties : ℕ → ℕ → State → Call → ℕ → Bool
empties messages times s c p = is_stored messages times s c && moves_on s c && eqb (next_place times s.storage.current) p

-- none of the calls empties it
abbrev pub lasts : ℕ → ℕ → State → List Call → ℕ → Bool
lasts messages times s [] p = true
lasts messages times s (c ∷ cs) p = not (empties messages times s c p) && lasts messages times (next messages times s c) cs p

-- What a call does to the lent bytes, at any state that calls lead to. The message goes to message `number_of s c` of place `place_of times s c`.
pub record Keeps (messages times : ℕ) (s : State) (c : Call) : Type 0 where
  -- a refused call changes nothing
  pub refused_call : is_stored messages times s c ≡ false → next messages times s c ≡ s
  -- a store touches only the 60 bytes of its place: not those before, nor those behind, nor how many there are
  pub bytes_before : (k : ℕ) → k < first_byte messages times s c → get_or (next messages times s c).memory k 0 ≡ get_or s.memory k 0
  pub bytes_behind : (k : ℕ) → first_byte messages times s c + 60 ≤ k → get_or (next messages times s c).memory k 0 ≡ get_or s.memory k 0
  pub long : length (next messages times s c).memory ≡ length s.memory
  -- and these are then the message
  pub own_bytes : is_stored messages times s c ≡ true → bytes_at messages (next messages times s c) (place_of times s c) (number_of s c) ≡ c.message
  -- messages of other places keep their bytes
  pub other_places : (q j : ℕ) → q < times → j < messages → (q ≡ place_of times s c → ⊥)
      → bytes_at messages (next messages times s c) q j ≡ bytes_at messages s q j

-- the record is legal, so that no call is refused with 12, and a call keeps bytes
abbrev pub KeepsLegal : ℕ → ℕ → State → Call → Type 0
KeepsLegal messages times s c = (legal messages times s.storage ≡ true) × Keeps messages times s c

-- From a new store and any lent bytes of the right length, after any calls.
abbrev pub StoreKeeps : Type 0
StoreKeeps =
    (messages times : ℕ) → 0 < messages → 0 < times → (memory : List ℕ) → length memory ≡ 60 * (messages * times)
    → (cs : List Call) (c : Call) → KeepsLegal messages times (after messages times (new_store messages times memory) cs) c

-- Message j of place p of the state s came by the call c.
pub record Finds (messages times : ℕ) (s : State) (c : Call) (p j : ℕ) : Type 0 where
  -- where no lower-numbered place holds the same time, asking that time reaches the message's place
  pub lowest : ((q : ℕ) → q < p → at_time s c q ≡ false) → reached_by times s c ≡ p
  -- where asking its time reaches its place, the message is found, with its status
  pub found : reached_by times s c ≡ p → get messages times s.storage c.asked ≡ gives (60 * entry messages p j ∷ c.status ∷ [])
  -- and its bytes are there
  pub bytes : bytes_at messages s p j ≡ c.message

-- The first message of a satellite in a place is found until that place is emptied, as long as no lower-numbered place holds the same time.
abbrev pub StoreFinds : Type 0
StoreFinds =
    (messages times : ℕ) → 0 < messages → 0 < times → (memory : List ℕ) → length memory ≡ 60 * (messages * times)
    → (before : List Call) (c : Call) (cs : List Call) (s : State) (p j : ℕ)
    → s ≡ after messages times (new_store messages times memory) before
    -- the call c was stored at the state s as message j of place p, ..
    → p ≡ place_of times s c
    → j ≡ number_of s c
    → is_stored messages times s c ≡ true
    -- .. which had no message of that satellite before, and other calls came then
    → first_of s.storage.satellites (messages * p) j c.asked.satellite ≡ j
    → lasts messages times (next messages times s c) cs p ≡ true
    → Finds messages times (after messages times (next messages times s c) cs) c p j

-- A time that owns two places: what is found above ends where a lower-numbered place holds the same time. Satellite 1 is stored at time 0, then at 30, and
-- satellite 2 then at time 0 again ..
abbrev pub from : ℕ → ℕ → Call
from satellite time = record { message = replicate 60 satellite; asked = record { satellite = satellite; week = 1200; time = time }; status = 1 }

abbrev pub twice : State
twice = after 36 12 (new_store 36 12 (replicate 25920 0)) (from 1 0 ∷ from 1 30 ∷ [])

-- .. which goes to place 2 as the first message there, and is not found: asking time 0 reaches place 0
abbrev pub thrice : State
thrice = next 36 12 twice (from 2 0)

pub record TwoPlaces : Type 0 where
  pub stored_here : is_stored 36 12 twice (from 2 0) ≡ true
  pub in_place : place_of 12 twice (from 2 0) ≡ 2
  pub as_first : number_of twice (from 2 0) ≡ 0
  pub its_time : has_time thrice.storage 1200 0 2 ≡ true
  pub lower : has_time thrice.storage 1200 0 0 ≡ true
  pub asked : reached 12 thrice.storage 1200 0 ≡ 0
  pub missed : get 36 12 thrice.storage (from 2 0).asked ≡ nothing

-- How long a place lasts, in a store of one message and two times: the message of time 0 is in place 0 when nothing is stored after it, when time 30 is, and
-- no more when time 60 is
abbrev pub single : State
single = after 1 2 (new_store 1 2 (replicate 120 0)) (from 1 0 ∷ [])

pub record PlaceLasts : Type 0 where
  pub at_once : lasts 1 2 single [] 0 ≡ true
  pub next_time : lasts 1 2 single (from 1 30 ∷ []) 0 ≡ true
  pub ring_round : lasts 1 2 single (from 1 30 ∷ from 1 60 ∷ []) 0 ≡ false
