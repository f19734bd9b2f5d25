-- What the MACK store promises, and the paper's numbers and values for each case of its answers.
-- Assumes nothing.
use Rattle.std.specs.Prelude.{ℕ, List, [], ◌∷◌, map, ◌≡◌, ⊤, Result, Ok, Err, Option, Some, None}
use Rattle.layouts.specs.Answer.{Answer, refused, nothing, gives}
use Rattle.storage.specs.Store.{Storage, State, new_storage, Asked, Call, Outcome, store, get}
use Rattle.layouts.specs.Refusals.{refusal_number}
use Rattle.layouts.specs.declared.gst.Stamp.{Stamp}
use Rattle.layouts.specs.declared.refusal.Refusal.{Refusal}
use Rattle.storage.specs.declared.mack_storage.MackStorage.{MackStorage}
use Rattle.storage.specs.declared.mack_storage.MackStored.{MackStored}
use Rattle.storage.specs.declared.mack_storage.MackFound.{MackFound}

-- the record as the definitions have it
abbrev pub storage_of : MackStorage → Storage
storage_of r =
    record {
      current = r.current;
      timed = map (λ p. p.timed) r.places;
      weeks = map (λ p. p.week) r.places;
      tows = map (λ p. p.tow) r.places;
      counts = map (λ p. p.count) r.places;
      satellites = r.satellites;
      statuses = r.statuses;
    }

-- .. and with the lent bytes beside it
abbrev pub state : MackStorage → List ℕ → State
state r memory = record { storage = storage_of r; memory = memory }

-- what a call asks and what it stores, from its arguments
abbrev pub asked_of : Stamp → Asked
asked_of a = record { satellite = a.satellite; week = a.week; time = a.time }

abbrev pub call : List ℕ → Stamp → ℕ → Call
call message a status = record { message = message; asked = asked_of a; status = status }

abbrev pub meaning_store : Result ⊤ Refusal → Answer
meaning_store (Ok x) = gives []
meaning_store (Err e) = refused (refusal_number e)

-- what is found, or nothing
abbrev pub meaning_found : Option MackFound → Answer
meaning_found (Some m) = gives (m.first ∷ m.status ∷ [])
meaning_found None = nothing

abbrev pub meaning_get : Result (Option MackFound) Refusal → Answer
meaning_get (Ok m) = meaning_found m
meaning_get (Err e) = refused (refusal_number e)

-- the record and the answer handed back, with the lent bytes then
abbrev pub outcome : MackStored → List ℕ → Outcome
outcome r memory = record { state = state r.storage memory; answer = meaning_store r.answer }

-- 36 messages by 12 times
abbrev pub NewStorage : MackStorage → Type 0
NewStorage r = storage_of r ≡ new_storage 36 12

abbrev pub StoreMack : MackStorage → List ℕ → Call → MackStored → List ℕ → Type 0
StoreMack o memory c r after = outcome r after ≡ store 36 12 (state o memory) c

abbrev pub GetMack : MackStorage → Asked → Result (Option MackFound) Refusal → Type 0
GetMack o a r = meaning_get r ≡ get 36 12 (storage_of o) a
