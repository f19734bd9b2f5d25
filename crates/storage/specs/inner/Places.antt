-- What inner functions of the store need and do.
-- Assumes nothing.
use Rattle.std.specs.Prelude.{ℕ, ◌+◌, ◌*◌, ◌≤◌, ◌<◌, ◌≡◌, Bool, false, length, get_or, eqb, List, Result, Ok, Err, Option, Some, None}
use Rattle.layouts.specs.Answer.{refusal}
use Rattle.layouts.specs.Refusals.{refusal_number}
use Rattle.layouts.specs.declared.refusal.Refusal.{Refusal}
use Rattle.storage.specs.Store.{Storage, Asked, entry_checks, place_for, number_for, reached, found}
use Rattle.storage.specs.StorePromises.{meaning_found}
use Rattle.storage.specs.declared.mack_storage.MackFound.{MackFound}
use Rattle.storage.specs.declared.mack_storage.MackStorage.{MackStorage}
use Rattle.storage.specs.declared.mack_storage.Place.{Place}
use Rattle.storage.specs.declared.places.Slot.{Slot}

-- the code's place has the numbers of place p
pub record IsPlace (o : Storage) (p : ℕ) (here : Place) : Type 0 where
  pub timed_is : here.timed ≡ get_or o.timed p false
  pub week_is : here.week ≡ get_or o.weeks p 0
  pub tow_is : here.tow ≡ get_or o.tows p 0
  pub count_is : here.count ≡ get_or o.counts p 0

-- place p of the record; an empty one past its places
abbrev pub nowhere : Place
nowhere = record { timed = false; count = 0; week = 0; tow = 0 }

abbrev pub nth : MackStorage → ℕ → Place
nth r p = get_or r.places p nowhere

-- the test of a search: a message is the satellite's
abbrev pub sent_by : List ℕ → ℕ → ℕ → ℕ → Bool
sent_by satellites at satellite j = eqb (get_or satellites (at + j) 0) satellite

-- the lists of a store have the lengths of so many messages and times
pub record Long (messages times : ℕ) (o : Storage) : Type 0 where
  pub timed_long : length o.timed ≡ times
  pub weeks_long : length o.weeks ≡ times
  pub tows_long : length o.tows ≡ times
  pub counts_long : length o.counts ≡ times
  pub satellites_long : length o.satellites ≡ messages * times
  pub statuses_long : length o.statuses ≡ messages * times

-- where a message goes, or why not
abbrev pub Admits : ℕ → ℕ → Storage → Asked → ℕ → Result Slot Refusal → Type 0
Admits messages times o a status (Err e) = refusal_number e ≡ refusal (entry_checks messages times o a status)
Admits messages times o a status (Ok s) =
    (0 ≡ refusal (entry_checks messages times o a status)) × (s.place ≡ place_for times o a.week a.time) × (s.number ≡ number_for o a.week a.time)

-- the place that asking a time reaches
abbrev pub Reaches : ℕ → Storage → ℕ → ℕ → Option ℕ → Type 0
Reaches times o week time (Some p) = (p ≡ reached times o week time) × (p < times)
Reaches times o week time None = times ≤ reached times o week time

abbrev pub FindsFirst : ℕ → Storage → ℕ → ℕ → Option MackFound → Type 0
FindsFirst messages o p satellite r = meaning_found r ≡ found messages o p satellite
