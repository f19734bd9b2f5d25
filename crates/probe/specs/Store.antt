-- The functions over the MACK store: what `storage` promises, told in numbers.
-- Assumes nothing.
use Rattle.std.specs.Prelude.{ℕ, List, ◌≡◌}
use Rattle.storage.specs.Store.{Storage, State, Asked, Call, Outcome, new_storage, store, get}
use Rattle.probe.specs.Telling.{told}
use Rattle.probe.specs.declared.tell.Told.{Told}
use Rattle.probe.specs.declared.store.StoreRecord.{StoreRecord}
use Rattle.probe.specs.declared.store.StoreCalled.{StoreCalled}

-- the record as the definitions have it
abbrev pub storage_of : StoreRecord → Storage
storage_of r =
    record {
      current = r.current;
      timed = r.timed;
      weeks = r.weeks;
      tows = r.tows;
      counts = r.counts;
      satellites = r.satellites;
      statuses = r.statuses;
    }

-- .. and with the lent bytes beside it
abbrev pub state : StoreRecord → List ℕ → State
state r memory = record { storage = storage_of r; memory = memory }

-- the state after a call, and the answer in numbers
pub record Called : Type 0 where
  pub state : State
  pub answer : Told

abbrev pub called : Outcome → Called
called o = record { state = o.state; answer = told o.answer }

abbrev pub StoreNew : StoreRecord → Type 0
StoreNew r = storage_of r ≡ new_storage 36 12

abbrev pub StoreStore : StoreRecord → List ℕ → Call → StoreCalled → List ℕ → Type 0
StoreStore o memory c r after =
    ◌≡◌ {A = Called} (record { state = state r.storage after; answer = r.answer }) (called (store 36 12 (state o memory) c))

abbrev pub StoreGet : StoreRecord → Asked → Told → Type 0
StoreGet o a r = r ≡ told (get 36 12 (storage_of o) a)
