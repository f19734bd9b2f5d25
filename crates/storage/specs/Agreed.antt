-- Document 01, "How far each promise reaches": "show that any two answers satisfying it agree". A line for each public function: answer, record and lent bytes.
-- Assumes nothing.
use Rattle.std.specs.Prelude.{List, ℕ}
use Rattle.layouts.specs.Agree.{Agree, AgreeWith}
use Rattle.storage.specs.Store.{Asked, Call}
use Rattle.storage.specs.StorePromises.{NewStorage, StoreMack, GetMack}
use Rattle.storage.specs.declared.mack_storage.MackStorage.{MackStorage}

pub record Agreed : Type 0 where
  pub new : Agree NewStorage
  pub store : (o : MackStorage) (memory : List ℕ) (c : Call) → AgreeWith (StoreMack o memory c)
  pub get : (o : MackStorage) (a : Asked) → Agree (GetMack o a)
