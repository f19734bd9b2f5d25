-- `MackStorage::check`: the record, then what is asked.
-- Assumes nothing.
use Rattle.storage.proofs.Stored.{record_off, record_on}
use Rattle.storage.proofs.mack_storage.MackStorage.check.Goals as goal

pub returns-then-not-is_legal : goal.returns-then-not-is_legal
returns-then-not-is_legal c = search record_off

pub returns : goal.returns
returns c = search record_on
