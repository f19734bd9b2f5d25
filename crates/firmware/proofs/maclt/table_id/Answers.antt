-- `maclt::table_id`: no ID of the table is wider than a byte.
-- Assumes nothing.
use Rattle.firmware.proofs.Telling.{byte_id}
use Rattle.firmware.proofs.maclt.table_id.Goals as goal

pub returns : goal.returns
returns c = rw c.unwrap_or.ensures (byte_id _ _ c.try_from.ensures)
