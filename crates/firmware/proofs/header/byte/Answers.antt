-- `header::byte`.
-- Assumes nothing.
use Rattle.std.proofs.Common.{rules}
use Rattle.firmware.proofs.Telling.{header_byte}
use Rattle.firmware.proofs.header.byte.Goals as goal

pub returns : goal.returns
returns c = header_byte _ _ _ c.try_from.ensures c.map_err.ensures.cases (λ e d q. search rules)
