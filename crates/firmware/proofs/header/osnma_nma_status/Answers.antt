-- `osnma_nma_status`: a byte, or 7.
-- Assumes nothing.
use Rattle.std.proofs.Common.{rules}
use Rattle.firmware.proofs.Telling.{told_by_lem, header_told, same_number}
use Rattle.firmware.proofs.header.osnma_nma_status.Goals as goal

pub returns : goal.returns
returns c =
    told_by_lem c.args.value.now (header_told _ _ _ _ c.byte.ensures c.map.ensures.cases (λ x w e q. search (rules, same_number))) c.number.ensures
