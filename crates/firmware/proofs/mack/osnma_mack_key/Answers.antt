-- `osnma_mack_key`: what the reader answers, and the output as it leaves it.
-- Assumes nothing.
use Rattle.firmware.proofs.Telling.{key_told}
use Rattle.firmware.proofs.mack.osnma_mack_key.Goals as goal

pub returns : goal.returns
returns c = search key_told
