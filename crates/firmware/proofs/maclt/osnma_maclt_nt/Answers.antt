-- `osnma_maclt_nt`: what the table says of the ID.
-- Assumes nothing.
use mathlib.Core.Path.{◌∙◌}
use Rattle.firmware.proofs.Telling.{told_by_lem}
use Rattle.firmware.proofs.maclt.osnma_maclt_nt.Goals as goal

pub returns : goal.returns
returns c = told_by_lem c.args.value.now (c.nt.ensures ∙ c.table_id.ensures.tags) c.number.ensures
