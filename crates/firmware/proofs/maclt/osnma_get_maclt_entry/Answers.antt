-- `osnma_get_maclt_entry`: what the table says of the ID.
-- Assumes nothing.
use mathlib.Core.Path.{◌∙◌}
use Rattle.firmware.proofs.Telling.{slotted_by}
use Rattle.firmware.proofs.maclt.osnma_get_maclt_entry.Goals as goal

pub returns : goal.returns
returns c =
    let a = c.args in
    slotted_by
    a.flex.now
    a.adkd.now
    a.object.now
    (c.get_maclt_entry.ensures ∙ c.table_id.ensures.entries a.message a.tag)
    c.slot.ensures
