-- `osnma_get_flx_indices`: the length first, then what the table says of the ID.
-- Assumes nothing.
use mathlib.Core.Path.{◌∙◌}
use Rattle.firmware.proofs.Telling.{length_told, flx_refused, flx_told}
use Rattle.firmware.proofs.maclt.osnma_get_flx_indices.Goals as goal

pub returns-then-positions-ne4 : goal.returns-then-positions-ne4
returns-then-positions-ne4 c = search length_told

pub returns-in-Err : goal.returns-in-Err
returns-in-Err c =
    let a = c.args in
    flx_refused a.count.now a.positions.now a.message a.id c.if-positions-ne4.false c.table_id.ensures c.get_flx_indices.ensures c.in-Err.is
    (c.from.ensures ∙ c.number.ensures)

pub returns-in-Ok : goal.returns-in-Ok
returns-in-Ok c =
    let a = c.args in
    flx_told a.count.now a.positions.now a.message a.id c.if-positions-ne4.false c.table_id.ensures c.get_flx_indices.ensures c.in-Ok.is
    c.from-in-Ok.ensures
    c.copy_from_slice.ensures.after
