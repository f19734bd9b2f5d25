-- `maclt::known_row`.
-- Assumes nothing.
use Rattle.layouts.proofs.LookUp.{row_refused, row_given}
use Rattle.layouts.proofs.maclt.known_row.Goals as goal

pub returns-then-row-eq0 : goal.returns-then-row-eq0
returns-then-row-eq0 c = search row_refused

pub returns : goal.returns
returns c = search row_given
