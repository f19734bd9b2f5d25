-- `maclt::row`: each number is computed from the row of the paper.
-- Assumes nothing.
use Rattle.layouts.specs.Maclt.{table}
use Rattle.layouts.specs.inner.Code.{row_number}
use Rattle.layouts.proofs.LookUp.{row_hit, row_unknown}
use Rattle.layouts.proofs.maclt.row.Goals as goal

pub returns-in-27 : goal.returns-in-27
unfolding table row_number
returns-in-27 c = search row_hit

pub returns-in-28 : goal.returns-in-28
unfolding table row_number
returns-in-28 c = search row_hit

pub returns-in-31 : goal.returns-in-31
unfolding table row_number
returns-in-31 c = search row_hit

pub returns-in-33 : goal.returns-in-33
unfolding table row_number
returns-in-33 c = search row_hit

pub returns-in-34 : goal.returns-in-34
unfolding table row_number
returns-in-34 c = search row_hit

pub returns-in-35 : goal.returns-in-35
unfolding table row_number
returns-in-35 c = search row_hit

pub returns-in-36 : goal.returns-in-36
unfolding table row_number
returns-in-36 c = search row_hit

pub returns-in-37 : goal.returns-in-37
unfolding table row_number
returns-in-37 c = search row_hit

pub returns-in-38 : goal.returns-in-38
unfolding table row_number
returns-in-38 c = search row_hit

pub returns-in-39 : goal.returns-in-39
unfolding table row_number
returns-in-39 c = search row_hit

pub returns-in-40 : goal.returns-in-40
unfolding table row_number
returns-in-40 c = search row_hit

pub returns-in-41 : goal.returns-in-41
unfolding table row_number
returns-in-41 c = search row_hit

pub returns-in_default : goal.returns-in_default
unfolding table row_number
returns-in_default c = search row_unknown
