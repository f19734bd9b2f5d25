-- `maclt::flx_tags`: each number is computed from the row of the paper.
-- Assumes nothing.
use Rattle.layouts.specs.Maclt.{table}
use Rattle.layouts.specs.inner.Code.{flx_number}
use Rattle.layouts.proofs.LookUp.{flx_hit, flx_none}
use Rattle.layouts.proofs.maclt.flx_tags.Goals as goal

pub returns-in-27 : goal.returns-in-27
unfolding table flx_number
returns-in-27 c = search flx_hit

pub returns-in-28 : goal.returns-in-28
unfolding table flx_number
returns-in-28 c = search flx_hit

pub returns-in-31 : goal.returns-in-31
unfolding table flx_number
returns-in-31 c = search flx_hit

pub returns-in-33 : goal.returns-in-33
unfolding table flx_number
returns-in-33 c = search flx_hit

pub returns-in-34 : goal.returns-in-34
unfolding table flx_number
returns-in-34 c = search flx_hit

pub returns-in-35 : goal.returns-in-35
unfolding table flx_number
returns-in-35 c = search flx_hit

pub returns-in-36 : goal.returns-in-36
unfolding table flx_number
returns-in-36 c = search flx_hit

pub returns-in-37 : goal.returns-in-37
unfolding table flx_number
returns-in-37 c = search flx_hit

pub returns-in-38 : goal.returns-in-38
unfolding table flx_number
returns-in-38 c = search flx_hit

pub returns-in-39 : goal.returns-in-39
unfolding table flx_number
returns-in-39 c = search flx_hit

pub returns-in-40 : goal.returns-in-40
unfolding table flx_number
returns-in-40 c = search flx_hit

pub returns-in-41 : goal.returns-in-41
unfolding table flx_number
returns-in-41 c = search flx_hit

pub returns-in_default : goal.returns-in_default
unfolding table flx_number
returns-in_default c = search flx_none
