-- `subframe::check_range`: each check, in its order.
-- Assumes nothing.
use Rattle.subframes.proofs.Pages.{other_week, other_subframe, other_counts, ranged}
use Rattle.subframes.proofs.subframe.check_range.Goals as goal

pub returns-then-collector-gt4095 : goal.returns-then-collector-gt4095
returns-then-collector-gt4095 c = search other_week

pub returns-then-collector-gt20159 : goal.returns-then-collector-gt20159
returns-then-collector-gt20159 c = search other_subframe

pub returns-then-not-all_small : goal.returns-then-not-all_small
returns-then-not-all_small c = search other_counts

pub returns : goal.returns
returns c = search ranged
