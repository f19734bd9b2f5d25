-- `walk::no_message`.
-- Assumes nothing.
use Rattle.recorder.proofs.CompleteAnswers.{none_refused, none_told}
use Rattle.recorder.proofs.walk.no_message.Goals as goal

pub returns-in_err-check_table : goal.returns-in_err-check_table
returns-in_err-check_table c = none_refused _ _ _ _ _ _ c.from_residual.ensures.1 c.in_err-check_table.ensures

pub returns : goal.returns
returns c = none_told _ _ _ _ c.in_ok-check_table.ensures
