-- `subframe::answer_of`: a pair comes out where the page was its subframe's last.
-- Assumes nothing.
use Rattle.subframes.proofs.Pages.{answer_last}
use Rattle.subframes.proofs.subframe.answer_of.Goals as goal

pub returns-in-Last : goal.returns-in-Last
returns-in-Last c = search answer_last
