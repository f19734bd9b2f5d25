-- `page::keep`: each case of the definition.
-- Assumes nothing.
use Rattle.subframes.proofs.Pages.{next_used, next_last}
use Rattle.subframes.proofs.page.keep.Goals as goal

pub returns-then-next-ne15 : goal.returns-then-next-ne15
returns-then-next-ne15 c = search next_used

pub returns : goal.returns
returns c = search next_last
