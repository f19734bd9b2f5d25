-- `page::is_silent`: both messages, or not the first.
-- Assumes nothing.
use Rattle.subframes.proofs.Pages.{silent_both, silent_not}
use Rattle.subframes.proofs.page.is_silent.Goals as goal

pub returns-then-in_hkroot : goal.returns-then-in_hkroot
returns-then-in_hkroot c = search silent_both

pub returns-else-in_hkroot : goal.returns-else-in_hkroot
returns-else-in_hkroot c = search silent_not
