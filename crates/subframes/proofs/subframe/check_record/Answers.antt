-- `subframe::check_record`: the lent bytes, then the record.
-- Assumes nothing.
use Rattle.subframes.proofs.Pages.{other_hkroot, other_mack, right_lengths}
use Rattle.subframes.proofs.subframe.check_record.Goals as goal

pub returns-then-hkroot-ne540 : goal.returns-then-hkroot-ne540
returns-then-hkroot-ne540 c = search other_hkroot

pub returns-then-mack-ne2160 : goal.returns-then-mack-ne2160
returns-then-mack-ne2160 c = search other_mack

pub returns : goal.returns
returns c = search right_lengths
