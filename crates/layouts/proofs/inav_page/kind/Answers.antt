-- `inav_page::kind`: the length, bits 0 and 1, then bits 120 and 121.
-- Assumes nothing.
use Rattle.layouts.proofs.Page.{other_length, skips_even, skips_odd, counts_both}
use Rattle.layouts.proofs.inav_page.kind.Goals as goal

pub returns-then-page-ne30 : goal.returns-then-page-ne30
returns-then-page-ne30 c = search other_length

pub returns-then-long-ne0 : goal.returns-then-long-ne0
returns-then-long-ne0 c = search skips_even

pub returns-then-long-ne2 : goal.returns-then-long-ne2
returns-then-long-ne2 c = search skips_odd

pub returns : goal.returns
returns c = search counts_both
