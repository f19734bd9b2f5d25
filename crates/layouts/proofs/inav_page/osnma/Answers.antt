-- `inav_page::osnma`: five bytes.
-- Assumes nothing.
use Rattle.layouts.proofs.Page.{osnma_refused, osnma_is}
use Rattle.layouts.proofs.inav_page.osnma.Goals as goal

pub returns-then-page-ne30 : goal.returns-then-page-ne30
returns-then-page-ne30 c = search osnma_refused

pub returns : goal.returns
returns c =
    osnma_is c.args.page.now c.if-page-ne30.false c.osnma_byte.ensures c.osnma_byte-2.ensures
    c.osnma_byte-3.ensures c.osnma_byte-4.ensures c.osnma_byte-5.ensures
