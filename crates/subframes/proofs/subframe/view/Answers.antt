-- `subframe::view`: the bytes that `view_shown` tells of, in the buffer that was named.
-- Assumes nothing.
use borrow.Author.Rules.{rules}
use Rattle.subframes.proofs.Pages.{no_part, hkroot_inside, mack_inside, hkroot_part, mack_part}
use Rattle.subframes.proofs.subframe.view.Goals as goal

pub returns-in_default : goal.returns-in_default
returns-in_default c =
    let a = c.args in no_part a.collector a.hkroot.now a.mack.now a.message a.satellite c.in_default.field-0 c.in_default.ensures

pub part-requires : goal.part-requires
part-requires c = search (hkroot_inside, rules)

pub part-requires-in-Mack : goal.part-requires-in-Mack
part-requires-in-Mack c = search (mack_inside, rules)

pub returns-in-Hkroot : goal.returns-in-Hkroot
returns-in-Hkroot c = search (hkroot_part, rules)

pub returns-in-Mack : goal.returns-in-Mack
returns-in-Mack c = search (mack_part, rules)
