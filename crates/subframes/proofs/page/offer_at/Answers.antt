-- `page::offer_at`: a case for each answer of the count.
-- Assumes nothing.
use Rattle.subframes.proofs.Pages.{count_refuses, count_stays, count_rises}
use Rattle.subframes.proofs.page.offer_at.Goals as goal

pub keep-requires : goal.keep-requires
keep-requires c =
    let a = c.args in
    let t = c.take-taken in
    let q = c.requires in
    let r = count_rises a.counts.now a.hkroot.now a.mack.now a.page.now a.i a.word t.result t.ensures q.4 c.in-Ok-true.is c.in-Ok-true.field-0-test in
    (q.0, q.1, q.2, q.3, q.4, r.0, r.1)

pub returns-in_default : goal.returns-in_default
returns-in_default c = search count_stays

pub returns-in_default-2 : goal.returns-in_default-2
returns-in_default-2 c = search count_refuses
