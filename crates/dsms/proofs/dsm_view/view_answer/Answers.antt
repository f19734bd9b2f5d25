-- `dsm_view::view_answer`: the question's answer, with what the struct holds.
-- Assumes nothing.
use borrow.Author.Rules.{rules}
use Rattle.dsms.proofs.Kept.{answer_kept}
use Rattle.dsms.proofs.dsm_view.view_answer.Goals as goal

pub returns : goal.returns
returns c =
    let a = c.args in
    let d = c.view_dsm-kept.result in
    answer_kept a.collector a.dsm.now d.id d.dsm_type d.«data».now c.view_dsm-kept.ensures c.in_ok-shown.shown c.map.result c.in_ok-shown.ensures
    (search rules)
