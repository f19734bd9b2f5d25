-- `replay::check_subframes`: a case for each answer of the question.
-- Assumes nothing.
use mathlib.Core.Path.{ap, sym, ◌∙◌}
use Rattle.layouts.specs.Refusals.{refused_by}
use Rattle.layouts.proofs.Refused.{carried}
use Rattle.page_replay.proofs.Taken.{asked}
use Rattle.page_replay.proofs.replay.check_subframes.Goals as goal

pub returns-in_err-view_shown : goal.returns-in_err-view_shown
returns-in_err-view_shown c =
    let a = c.args in
    ap refused_by (carried c.from_residual.result c.from_residual.ensures.1) ∙ sym (ap refused_by c.in_err-view_shown.was)
    ∙ asked a.collector a.hkroot.now a.mack.now c.view_shown.result c.view_shown.ensures

pub returns : goal.returns
returns c =
    let a = c.args in
    sym (ap refused_by c.in_ok-view_shown.was) ∙ asked a.collector a.hkroot.now a.mack.now c.view_shown.result c.view_shown.ensures
