-- `replay::check`: one refusal for each test.
-- Assumes nothing.
use mathlib.Core.Path.{refl, sym, ap, ◌∙◌}
use Rattle.layouts.specs.Refusals.{refused_by}
use Rattle.layouts.proofs.Refused.{carried, number_some}
use Rattle.page_replay.specs.ReplayPromises.{state}
use Rattle.page_replay.proofs.PageRefusals.{other_dsm_bytes, other_subframes, other_dsm_id, other_totals, other_place, other_budget, call_admitted, refused_some, refused_none}
use Rattle.page_replay.proofs.replay.check.Goals as goal

pub returns-then-dsm-ne208 : goal.returns-then-dsm-ne208
returns-then-dsm-ne208 c = search other_dsm_bytes

pub returns-in_err-check_subframes : goal.returns-in_err-check_subframes
returns-in_err-check_subframes c =
    let a = c.args in
    ap refused_by (carried c.from_residual.result c.from_residual.ensures.1)
    ∙ other_subframes (state a.«record» a.hkroot.now a.mack.now a.dsm.now) a.budget c.if-dsm-ne208.false c.in_err-check_subframes.ensures
    (number_some c.in_err-check_subframes.field-0.0)

pub returns-then-record-gt15 : goal.returns-then-record-gt15
returns-then-record-gt15 c =
    let a = c.args in
    other_dsm_id (state a.«record» a.hkroot.now a.mack.now a.dsm.now) a.budget c.if-dsm-ne208.false c.in_ok-check_subframes.ensures refl
    c.if-record-gt15.true

pub returns-then-not-totals_few : goal.returns-then-not-totals_few
returns-then-not-totals_few c =
    let a = c.args in
    other_totals (state a.«record» a.hkroot.now a.mack.now a.dsm.now) a.budget c.if-dsm-ne208.false c.in_ok-check_subframes.ensures refl
    c.if-record-gt15.false c.if-not-totals_few.ensures

pub returns-then-is_err : goal.returns-then-is_err
returns-then-is_err c =
    let a = c.args in
    other_place (state a.«record» a.hkroot.now a.mack.now a.dsm.now) a.budget c.if-dsm-ne208.false c.in_ok-check_subframes.ensures refl
    c.if-record-gt15.false c.if-not-totals_few.ensures c.check.ensures
    (refused_some c.check.result (sym c.is_err.ensures.value ∙ c.if-is_err.true))

pub returns-then-budget-gt15 : goal.returns-then-budget-gt15
returns-then-budget-gt15 c =
    let a = c.args in
    other_budget (state a.«record» a.hkroot.now a.mack.now a.dsm.now) a.budget c.if-dsm-ne208.false c.in_ok-check_subframes.ensures refl
    c.if-record-gt15.false c.if-not-totals_few.ensures c.check.ensures
    (refused_none c.check.result (sym c.is_err.ensures.value ∙ c.if-is_err.false)) c.if-budget-gt15.true

pub returns : goal.returns
returns c =
    let a = c.args in
    call_admitted (state a.«record» a.hkroot.now a.mack.now a.dsm.now) a.budget c.if-dsm-ne208.false c.in_ok-check_subframes.ensures refl
    c.if-record-gt15.false c.if-not-totals_few.ensures c.check.ensures
    (refused_none c.check.result (sym c.is_err.ensures.value ∙ c.if-is_err.false)) c.if-budget-gt15.false
