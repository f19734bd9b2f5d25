-- `dsm_view::view_dsm`: the DSM that is shown, or none.
-- Assumes nothing.
use mathlib.Core.Path.{◌≡◌, sym, ◌∙◌}
use mathlib.Core.List.{[], ◌∷◌}
use native.Mathlib.Omega.{arith}
use lib.Seq.{length-take-le}
use Rattle.layouts.specs.Answer.{gives}
use Rattle.dsms.specs.Dsm.{view}
use Rattle.dsms.specs.DsmPromises.{state}
use Rattle.dsms.proofs.Blocks.{type_of, shown_size}
use Rattle.dsms.proofs.Kept.{is_shown, kept_some, kept_none}
use Rattle.dsms.proofs.dsm_view.view_dsm.Goals as goal
use Rattle.dsms.proofs.dsm_view.view_dsm.Goals.{In-Some}

shown : (c : In-Some) → gives (0 ∷ c.in-Some.bytes ∷ []) ≡ view (state c.args.collector c.args.dsm.now)
shown c =
    let a = c.args in is_shown (state a.collector a.dsm.now) c.view_shown.result c.view_shown.ensures (sym c.unwrap_or.ensures ∙ c.in-Some.is)

pub overflow_mul-collector : goal.overflow_mul-collector
overflow_mul-collector c =
    let a = c.args in omega (arith, (shown_size (state a.collector a.dsm.now) (shown (goal.at.overflow_mul-collector c).In-Some)).low)

pub slice_bounds-result-end : goal.slice_bounds-result-end
slice_bounds-result-end c =
    let a = c.args in
    sym (length-take-le c.in-Some.bytes a.dsm.now (shown_size (state a.collector a.dsm.now) (shown (goal.at.slice_bounds-result-end c).In-Some)).fits)

pub returns-in-Some : goal.returns-in-Some
returns-in-Some c =
    let a = c.args in
    let t = c.dsm_type in
    let s = shown (goal.at.returns-in-Some c).In-Some in
    kept_some (state a.collector a.dsm.now) t.result s
    (type_of a.collector.id t.result (shown_size (state a.collector a.dsm.now) s).low t.ensures)

pub returns-in-None : goal.returns-in-None
returns-in-None c =
    let a = c.args in kept_none (state a.collector a.dsm.now) c.view_shown.result c.view_shown.ensures (sym c.unwrap_or.ensures ∙ c.in-None.is)
