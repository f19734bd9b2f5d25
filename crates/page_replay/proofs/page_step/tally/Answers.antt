-- `page_step::tally`: each total goes on by at most one.
-- Assumes nothing.
use mathlib.Core.Path.{ap, ◌∙◌}
use Rattle.std.specs.Int.{from_bool}
use mathlib.Core.Bool.{not}
use Rattle.subframes.specs.SubframePromises.{outcome}
use Rattle.dsms.specs.DsmPromises.{outcome as dsm_outcome}
use Rattle.page_replay.specs.ReplayPromises.{state}
use Rattle.page_replay.proofs.PageSteps.{counted_is, one_number, subframe_number, dsm_number}
use Rattle.page_replay.proofs.page_step.tally.Goals as goal

pub returns : goal.returns
returns c =
    let a = c.args in
    λ h m e h₀ m₀ e₀.
    counted_is (state a.«record» h₀ m₀ e₀) a.used (outcome a.fed h m) (dsm_outcome a.passed e) c.later.ensures.satellite c.later.ensures.time
    c.subframe_done-subframe.ensures c.dsm_done-dsm.ensures (c.from.ensures ∙ one_number a.used) (c.from-2.ensures ∙ one_number (not a.used))
    (c.from-3.ensures ∙ ap from_bool c.is_some.ensures ∙ subframe_number c.subframe_done-subframe.result)
    (c.from-4.ensures ∙ ap from_bool c.is_some-2.ensures ∙ dsm_number c.dsm_done-dsm.result)
    c.silent_in.ensures.value
