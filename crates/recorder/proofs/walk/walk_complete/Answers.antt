-- `walk::walk_complete`.
-- Assumes nothing.
use mathlib.Core.Path.{◌∙◌, ap}
use Rattle.std.specs.Prelude.{Ok, Some}
use Rattle.subframes.specs.SubframePromises.{state}
use Rattle.layouts.proofs.Refused.{carry}
use Rattle.recorder.specs.WalkPromises.{meaning_complete}
use Rattle.recorder.proofs.CompleteAnswers.{complete_refused, complete_nothing, complete_silent, complete_walked}
use Rattle.recorder.proofs.walk.walk_complete.Goals as goal

pub returns-in_err-came_out : goal.returns-in_err-came_out
returns-in_err-came_out c =
    let a = c.args in
    carry meaning_complete _ _ c.from_residual.ensures.1
    (complete_refused (state a.collector a.hkroot.now a.mack.now) a.satellite a.sizes.key_bytes a.sizes.tag_bits a.maclt c.came_out.result c.came_out.ensures
    c.in_err-came_out.was)

pub returns-in-None : goal.returns-in-None
returns-in-None c =
    let a = c.args in
    complete_nothing (state a.collector a.hkroot.now a.mack.now) a.satellite a.sizes.key_bytes a.sizes.tag_bits a.maclt c.came_out.result c.came_out.ensures
    (c.in_ok-came_out.was ∙ ap Ok c.in-None.is) c.no_message.ensures

pub returns-in-Some-Silent : goal.returns-in-Some-Silent
returns-in-Some-Silent c =
    let a = c.args in
    complete_silent (state a.collector a.hkroot.now a.mack.now) a.satellite a.sizes.key_bytes a.sizes.tag_bits a.maclt c.came_out.result c.came_out.ensures
    (c.in_ok-came_out.was ∙ ap Ok (c.in-Some-Silent.is ∙ ap Some c.in-Some-Silent.field-0-is)) c.no_message-in-Some-Silent.ensures

pub returns-in_err-walk-in-Some-Complete : goal.returns-in_err-walk-in-Some-Complete
returns-in_err-walk-in-Some-Complete c =
    let a = c.args in
    carry meaning_complete _ _ c.from_residual-in_err-walk-in-Some-Complete.ensures.1
    (complete_walked (state a.collector a.hkroot.now a.mack.now) a.satellite a.sizes.key_bytes a.sizes.tag_bits a.maclt c.came_out.result c.came_out.ensures
    (c.in_ok-came_out.was ∙ ap Ok (c.in-Some-Complete.is ∙ ap Some c.in-Some-Complete.field-0-is)) c.view.ensures c.in_err-walk-in-Some-Complete.ensures)

pub returns-in_ok-walk-in-Some-Complete : goal.returns-in_ok-walk-in-Some-Complete
returns-in_ok-walk-in-Some-Complete c =
    let a = c.args in
    complete_walked (state a.collector a.hkroot.now a.mack.now) a.satellite a.sizes.key_bytes a.sizes.tag_bits a.maclt c.came_out.result c.came_out.ensures
    (c.in_ok-came_out.was ∙ ap Ok (c.in-Some-Complete.is ∙ ap Some c.in-Some-Complete.field-0-is)) c.view.ensures c.in_ok-walk-in-Some-Complete.ensures
