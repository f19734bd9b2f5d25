-- `replay::replay`: the refusals, then the pages.
-- Assumes nothing.
use mathlib.Core.Path.{refl}
use native.Mathlib.Omega.{arith}
use Rattle.layouts.proofs.Refused.{number_some}
use Rattle.page_replay.specs.inner.Steps.{ran}
use Rattle.page_replay.specs.ReplayPromises.{state}
use Rattle.page_replay.proofs.PageRefusals.{legal, legal_range, legal_room, replay_refused, replay_done}
use Rattle.page_replay.proofs.replay.replay.Goals as goal

pub returns-in-Err : goal.returns-in-Err
returns-in-Err c =
    let a = c.args in
    replay_refused (state a.«record» a.hkroot.now a.mack.now a.dsm.now) a.pages.now a.budget c.in-Err.ensures (number_some c.in-Err.refusal)

pub run-done-requires : goal.run-done-requires
run-done-requires c =
    let a = c.args in
    let l = legal (state a.«record» a.hkroot.now a.mack.now a.dsm.now) a.budget c.in_default.ensures refl in
    let n = c.min-n.ensures in
    (legal_range a.«record» _ _ _ a.budget l, legal_room a.«record» _ _ _ a.budget l, omega (arith, n, l.budget_15), omega (arith, n))

pub returns : goal.returns
returns c =
    let a = c.args in
    let p = c.run-done in
    let x = ran p.result p.new.hkroot p.new.mack p.new.dsm in
    replay_done (state a.«record» a.hkroot.now a.mack.now a.dsm.now) a.pages.now a.budget c.in_default.ensures {x = x} refl c.min-n.ensures p.ensures
