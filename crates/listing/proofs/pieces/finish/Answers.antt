-- `pieces::finish`: the room, the record, then the last line.
-- Assumes nothing.
use mathlib.Core.Path.{refl, ◌∙◌}
use Rattle.layouts.proofs.Refused.{number_some}
use Rattle.listing.specs.PiecePromises.{state}
use Rattle.listing.proofs.PieceSteps.{finish_short, finish_over, finish_stopped, finish_told}
use Rattle.listing.proofs.pieces.finish.Goals as goal

pub returns-then-out-lt256 : goal.returns-then-out-lt256
returns-then-out-lt256 c =
    let a = c.args in
    c.refused.ensures a.hkroot.now a.mack.now a.dsm.now a.out.now
    ∙ finish_short (state a.listing a.hkroot.now a.mack.now a.dsm.now) a.out.now c.if-out-lt256.true

pub returns-then-listing : goal.returns-then-listing
returns-then-listing c =
    let a = c.args in
    c.told.ensures a.hkroot.now a.mack.now a.dsm.now a.out.now
    ∙ finish_over (state a.listing a.hkroot.now a.mack.now a.dsm.now) a.out.now c.if-out-lt256.false c.if-listing.true

pub returns-in-Err : goal.returns-in-Err
returns-in-Err c =
    let a = c.args in
    let p = c.check in
    let h = c.in-Err.ensures in
    c.refused-in-Err.ensures p.new.hkroot p.new.mack p.new.dsm a.out.now
    ∙ finish_stopped a.listing a.hkroot.now a.mack.now a.dsm.now a.out.now c.if-out-lt256.false h.value p.ensures.hkroot_unchanged
    (number_some c.in-Err.refusal)

pub returns : goal.returns
returns c =
    let a = c.args in
    let p = c.check in
    let h = c.in_default.ensures in
    c.told-2.ensures p.new.hkroot p.new.mack p.new.dsm c.totals-written.new.out
    ∙ finish_told a.listing a.hkroot.now a.mack.now a.dsm.now a.out.now c.if-out-lt256.false h.value p.ensures.hkroot_unchanged refl
    c.if-listing.false c.totals-written.ensures
