-- `pieces::check`: what a replay of no pages refuses, then the bytes that are held.
-- Assumes nothing.
use mathlib.Core.Path.{ap, ◌∙◌}
use Rattle.layouts.specs.Refusals.{refused_by}
use Rattle.layouts.proofs.Refused.{carried}
use Rattle.listing.proofs.PieceSteps.{refuses_first, refuses_high, refuses_none}
use Rattle.listing.proofs.pieces.check.Goals as goal

pub returns-in_err-replay : goal.returns-in_err-replay
returns-in_err-replay c =
    let a = c.args in
    let h = refuses_first a.listing a.hkroot.now a.mack.now a.dsm.now a.listing.page c.replay.result c.requires c.replay.ensures
    c.in_err-replay.field-0.0 c.in_err-replay.was in
    record { value = ap refused_by (carried c.from_residual.result c.from_residual.ensures.1) ∙ h.0; hkroot_unchanged = h.1 }

pub returns-then-listing-gt29 : goal.returns-then-listing-gt29
returns-then-listing-gt29 c =
    let a = c.args in
    let h = refuses_high a.listing a.hkroot.now a.mack.now a.dsm.now a.listing.page c.replay.result c.requires c.replay.ensures
    c.in_ok-replay.was c.if-listing-gt29.true in
    record { value = h.0; hkroot_unchanged = h.1 }

pub returns : goal.returns
returns c =
    let a = c.args in
    let h = refuses_none a.listing a.hkroot.now a.mack.now a.dsm.now a.listing.page c.replay.result c.requires c.replay.ensures
    c.in_ok-replay.was c.if-listing-gt29.false in
    record { value = h.0; hkroot_unchanged = h.1 }
