-- `pieces::begin`: the room, then the arguments.
-- Assumes nothing.
use mathlib.Core.Path.{◌∙◌}
use mathlib.Core.List.{[]}
use Rattle.layouts.specs.Refusals.{refusal_number}
use Rattle.listing.specs.Listing.{refused_line}
use Rattle.listing.specs.PiecePromises.{state}
use Rattle.listing.proofs.PieceSteps.{begin_short, begin_refused, begin_given, puts_says}
use Rattle.listing.proofs.pieces.begin.Goals as goal

pub returns-then-out-lt256 : goal.returns-then-out-lt256
returns-then-out-lt256 c =
    let a = c.args in
    c.refused.ensures [] [] [] a.out.now ∙ begin_short a.many a.satellite.now a.week.now a.time.now a.out.now c.none.ensures c.if-out-lt256.true

pub returns-in-Err : goal.returns-in-Err
returns-in-Err c =
    let a = c.args in
    begin_refused a.many a.satellite.now a.week.now a.time.now a.out.now c.if-out-lt256.false c.read.ensures c.in-Err.is c.none-in-Err.ensures
    (c.told.ensures [] [] [] _ ∙ puts_says (state c.none-in-Err.result [] [] []) 0 (refused_line (refusal_number c.in-Err.refusal)) a.out.now c.refused-written.ensures)

pub returns-in-Ok : goal.returns-in-Ok
returns-in-Ok c =
    let a = c.args in
    c.told-in-Ok.ensures [] [] [] a.out.now
    ∙ begin_given a.many a.satellite.now a.week.now a.time.now a.out.now c.in-Ok.stamp c.if-out-lt256.false c.read.ensures c.in-Ok.is c.none-in-Ok.ensures
