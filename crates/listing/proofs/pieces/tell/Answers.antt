-- `pieces::tell`: refused, or the lines.
-- Assumes nothing.
use mathlib.Core.Path.{◌∙◌}
use mathlib.Core.Bool.{false}
use mathlib.Core.List.{◌++◌}
use Rattle.page_replay.specs.ReplayPromises.{state as replay_state, meaning_subframes, meaning_dsms}
use Rattle.listing.specs.Listing.{subframe_lines, dsm_lines}
use Rattle.listing.proofs.PieceSteps.{puts_says, tell_refused, tell_done}
use Rattle.listing.proofs.pieces.tell.Goals as goal

pub returns-in-Err : goal.returns-in-Err
returns-in-Err c = λ h m d.
    let a = c.args in
    c.refused.ensures h m d a.out.now
    ∙ tell_refused a.listing (record { page = a.page; held = a.held; taken = a.taken }) a.done a.out.now h m d c.in-Err.is

pub returns : goal.returns
returns c = λ h m d.
    let a = c.args in
    let lines = subframe_lines a.listing.replay.next.satellite (meaning_subframes a.done.subframe) ++ dsm_lines (meaning_dsms a.done.dsm) in
    tell_done a.listing (record { page = a.page; held = a.held; taken = a.taken }) a.done a.out.now h m d c.in_default.is
    (c.told.ensures h m d c.completed-written.new.out
    ∙ puts_says (record { replay = replay_state a.done.replay h m d; page = a.page; held = a.held; over = false }) a.taken lines a.out.now c.completed-written.ensures)
