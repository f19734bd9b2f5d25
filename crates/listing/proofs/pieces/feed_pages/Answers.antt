-- `pieces::feed_pages`: the piece as it is.
-- Assumes nothing.
use mathlib.Core.Path.{refl}
use native.Mathlib.Omega.{arith}
use Rattle.page_replay.specs.ReplayPromises.{outcome}
use Rattle.listing.specs.PiecePromises.{state}
use Rattle.listing.proofs.PieceSteps.{tells_feed, pages_consumed, pages_kept, same_memory}
use Rattle.listing.proofs.pieces.feed_pages.Goals as goal

pub returns : goal.returns
returns c =
    let p = c.replay-done in
    let a = c.args in
    let x = p.new.hkroot in
    let y = p.new.mack in
    let z = p.new.dsm in
    let before = state a.listing a.hkroot.now a.mack.now a.dsm.now in
    tells_feed before a.piece.now a.out.now a.piece.now _ c.requires.0 {x = state a.listing x y z} {o = outcome p.result x y z} p.ensures
    (same_memory a.listing p.result.replay a.listing.replay a.hkroot.now a.mack.now a.dsm.now x y z) refl
    (pages_consumed before a.piece.now c.requires.1) (pages_kept before a.piece.now c.requires.1 (omega (arith, c.min-taken.ensures))) (c.tell.ensures x y z)
