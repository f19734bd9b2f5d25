-- `pieces::feed_page`: the held page with the bytes of the piece.
-- Assumes nothing.
use Prim.Native.Nat.{◌+◌, ◌-◌, min}
use native.Mathlib.Omega.{arith}
use lib.ListN.{length}
use mathlib.Core.Path.{◌≡◌, refl, sym}
use lib.Seq.{length-take-le}
use Rattle.page_replay.specs.ReplayPromises.{outcome}
use Rattle.listing.specs.PiecePromises.{state}
use Rattle.listing.proofs.PieceSteps.{tells_feed, page_consumed, page_kept, same_memory}
use borrow.Author.Rules.{rules}
use Rattle.listing.proofs.pieces.feed_page.Goals as goal

pub slice_bounds-replay-end : goal.slice_bounds-replay-end
slice_bounds-replay-end c = sym (length-take-le (c.args.listing.held + c.min-taken.result) c.fill-page.result (search rules))

pub tell-requires : goal.tell-requires
tell-requires c = c.requires.0.room

pub returns : goal.returns
returns c =
    let p = c.replay-done in
    let a = c.args in
    let x = p.new.hkroot in
    let y = p.new.mack in
    let z = p.new.dsm in
    let before = state a.listing a.hkroot.now a.mack.now a.dsm.now in
    let long = c.fill-page.ensures.page_len in
    let few = c.requires.0.few in
    let few_taken : c.min-taken.result ≡ min (30 - a.listing.held) (length a.piece.now) = omega (arith, c.min-taken.ensures) in
    tells_feed before a.piece.now a.out.now _ _ c.requires.0 {x = state a.listing x y z} {o = outcome p.result x y z} p.ensures
    (same_memory a.listing p.result.replay a.listing.replay a.hkroot.now a.mack.now a.dsm.now x y z) refl
    (page_consumed before a.piece.now c.requires.1 few long few_taken c.fill-page.ensures.value)
    (page_kept before a.piece.now c.requires.1 few long few_taken c.fill-page.ensures.value) (c.tell.ensures x y z)
