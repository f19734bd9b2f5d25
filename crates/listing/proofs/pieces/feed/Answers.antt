-- `pieces::feed`: the room, the record, then the piece.
-- Assumes nothing.
use mathlib.Core.Path.{ap, sym, ◌∙◌}
use Rattle.layouts.specs.Refusals.{refused_by}
use Rattle.listing.specs.PiecePromises.{state}
use Rattle.listing.proofs.PieceSteps.{feed_short, feed_over, feed_high, held_refused, is_refused}
use Rattle.listing.proofs.pieces.feed.Goals as goal

pub returns-then-out-lt256 : goal.returns-then-out-lt256
returns-then-out-lt256 c =
    let a = c.args in
    c.refused.ensures a.hkroot.now a.mack.now a.dsm.now a.out.now
    ∙ feed_short (state a.listing a.hkroot.now a.mack.now a.dsm.now) a.piece.now a.out.now c.if-out-lt256.true

pub returns-then-listing : goal.returns-then-listing
returns-then-listing c =
    let a = c.args in
    c.told.ensures a.hkroot.now a.mack.now a.dsm.now a.out.now
    ∙ feed_over (state a.listing a.hkroot.now a.mack.now a.dsm.now) a.piece.now a.out.now c.if-out-lt256.false c.if-listing.true

pub unwrap_err-requires : goal.unwrap_err-requires
unwrap_err-requires c =
    let a = c.args in
    is_refused c.check.result c.check.ensures.value
    (held_refused a.listing a.hkroot.now a.mack.now a.dsm.now c.if-listing.false c.if-listing-gt29.true)

pub returns-then-listing-gt29 : goal.returns-then-listing-gt29
returns-then-listing-gt29 c =
    let a = c.args in
    let p = c.check in
    c.refused-then-listing-gt29.ensures p.new.hkroot p.new.mack p.new.dsm a.out.now
    ∙ feed_high a.listing a.hkroot.now a.mack.now a.dsm.now a.out.now c.if-out-lt256.false
    (sym (ap refused_by c.unwrap_err.ensures) ∙ p.ensures.value) p.ensures.hkroot_unchanged a.piece.now c.if-listing.false c.if-listing-gt29.true

pub feed_pages-requires : goal.feed_pages-requires
feed_pages-requires c = (
  record { room = c.if-out-lt256.false; few = c.if-listing-gt29.false; goes = c.if-listing.false },
  sym c.are_whole.ensures ∙ c.if-are_whole.true,
)

pub feed_page-requires : goal.feed_page-requires
feed_page-requires c = (
  record { room = c.if-out-lt256.false; few = c.if-listing-gt29.false; goes = c.if-listing.false },
  sym c.are_whole.ensures ∙ c.if-are_whole.false,
)
