-- `dsm::feed`: the refusals, then the block of its ID.
-- Assumes nothing.
use mathlib.Core.Path.{◌≡◌, ap, ◌∙◌}
use Rattle.dsms.specs.Dsm.{State}
use Rattle.dsms.specs.DsmPromises.{state}
use native.Mathlib.Omega.{arith}
use Rattle.dsms.proofs.Blocks.{feed_err, feed_taken, admitted_then, header_id, header_block, begun_id}
use Rattle.dsms.proofs.dsm.feed.Goals as goal

pub returns-in-Err : goal.returns-in-Err
returns-in-Err c = let a = c.args in feed_err (state a.collector a.dsm.now) a.header a.block.now c.in-Err.refusal c.in-Err.ensures

pub take-requires : goal.take-requires
take-requires c =
    let i = c.dsm_id in
    let a = c.args in
    let fits = admitted_then a.collector.id a.dsm.now a.block.now c.in_default.ensures in
    let same : c.begin-next.result.id ≡ i.result =
    ap (λ (x : State). x.id) (c.begin-next.ensures a.dsm.now) ∙ begun_id (state a.collector a.dsm.now) i.result in (
      omega (arith, i.ensures, header_id a.header),
      omega (arith, c.dsm_block_id.ensures, header_block a.header),
      fits.0,
      fits.1,
    )

pub returns : goal.returns
returns c =
    let a = c.args in
    feed_taken (state a.collector a.dsm.now) a.header a.block.now c.in_default.ensures c.dsm_id.ensures
    c.dsm_block_id.ensures (c.begin-next.ensures a.dsm.now) c.take.ensures
