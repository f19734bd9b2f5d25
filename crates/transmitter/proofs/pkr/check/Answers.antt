-- `pkr::check`: each check, in its order.
-- Assumes nothing.
use mathlib.Core.Path.{◌≡◌, ap, ◌∙◌}
use Rattle.std.specs.Prelude.{Ok}
use Rattle.layouts.specs.Sizes.{size, pkr_blocks}
use Rattle.layouts.proofs.Tables.{by_code}
use Rattle.transmitter.specs.WritePromises.{pkr_of}
use Rattle.transmitter.specs.inner.Parts.{sized}
use Rattle.transmitter.proofs.Rows.{sized_ok}
use Rattle.transmitter.proofs.PkrRefusals.{pkr_memory, pkr_nodes, pkr_wide, pkr_low, pkr_high, pkr_reserved, pkr_type, pkr_key, pkr_unfilled, pkr_filled}
use Rattle.transmitter.proofs.pkr.check.Goals as goal
use Rattle.transmitter.proofs.pkr.check.Goals.{In_ok-blocks}

blocks_are : (c : In_ok-blocks) → Ok c.in_ok-blocks.blocks ≡ sized (size pkr_blocks c.args.v.nb_dp)
unfolding pkr_blocks
blocks_are c = c.in_ok-blocks.ensures ∙ ap sized (by_code pkr_blocks c.args.v.nb_dp tt)

pub returns-then-dsm-ne208 : goal.returns-then-dsm-ne208
returns-then-dsm-ne208 c = search pkr_memory

pub returns-then-nodes-ne128 : goal.returns-then-nodes-ne128
returns-then-nodes-ne128 c = search pkr_nodes

pub returns-then-is_wide : goal.returns-then-is_wide
returns-then-is_wide c = search pkr_wide

pub returns-then-id-lt12 : goal.returns-then-id-lt12
returns-then-id-lt12 c = search pkr_low

pub returns-then-id-gt15 : goal.returns-then-id-gt15
returns-then-id-gt15 c = search pkr_high

pub returns-in_err-blocks : goal.returns-in_err-blocks
unfolding pkr_blocks
returns-in_err-blocks c =
    let a = c.args in
    pkr_reserved a.dsm.now a.id (pkr_of a.v) a.nodes.now a.key.now a.padding.now c.if-dsm-ne208.false c.if-nodes-ne128.false c.is_wide.ensures
    c.if-is_wide.false c.if-id-lt12.false c.if-id-gt15.false _ _ c.from_residual.ensures.1 (c.in_err-blocks.ensures ∙ ap sized (by_code pkr_blocks a.v.nb_dp tt))

pub returns-in_default : goal.returns-in_default
returns-in_default c =
    let a = c.args in
    let p = sized_ok (size pkr_blocks a.v.nb_dp) (blocks_are (goal.at.returns-in_default c).In_ok-blocks) in
    pkr_type a.dsm.now a.id (pkr_of a.v) a.nodes.now a.key.now a.padding.now c.if-dsm-ne208.false c.if-nodes-ne128.false c.is_wide.ensures
    c.if-is_wide.false c.if-id-lt12.false c.if-id-gt15.false p.0 p.1 c.key_length.ensures c.in_default.is

pub returns-then-key-k : goal.returns-then-key-k
returns-then-key-k c =
    let a = c.args in
    let p = sized_ok (size pkr_blocks a.v.nb_dp) (blocks_are (goal.at.returns-then-key-k c).In_ok-blocks) in
    pkr_key a.dsm.now a.id (pkr_of a.v) a.nodes.now a.key.now a.padding.now c.if-dsm-ne208.false c.if-nodes-ne128.false c.is_wide.ensures
    c.if-is_wide.false c.if-id-lt12.false c.if-id-gt15.false p.0 p.1 c.key_length.ensures c.in-Some.is c.if-key-k.true

pub returns-then-ne : goal.returns-then-ne
returns-then-ne c =
    let a = c.args in
    let p = sized_ok (size pkr_blocks a.v.nb_dp) (blocks_are (goal.at.returns-then-ne c).In_ok-blocks) in
    pkr_unfilled a.dsm.now a.id (pkr_of a.v) a.nodes.now a.key.now a.padding.now c.if-dsm-ne208.false c.if-nodes-ne128.false c.is_wide.ensures
    c.if-is_wide.false c.if-id-lt12.false c.if-id-gt15.false p.0 p.1 c.key_length.ensures c.in-Some.is c.if-key-k.false c.checked_sub.result
    (rw c.from.ensures at c.checked_sub.ensures) c.ne.ensures c.if-ne.true

pub returns : goal.returns
returns c =
    let a = c.args in
    let p = sized_ok (size pkr_blocks a.v.nb_dp) (blocks_are (goal.at.returns c).In_ok-blocks) in
    pkr_filled a.dsm.now a.id (pkr_of a.v) a.nodes.now a.key.now a.padding.now c.if-dsm-ne208.false c.if-nodes-ne128.false c.is_wide.ensures
    c.if-is_wide.false c.if-id-lt12.false c.if-id-gt15.false p.0 p.1 c.key_length.ensures c.in-Some.is c.if-key-k.false c.checked_sub.result
    (rw c.from.ensures at c.checked_sub.ensures) c.ne.ensures c.if-ne.false
