-- `blocks::check`: each check, in its order.
-- Assumes nothing.
use Rattle.transmitter.specs.Write.{blocks}
use Rattle.transmitter.proofs.Rows.{sized_ok}
use Rattle.transmitter.proofs.Cutting.{cut_memory, cut_id, cut_number, cut_reserved, cut_beyond, cut_within}
use Rattle.transmitter.proofs.blocks.check.Goals as goal

pub returns-then-dsm-ne208 : goal.returns-then-dsm-ne208
returns-then-dsm-ne208 c = search cut_memory

pub returns-then-id-gt15 : goal.returns-then-id-gt15
returns-then-id-gt15 c = search cut_id

pub returns-then-n-gt15 : goal.returns-then-n-gt15
returns-then-n-gt15 c = search cut_number

pub returns-in_err-counted : goal.returns-in_err-counted
returns-in_err-counted c =
    let a = c.args in
    cut_reserved a.dsm.now a.id a.n _ _ c.from_residual.ensures.1 c.if-dsm-ne208.false c.if-id-gt15.false c.if-n-gt15.false c.in_err-counted.ensures

pub returns-then-branch-n : goal.returns-then-branch-n
returns-then-branch-n c =
    let a = c.args in
    let p = sized_ok (blocks a.dsm.now a.id) c.in_ok-counted.ensures in
    cut_beyond a.dsm.now a.id a.n c.if-dsm-ne208.false c.if-id-gt15.false c.if-n-gt15.false p.0 p.1 c.if-branch-n.true

pub returns : goal.returns
returns c =
    let a = c.args in
    let p = sized_ok (blocks a.dsm.now a.id) c.in_ok-counted.ensures in
    cut_within a.dsm.now a.id a.n c.if-dsm-ne208.false c.if-id-gt15.false c.if-n-gt15.false p.0 p.1 c.if-branch-n.false
