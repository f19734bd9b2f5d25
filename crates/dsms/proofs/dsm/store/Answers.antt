-- `dsm::store`: a held block keeps its first bytes.
-- Assumes nothing.
use native.Mathlib.Omega.{arith}
use Rattle.dsms.specs.inner.Dsm.{state_of}
use Rattle.dsms.proofs.Blocks.{stored_held, stored_new}
use Rattle.dsms.proofs.dsm.store.Goals as goal

pub returns-then-not-held-n : goal.returns-then-not-held-n
returns-then-not-held-n c =
    let a = c.args in
    λ id came done.
    stored_new (state_of id came a.held.now done a.dsm.now) a.n a.block.now c.if-not-held-n.true (omega arith) c.copy_from_slice.ensures.after

pub returns-else-not-held-n : goal.returns-else-not-held-n
returns-else-not-held-n c =
    let a = c.args in λ id came done. stored_held (state_of id came a.held.now done a.dsm.now) a.n a.block.now c.if-not-held-n.false
