-- `mack::copy_half_bytes`: before each turn the first `i` bytes are copied.
-- Assumes nothing.
use Prim.Native.Nat.{◌+◌}
use native.Mathlib.Omega.{arith}
use Rattle.layouts.proofs.Tags.{half_more, half_done}
use Rattle.layouts.proofs.mack.copy_half_bytes.Goals as goal

pub loop-i-preserved : goal.loop-i-preserved
loop-i-preserved c =
    let a = c.args in
    let h = c.loop-i in
    half_more a.msg.now a.out.now h.out a.first h.i h.invariant (omega arith) (omega (arith, c.type_inv.msg (a.first + h.i + 1))) c.across.ensures

pub returns : goal.returns
returns c =
    let a = c.args in
    half_done a.msg.now a.out.now c.loop-i.out a.first c.loop-i.i c.loop-i.invariant (omega arith)
