-- `mack::copy_bytes`: before each turn the first `i` bytes are copied.
-- Assumes nothing.
use mathlib.Core.Path.{◌≡◌, ap, ◌∙◌}
use Prim.Native.Nat.{ℕ}
use native.Mathlib.Omega.{arith}
use lib.ListN.{length, take, drop}
use Rattle.layouts.proofs.Copies.{copy_turn, copy_all}
use Rattle.layouts.proofs.mack.copy_bytes.Goals as goal

pub loop-i-preserved : goal.loop-i-preserved
loop-i-preserved c =
    let a = c.args in
    let h = c.loop-i in
    copy_turn a.msg.now a.out.now h.out a.first h.i h.invariant (omega arith) (omega arith)

pub returns : goal.returns
returns c =
    let a = c.args in
    let h = c.loop-i in
    let all : h.i ≡ length a.out.now = omega arith in
    h.invariant ∙ copy_all (drop a.first a.msg.now) a.out.now h.i (omega arith) ∙ ap (λ (k : ℕ). take k (drop a.first a.msg.now)) all
