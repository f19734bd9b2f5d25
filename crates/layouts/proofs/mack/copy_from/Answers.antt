-- `mack::copy_from`: from a whole byte, or from half of one.
-- Assumes nothing.
use mathlib.Core.Path.{◌≡◌, ap, ◌∙◌}
use Prim.Native.Nat.{ℕ, ◌+◌, ◌*◌, ◌/◌}
use native.Mathlib.Omega.{arith}
use lib.ListN.{length}
use Rattle.layouts.specs.Bits.{bytes_from}
use Rattle.layouts.proofs.Tags.{whole_bytes}
use Rattle.layouts.proofs.mack.copy_from.Goals as goal

pub returns-then-start-eq0 : goal.returns-then-start-eq0
returns-then-start-eq0 c =
    let a = c.args in
    let f : ℕ = a.start / 8 in
    let n : ℕ = length a.out.now in
    let whole : 8 * f ≡ a.start = omega arith in
    c.copy_bytes.ensures
    ∙ whole_bytes a.msg.now f n (omega arith) (λ i. omega (arith, c.type_inv.msg i))
    ∙ ap (λ (s : ℕ). bytes_from a.msg.now s n) whole

pub returns : goal.returns
returns c =
    let a = c.args in
    let half : 8 * (a.start / 8) + 4 ≡ a.start = omega arith in
    c.copy_half_bytes.ensures ∙ ap (λ (s : ℕ). bytes_from a.msg.now s (length a.out.now)) half
