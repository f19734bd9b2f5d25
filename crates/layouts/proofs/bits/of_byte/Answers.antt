-- `bits::of_byte`: one shift and one mask.
-- Assumes nothing.
use mathlib.Core.Path.{sym, ap, ◌∙◌, subst⁻¹}
use Prim.Native.Nat.{ℕ, ◌≤◌, ◌-◌, ◌/◌, ◌^◌}
use native.Mathlib.Omega.{arith}
use lib.Bits.{bit_and, and_mask}
use lib.Pow.{pow_pos}
use Rattle.layouts.proofs.Fields.{field_of_byte, one_shl}
use Rattle.layouts.proofs.bits.of_byte.Goals as goal

pub overflow_sub-result-3 : goal.overflow_sub-result-3
overflow_sub-result-3 c =
    let w : ℕ = c.args.at.width in
    subst⁻¹ (λ (x : ℕ). 1 ≤ x) (one_shl 8 w (omega arith)) (pow_pos w)

pub returns : goal.returns
returns c =
    let a = c.args in
    let o : ℕ = a.at.first in
    let w : ℕ = a.at.width in
    let high : ℕ = a.byte / 2 ^ (8 - o - w) in
    ap (λ (n : ℕ). bit_and high (n - 1)) (one_shl 8 w (omega arith))
    ∙ and_mask high w
    ∙ sym (field_of_byte a.byte o w (omega arith))
