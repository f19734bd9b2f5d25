-- `bits::short`: the bytes that the field touches are one field, and the answer is a field inside it.
-- Assumes nothing.
use mathlib.Core.Path.{◌≡◌, ap, ◌∙◌, subst⁻¹}
use Prim.Native.Nat.{ℕ, ◌≤◌, ◌-◌, ◌+◌, ◌*◌, ◌/◌, ◌%◌, ◌^◌}
use native.Mathlib.Omega.{arith}
use lib.Bits.{bit_and, and_mask}
use lib.Pow.{pow_pos}
use Rattle.layouts.specs.Bits.{field}
use Rattle.layouts.proofs.Fields.{field_mid, one_shl}
use Rattle.layouts.proofs.bits.short.Goals as goal

pub overflow_sub-result-3 : goal.overflow_sub-result-3
overflow_sub-result-3 c =
    let w : ℕ = c.args.width in
    subst⁻¹ (λ (x : ℕ). 1 ≤ x) (one_shl 64 w (omega arith)) (pow_pos w)

pub returns : goal.returns
returns c =
    let a = c.args in
    let l = a.s.now in
    let f : ℕ = 8 * a.first in
    let x : ℕ = (a.before + a.width + 7) / 8 * 8 - a.before - a.width in
    let acc : ℕ = c.bytes-acc.result in
    let whole : acc ≡ field l f (a.before + a.width + x) = c.bytes-acc.ensures ∙ ap (λ (n : ℕ). field l f n) (omega arith) in
    ap (λ (n : ℕ). bit_and (acc / 2 ^ x) (n - 1)) (one_shl 64 a.width (omega arith))
    ∙ and_mask (acc / 2 ^ x) a.width
    ∙ ap (λ (n : ℕ). n / 2 ^ x % 2 ^ a.width) whole
    ∙ field_mid l f a.before a.width x
