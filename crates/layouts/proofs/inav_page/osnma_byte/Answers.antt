-- `inav_page::osnma_byte`: a byte that starts two bits into one.
-- Assumes nothing.
use Prim.Native.Nat.{ℕ, ◌+◌, ◌*◌}
use mathlib.Core.Path.{◌≡◌, ap, ◌∙◌}
use native.Mathlib.Omega.{arith}
use Rattle.layouts.specs.Bits.{field}
use Rattle.layouts.proofs.inav_page.osnma_byte.Goals as goal

pub returns : goal.returns
returns c =
    let a = c.args in
    let start : 8 * (17 + a.k) + 2 ≡ 138 + 8 * a.k = omega arith in
    c.byte_at.ensures ∙ ap (λ (s : ℕ). field a.page.now s 8) start
