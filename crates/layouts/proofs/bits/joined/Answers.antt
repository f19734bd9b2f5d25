-- `bits::joined`: nothing is shifted out, and the two share no bit.
-- Assumes nothing.
use mathlib.Core.Path.{ap, ◌∙◌}
use Prim.Native.Nat.{ℕ}
use native.Mathlib.Nat.{mod-eq_of_lt}
use lib.Bits.{bit_or, or_shifted}
use Rattle.layouts.proofs.bits.joined.Goals as goal

pub returns : goal.returns
returns c =
    ap (λ (x : ℕ). bit_or x c.args.low) (mod-eq_of_lt c.requires.2) ∙ or_shifted c.args.high c.args.n c.args.low c.requires.1
