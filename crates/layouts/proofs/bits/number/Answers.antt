-- `bits::number`: a field that ends past the message is refused, any other is read. The test of bytes is the test of bits.
-- Assumes nothing.
use mathlib.Core.Path.{ap}
use mathlib.Core.List.{[], ◌∷◌}
use Prim.Native.Nat.{ℕ, ◌+◌, ◌*◌}
use native.Mathlib.Omega.{arith}
use lib.ListN.{length}
use borrow.Author.Tests.{lt-ltb, le-ltb}
use Rattle.layouts.specs.Answer.{gives}
use Rattle.layouts.proofs.Answers.{stop, pass, done}
use Rattle.layouts.proofs.bits.number.Goals as goal

pub returns-then-len-first : goal.returns-then-len-first
returns-then-len-first c =
    let a = c.args in
    stop _ _ _ _ tt (lt-ltb (8 * length a.msg.now) (a.at.first + a.at.width) (omega arith))

pub returns-then-len-first-2 : goal.returns-then-len-first-2
returns-then-len-first-2 c =
    let a = c.args in
    stop _ _ _ _ tt (lt-ltb (8 * length a.msg.now) (a.at.first + a.at.width) (omega arith))

pub returns : goal.returns
returns c =
    let a = c.args in
    pass _ _ _ _ (le-ltb (8 * length a.msg.now) (a.at.first + a.at.width) (omega arith))
    (done _ (ap (λ (n : ℕ). gives (n ∷ [])) c.long.ensures))
