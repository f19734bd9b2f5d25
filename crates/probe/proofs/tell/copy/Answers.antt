-- `tell::copy`: before each turn the first `i` bytes are copied.
-- Assumes nothing.
use mathlib.Core.Path.{◌≡◌, refl, ap, ◌∙◌}
use mathlib.Core.List.{List, ◌++◌}
use Prim.Native.Nat.{ℕ}
use native.Mathlib.Omega.{arith}
use borrow.Author.Tests.{le-leb, lt-leb}
use lib.ListN.{length, take, drop}
use lib.Seq.{take-length}
use Rattle.layouts.proofs.Copies.{copy_more}
use Rattle.probe.specs.Telling.{copied_to}
use Rattle.probe.proofs.tell.copy.Goals as goal

pub returns-then-out-many : goal.returns-then-out-many
unfolding copied_to
returns-then-out-many c = let a = c.args in rw (lt-leb (length a.bytes.now) (length a.out.now) (omega arith))

pub loop-i-init : goal.loop-i-init
loop-i-init c = refl

pub loop-i-preserved : goal.loop-i-preserved
loop-i-preserved c = let a = c.args in let h = c.loop-i in rw h.invariant (copy_more a.bytes.now a.out.now h.i (omega arith) (omega arith))

pub returns : goal.returns
unfolding copied_to
returns c =
    let a = c.args in
    let h = c.loop-i in
    let all : h.i ≡ length a.bytes.now = omega arith in
    let fits = le-leb (length a.bytes.now) (length a.out.now) (omega arith) in
    rw fits (
    h.invariant
    ∙ ap (λ (n : ℕ). take n a.bytes.now ++ drop n a.out.now) all
    ∙ ap (λ (l : List ℕ). l ++ drop (length a.bytes.now) a.out.now) (take-length a.bytes.now)
    )
