-- `fields::put`: before each turn the first `i` bytes are copied.
-- Assumes nothing.
use mathlib.Core.Path.{◌≡◌, ap, ◌∙◌}
use mathlib.Core.List.{List, ◌++◌}
use Prim.Native.Nat.{ℕ, ◌+◌}
use native.Mathlib.Numerals.{add-one}
use lib.ListN.{length, take, drop}
use lib.Seq.{paste, paste-zero, paste-suc, take-length}
use native.Mathlib.Omega.{arith}
use Rattle.transmitter.proofs.fields.put.Goals as goal

pub loop-i-init : goal.loop-i-init
loop-i-init c = paste-zero c.args.dsm.now c.args.at c.args.from.now

pub loop-i-preserved : goal.loop-i-preserved
loop-i-preserved c =
    let a = c.args in
    let h = c.loop-i in
    rw (h.invariant, add-one h.i) (paste-suc a.dsm.now a.at a.from.now h.i 0 (omega arith) (omega arith))

pub returns : goal.returns
returns c =
    let a = c.args in
    let h = c.loop-i in
    let all : h.i ≡ length a.from.now = omega arith in
    h.invariant
    ∙ ap (λ (n : ℕ). paste a.dsm.now a.at a.from.now n) all
    ∙ ap (λ (l : List ℕ). take a.at a.dsm.now ++ l ++ drop (a.at + length a.from.now) a.dsm.now) (take-length a.from.now)
