-- `subframe::all_small`: before each turn what is left is small exactly if all is.
-- Assumes nothing.
use Prim.Native.Nat.{ℕ, ◌+◌, ◌*◌}
use mathlib.Core.Path.{◌≡◌, sym, ap, ◌∙◌}
use mathlib.Core.Bool.{not}
use lib.ListN.{length, drop}
use native.Mathlib.Omega.{arith}
use borrow.Author.Rules.{rules}
use Rattle.subframes.specs.Subframe.{small}
use Rattle.subframes.proofs.Counts.{first_stop, first_go, small_stop, small_go, small_end}
use Rattle.subframes.proofs.subframe.all_small.Goals as goal

pub returns-then-joined-ne0 : goal.returns-then-joined-ne0
returns-then-joined-ne0 c =
    let l = c.args.counts in
    let h : length l ≡ 36 = search rules in
    first_stop l (omega arith) c.joined.ensures c.if-joined-ne0.true

pub loop-k-init : goal.loop-k-init
loop-k-init c =
    let l = c.args.counts in
    let h : length l ≡ 36 = search rules in
    first_go l (omega arith) c.joined.ensures c.if-joined-ne0.false

pub returns-then-not-eight_small : goal.returns-then-not-eight_small
returns-then-not-eight_small c =
    let l = c.args.counts in
    let h : length l ≡ 36 = search rules in
    let b = c.loop-k in
    small_stop l (4 + 8 * b.k) (omega arith) c.eight_small.ensures b.invariant (ap not c.if-not-eight_small.true)

pub loop-k-preserved : goal.loop-k-preserved
loop-k-preserved c =
    let l = c.args.counts in
    let h : length l ≡ 36 = search rules in
    let b = c.loop-k in
    let next : 4 + 8 * b.k + 8 ≡ 4 + 8 * (b.k + 1) = omega arith in
    ap (λ (n : ℕ). small (drop n l)) (sym next)
    ∙ small_go l (4 + 8 * b.k) (omega arith) c.eight_small.ensures b.invariant (ap not c.if-not-eight_small.false)

pub returns : goal.returns
returns c =
    let l = c.args.counts in
    let h : length l ≡ 36 = search rules in
    small_end l (4 + 8 * c.loop-k.k) (omega arith) c.loop-k.invariant
