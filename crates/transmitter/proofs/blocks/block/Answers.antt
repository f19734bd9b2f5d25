-- `blocks::block`: the refusals, then the header and the bytes.
-- Assumes nothing.
use mathlib.Core.Path.{◌≡◌, ap, ◌∙◌}
use Prim.Native.Nat.{ℕ, ◌+◌, ◌-◌, ◌*◌, ◌≤◌}
use lib.ListN.{length, take, drop}
use borrow.Author.Rules.{rules}
use native.Mathlib.Omega.{arith}
use Rattle.layouts.specs.DsmHeader.{dsm_header}
use Rattle.layouts.specs.Bits.{the}
use Rattle.transmitter.proofs.Cutting.{cut_err, cut_id_few, cut_few, cut_fits, cut_given}
use Rattle.transmitter.proofs.Rows.{two_placed}
use Rattle.transmitter.proofs.blocks.block.Goals as goal
use Rattle.transmitter.proofs.blocks.block.Goals.{In_ok-check}

few : (c : In_ok-check) → (c.args.id ≤ 15) × (c.args.n ≤ 15)
few c = let a = c.args in let e = c.in_ok-check.ensures in (cut_id_few a.dsm.now a.id a.n e, cut_few a.dsm.now a.id a.n e)

pub returns-in_err-check : goal.returns-in_err-check
returns-in_err-check c = let a = c.args in cut_err a.dsm.now a.id a.n _ _ c.from_residual.ensures.1 c.in_err-check.ensures

pub placed-requires : goal.placed-requires
placed-requires c = let h = few (goal.at.placed-requires c).In_ok-check in (omega arith, omega arith, omega (arith, h))

pub placed-requires-2 : goal.placed-requires-2
placed-requires-2 c = let h = few (goal.at.placed-requires-2 c).In_ok-check in (omega arith, omega arith, omega (arith, h))

pub overflow_add-header : goal.overflow_add-header
overflow_add-header c = omega (arith, few (goal.at.overflow_add-header c).In_ok-check)

pub overflow_mul-first : goal.overflow_mul-first
overflow_mul-first c = omega (arith, few (goal.at.overflow_mul-first c).In_ok-check)

pub overflow_cast-result : goal.overflow_cast-result
overflow_cast-result c = omega (arith, few (goal.at.overflow_cast-result c).In_ok-check)

pub overflow_add-part : goal.overflow_add-part
overflow_add-part c = omega (arith, few (goal.at.overflow_add-part c).In_ok-check)

pub slice_bounds-part-end : goal.slice_bounds-part-end
slice_bounds-part-end c =
    let a = c.args in
    let fits : 13 * a.n + 13 ≤ length a.dsm.now = cut_fits a.dsm.now a.id a.n c.in_ok-check.ensures in search rules

pub returns : goal.returns
returns c =
    let a = c.args in
    let thirteen : take (13 * a.n + 13 - 13 * a.n) (drop (13 * a.n) a.dsm.now) ≡ take 13 (drop (13 * a.n) a.dsm.now) =
    let many : 13 * a.n + 13 - 13 * a.n ≡ 13 = omega arith in ap (λ (k : ℕ). take k (drop (13 * a.n) a.dsm.now)) many in
    cut_given a.dsm.now a.id a.n c.in_ok-check.ensures
    (two_placed (the "DSM_ID" dsm_header) (the "DSM_BLOCK_ID" dsm_header) _ _ c.placed.ensures c.placed-2.ensures) (c.copy_from_slice.ensures.after ∙ thirteen)
