-- `bits::size_at`: the field is a half byte, so the table has its code.
-- Assumes nothing.
use mathlib.Core.Path.{◌∙◌}
use mathlib.Core.List.{[], ◌∷◌}
use Prim.Native.Nat.{ℕ}
use lib.ListN.{get_or}
use native.Mathlib.Omega.{arith}
use Rattle.layouts.specs.Bits.{row}
use Rattle.layouts.proofs.Answers.{by_value}
use Rattle.layouts.proofs.Readers.{half_byte, size_given, size_reserved, size_refused}
use Rattle.layouts.proofs.Refused.{err_as}
use Rattle.layouts.proofs.bits.size_at.Goals as goal

-- the code of the table is below 16
pub bounds-sizes-code : goal.bounds-sizes-code
bounds-sizes-code c =
    let a = c.args in
    omega (arith, half_byte (row "" a.at.first a.at.width) a.msg.now c.in_ok-code.ensures c.requires)

pub offset_bounds-sizes-code : goal.offset_bounds-sizes-code
offset_bounds-sizes-code c =
    let a = c.args in
    omega (arith, half_byte (row "" a.at.first a.at.width) a.msg.now c.in_ok-code.ensures c.requires)

pub returns-in_err-code : goal.returns-in_err-code
returns-in_err-code c =
    let a = c.args in
    err_as (λ v. v ∷ []) _ _ c.from_residual.ensures.1
    (size_refused (row "" a.at.first a.at.width) a.msg.now (λ (k : ℕ). get_or a.sizes k 0) _ c.in_err-code.ensures)

pub returns-then-size-eq0 : goal.returns-then-size-eq0
returns-then-size-eq0 c =
    let a = c.args in
    size_reserved (row "" a.at.first a.at.width) a.msg.now c.in_ok-code.ensures (λ (k : ℕ). get_or a.sizes k 0) c.if-size-eq0.true

pub returns : goal.returns
returns c =
    let a = c.args in
    by_value c.from.ensures
    ∙ size_given (row "" a.at.first a.at.width) a.msg.now c.in_ok-code.ensures (λ (k : ℕ). get_or a.sizes k 0) c.if-size-eq0.false
