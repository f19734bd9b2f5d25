-- `maclt::get_maclt_entry`: the tests of the definition, in its order.
-- Assumes nothing.
use native.Mathlib.Omega.{arith}
use Rattle.layouts.specs.Meaning.{slot_numbers}
use Rattle.layouts.proofs.LookUp.{nt_few, nt_is, known_is, entry_message, entry_tag, entry_unknown, entry_no_tag, entry_slot}
use Rattle.layouts.proofs.Refused.{err_as}
use Rattle.layouts.proofs.maclt.get_maclt_entry.Goals as goal

pub returns-then-msg-gt1 : goal.returns-then-msg-gt1
returns-then-msg-gt1 c = search entry_message

pub returns-then-num_tag-eq0 : goal.returns-then-num_tag-eq0
returns-then-num_tag-eq0 c = search entry_tag

pub returns-in_err-row : goal.returns-in_err-row
returns-in_err-row c =
    err_as slot_numbers _ _ c.from_residual.ensures.1
    (entry_unknown _ _ _ c.if-msg-gt1.false c.if-num_tag-eq0.false _ c.in_err-row.ensures)

pub returns-then-row-num_tag : goal.returns-then-row-num_tag
returns-then-row-num_tag c = entry_no_tag _ _ _ c.if-msg-gt1.false c.if-num_tag-eq0.false c.in_ok-row.ensures c.if-row-num_tag.true

pub overflow_shr-code : goal.overflow_shr-code
overflow_shr-code c =
    let k = c.args.maclt in
    omega (arith, nt_few k, nt_is k (known_is k c.in_ok-row.ensures))

pub returns : goal.returns
returns c = entry_slot _ _ _ c.if-msg-gt1.false c.if-num_tag-eq0.false c.in_ok-row.ensures c.if-row-num_tag.false c.decoded.ensures
