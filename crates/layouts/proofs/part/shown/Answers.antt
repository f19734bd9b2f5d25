-- `part::shown`: the bytes of the part.
-- Assumes nothing.
use native.Mathlib.Nat.{add-sub_cancel_left}
use native.Mathlib.Omega.{arith}
use Rattle.layouts.proofs.Answers.{inside, shown_bytes, not_shown}
use borrow.Author.Rules.{rules}
use Rattle.layouts.proofs.part.shown.Goals as goal

pub overflow_add-end : goal.overflow_add-end
overflow_add-end c = omega (arith, inside c.in-Ok.is c.requires)

pub slice_bounds-result-end-in-Ok : goal.slice_bounds-result-end-in-Ok
slice_bounds-result-end-in-Ok c = search (inside, rules)

pub returns-in-Err : goal.returns-in-Err
returns-in-Err c = search not_shown

pub returns-in-Ok : goal.returns-in-Ok
returns-in-Ok c = search (shown_bytes, add-sub_cancel_left)
