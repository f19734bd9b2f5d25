-- `subframe::eight_small`: no high half of the eight has a bit.
-- Assumes nothing.
use Rattle.subframes.proofs.Counts.{joined_lt, eight_clear}
use native.Mathlib.Omega.{arith}
use Rattle.subframes.proofs.subframe.eight_small.Goals as goal

pub overflow_mul-result : goal.overflow_mul-result
overflow_mul-result c = omega (arith, joined_lt c.joined-high.ensures)

pub overflow_add-result : goal.overflow_add-result
overflow_add-result c = omega (arith, joined_lt c.joined-low.ensures, joined_lt c.joined-high.ensures)

pub returns : goal.returns
returns c = search eight_clear
