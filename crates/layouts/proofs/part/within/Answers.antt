-- `part::within`: the two tests of lengths are the one of the sum.
-- Assumes nothing.
use Rattle.layouts.proofs.Readers.{part_refused, part_shown}
use native.Mathlib.Omega.{arith}
use Rattle.layouts.proofs.part.within.Goals as goal

pub returns-then-len-first : goal.returns-then-len-first
returns-then-len-first c = let a = c.args in part_refused a.msg.now a.first a.many (omega arith)

pub returns-then-len-first-2 : goal.returns-then-len-first-2
returns-then-len-first-2 c = let a = c.args in part_refused a.msg.now a.first a.many (omega arith)

pub returns : goal.returns
returns c = let a = c.args in part_shown a.msg.now a.first a.many (omega arith)
