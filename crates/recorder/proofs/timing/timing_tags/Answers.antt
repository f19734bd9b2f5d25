-- `timing::timing_tags`.
-- Assumes nothing.
use native.Mathlib.Omega.{arith}
use Rattle.recorder.proofs.WalkAnswers.{nt_small, timing_misfit, timing_refused, timing_given, mack_passes}
use Rattle.recorder.proofs.timing.timing_tags.Goals as goal

pub returns-then-mack-ne60 : goal.returns-then-mack-ne60
returns-then-mack-ne60 c = search timing_misfit

pub returns-in_err-nt : goal.returns-in_err-nt
returns-in_err-nt c = timing_refused _ _ _ c.if-mack-ne60.false _ _ c.from_residual.ensures.1 c.in_err-nt.ensures

pub overflow_cast-nt : goal.overflow_cast-nt
overflow_cast-nt c = omega (arith, nt_small c.args.mack.sizes.key_bytes c.args.mack.sizes.tag_bits c.in_ok-nt.ensures)

pub list-requires : goal.list-requires
list-requires c = mack_passes _ _ _ c.if-mack-ne60.false c.in_ok-nt.ensures

pub returns : goal.returns
returns c = timing_given _ _ _ c.if-mack-ne60.false c.in_ok-nt.ensures c.list.ensures
