-- `arguments::read`: 7 for the texts, then their numbers.
-- Assumes nothing.
use native.Mathlib.Omega.{arith}
use Rattle.texts.proofs.ReadArguments.{other_many, first_refused, second_refused, third_refused, range_refused, range_given, in_range}
use Rattle.layouts.proofs.Refused.{err_as}
use Rattle.texts.proofs.arguments.read.Goals as goal

pub returns-then-many-ne3 : goal.returns-then-many-ne3
returns-then-many-ne3 c = search other_many

pub returns-in_err-satellite : goal.returns-in_err-satellite
returns-in_err-satellite c = err_as _ _ _ c.from_residual.ensures.1 (first_refused _ _ _ _ _ _ c.if-many-ne3.false c.in_err-satellite.ensures)

pub returns-in_err-week : goal.returns-in_err-week
returns-in_err-week c = err_as _ _ _ c.from_residual-in_err-week.ensures.1 (second_refused _ _ _ _ _ _ c.if-many-ne3.false c.in_ok-satellite.ensures c.in_err-week.ensures)

pub returns-in_err-time : goal.returns-in_err-time
returns-in_err-time c = err_as _ _ _ c.from_residual-in_err-time.ensures.1
    (third_refused _ _ _ _ _ _ c.if-many-ne3.false c.in_ok-satellite.ensures c.in_ok-week.ensures c.in_err-time.ensures)

pub returns-in_err-check : goal.returns-in_err-check
returns-in_err-check c = err_as _ _ _ c.from_residual-in_err-check.ensures.1
    (range_refused _ _ _ _ c.if-many-ne3.false c.in_ok-satellite.ensures c.in_ok-week.ensures c.in_ok-time.ensures _ c.in_err-check.ensures)

pub overflow_cast-result : goal.overflow_cast-result
overflow_cast-result c = omega (arith, in_range _ _ _ c.in_ok-check.ensures)

pub overflow_cast-result-2 : goal.overflow_cast-result-2
overflow_cast-result-2 c = omega (arith, in_range _ _ _ c.in_ok-check.ensures)

pub overflow_cast-result-3 : goal.overflow_cast-result-3
overflow_cast-result-3 c = omega (arith, in_range _ _ _ c.in_ok-check.ensures)

pub returns : goal.returns
returns c = range_given _ _ _ _ c.if-many-ne3.false c.in_ok-satellite.ensures c.in_ok-week.ensures c.in_ok-time.ensures c.in_ok-check.ensures
