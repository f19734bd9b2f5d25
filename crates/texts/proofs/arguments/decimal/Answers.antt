-- `arguments::decimal`: 7, or the number.
-- Assumes nothing.
use native.Mathlib.Omega.{arith}
use Rattle.texts.proofs.Decimals.{no_digits, number_none, digits_more}
use Rattle.texts.proofs.ReadArguments.{none_refused, digit_refused, value_more, decimal_given}
use Rattle.texts.proofs.arguments.decimal.Goals as goal

pub returns-then-is_empty : goal.returns-then-is_empty
returns-then-is_empty c = search none_refused

pub loop-c-init : goal.loop-c-init
loop-c-init c = record { digits = no_digits c.args.text.now; value = omega (arith, number_none c.args.text.now) }

pub returns-then-not-is_ascii_digit : goal.returns-then-not-is_ascii_digit
returns-then-not-is_ascii_digit c = search digit_refused

pub loop-c-preserved : goal.loop-c-preserved
loop-c-preserved c = record { digits = search digits_more; value = search value_more }

pub returns : goal.returns
returns c = search decimal_given
