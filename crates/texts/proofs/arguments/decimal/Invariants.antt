-- `arguments::decimal`: before each turn the first digits are read.
-- Assumes nothing.
use Rattle.std.proofs.Common.{◌≡◌}
use Prim.Native.Nat.{min}
use mathlib.Core.Bool.{true}
use lib.ListN.{take}
use Rattle.texts.specs.Decimal.{digits_only, number, most}
use Rattle.texts.proofs.arguments.decimal.Given as goal

abbrev pub invariant-loop-c : goal.invariant-loop-c
invariant-loop-c l = record {
  digits : digits_only (take l.c-index l.text) ≡ true;
  value : l.n ≡ min (number (take l.c-index l.text)) most;
}
