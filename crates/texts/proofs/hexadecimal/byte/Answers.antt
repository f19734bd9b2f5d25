-- `hexadecimal::byte`: its two digits.
-- Assumes nothing.
use Prim.Native.Nat.{◌+◌, ◌*◌}
use native.Mathlib.Omega.{arith}
use Rattle.texts.proofs.Hexadecimals.{hex_at, hex_digit, byte_at}
use Rattle.texts.proofs.hexadecimal.byte.Goals as goal

pub digit-requires : goal.digit-requires
digit-requires c = hex_digit c.args.text.now (2 * c.args.i) c.requires.1 (omega arith)

pub overflow_mul-result : goal.overflow_mul-result
overflow_mul-result c = omega (arith, hex_at c.args.text.now (2 * c.args.i) c.requires.1 (omega arith), c.digit.ensures)

pub digit-requires-2 : goal.digit-requires-2
digit-requires-2 c = hex_digit c.args.text.now (2 * c.args.i + 1) c.requires.1 (omega arith)

pub overflow_add-result : goal.overflow_add-result
overflow_add-result c =
    let high = hex_at c.args.text.now (2 * c.args.i) c.requires.1 (omega arith) in
    let low = hex_at c.args.text.now (2 * c.args.i + 1) c.requires.1 (omega arith) in
    omega (arith, high, low, c.digit.ensures, c.digit-2.ensures)

pub returns : goal.returns
returns c = search byte_at
