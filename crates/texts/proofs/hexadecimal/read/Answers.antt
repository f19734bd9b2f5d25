-- `hexadecimal::read`: no room, no digits, or the bytes.
-- Assumes nothing.
use Rattle.std.proofs.Common.{rules}
use native.Mathlib.Omega.{arith}
use Rattle.texts.specs.Hexadecimal.{bytes_of}
use Rattle.texts.proofs.Hexadecimals.{bytes_long}
use Rattle.texts.proofs.PutTexts.{read_behind, read_off, read_on, fits}
use Rattle.texts.proofs.hexadecimal.read.Goals as goal

pub returns-in_err-check_room : goal.returns-in_err-check_room
returns-in_err-check_room c = read_behind _ _ _ _ _ c.from_residual.ensures.1 c.in_err-check_room.ensures

pub returns-then-not-is_hexadecimal : goal.returns-then-not-is_hexadecimal
returns-then-not-is_hexadecimal c = read_off _ _ _ c.in_ok-check_room.ensures c.is_hexadecimal.ensures (search rules)

pub put_each-requires-clause-room : goal.put_each-requires-clause-room
put_each-requires-clause-room c = fits _ _ _ c.in_ok-check_room.ensures

pub returns : goal.returns
returns c =
    let l = bytes_long c.args.text.now in
    read_on _ _ _ c.in_ok-check_room.ensures c.is_hexadecimal.ensures (search rules) (omega (arith, c.put_each.ensures.value))
    (c.put_each.ensures.out_after (bytes_of c.args.text.now) l (λ k r h p. search rules))
