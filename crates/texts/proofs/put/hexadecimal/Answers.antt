-- `put::hexadecimal`: no room, or the digits.
-- Assumes nothing.
use native.Mathlib.Omega.{arith}
use Rattle.std.proofs.Common.{rules}
use Rattle.texts.specs.Hexadecimal.{capitals}
use Rattle.texts.proofs.Hexadecimals.{capitals_long}
use Rattle.texts.proofs.PutTexts.{digits_off, digits_on, fits}
use Rattle.texts.proofs.put.hexadecimal.Goals as goal

pub returns-in_err-check_room : goal.returns-in_err-check_room
returns-in_err-check_room c = digits_off _ _ _ _ _ c.from_residual.ensures.1 c.in_err-check_room.ensures

pub put_each-requires-clause-room : goal.put_each-requires-clause-room
put_each-requires-clause-room c = fits _ _ _ c.in_ok-check_room.ensures

pub returns : goal.returns
returns c =
    let l = capitals_long c.args.bytes.now in
    digits_on _ _ _ c.in_ok-check_room.ensures (omega (arith, c.put_each.ensures.value))
    (c.put_each.ensures.out_after (capitals c.args.bytes.now) l (λ k r h p. search rules))
