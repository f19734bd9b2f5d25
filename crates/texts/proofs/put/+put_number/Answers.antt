-- `put::put_number`: one digit, or the digits but the last and then that one.
-- Assumes nothing.
use native.Mathlib.Omega.{arith}
use Rattle.texts.proofs.Decimals.{digits_some, ten_longer}
use Rattle.texts.proofs.Written.{one_digit, digit_more}
use Rattle.texts.proofs.put.+put_number.Goals as goal

pub bounds-out-at : goal.bounds-out-at
bounds-out-at t c = omega (arith, digits_some c.args.n, c.requires)

pub returns-then-n-lt10 : goal.returns-then-n-lt10
returns-then-n-lt10 t c =
    let e = one_digit c.args.out.now c.args.at c.args.n c.if-n-lt10.true c.requires in
    record { out_after = e.0; value = e.1 }

pub put_number-end-requires : goal.put_number-end-requires
put_number-end-requires t c =
    (omega arith, omega (arith, ten_longer c.args.n c.if-n-lt10.false, c.requires))

pub bounds-out-end : goal.bounds-out-end
bounds-out-end t c =
    omega (arith, ten_longer c.args.n c.if-n-lt10.false, c.requires, c.put_number-end.ensures.value, c.put_number-end.auto.out)

pub returns : goal.returns
returns t c =
    let p = c.put_number-end.ensures in
    let e = digit_more c.args.out.now c.args.at c.args.n c.if-n-lt10.false c.requires p.out_after p.value in
    record { out_after = e.0; value = e.1 }
