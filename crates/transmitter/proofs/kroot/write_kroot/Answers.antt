-- `kroot::write_kroot`: the refusals, then the parts.
-- Assumes nothing.
use mathlib.Core.Path.{refl}
use Prim.Native.Nat.{◌+◌, ◌≤◌}
use lib.ListN.{length}
use native.Mathlib.Omega.{arith}
use Rattle.transmitter.specs.WritePromises.{kroot_of}
use Rattle.transmitter.proofs.Putting.{kroot_refused, kroot_narrow, kroot_fits, kroot_long, kroot_id, kroot_written}
use Rattle.transmitter.proofs.kroot.write_kroot.Goals as goal
use Rattle.transmitter.proofs.kroot.write_kroot.Goals.{In_ok-check}

long : (c : In_ok-check) → let a = c.args in 13 + length a.key.now + length a.signature.now + length a.padding.now ≤ 208
long c = let a = c.args in kroot_long a.dsm.now a.id a.values a.key.now a.signature.now a.padding.now c.in_ok-check.ensures

low : (c : In_ok-check) → c.args.id ≤ 11
low c = let a = c.args in kroot_id a.dsm.now a.id a.values a.key.now a.signature.now a.padding.now c.in_ok-check.ensures

pub returns-in_err-check : goal.returns-in_err-check
returns-in_err-check c =
    let a = c.args in
    kroot_refused a.dsm.now a.id (kroot_of a.values) a.key.now a.signature.now a.padding.now _ _ c.from_residual.ensures.1 c.in_err-check.ensures

pub put_message-requires : goal.put_message-requires
put_message-requires c =
    let a = c.args in
    let e = c.in_ok-check.ensures in (
      kroot_narrow a.dsm.now a.id a.values a.key.now a.signature.now a.padding.now e,
      kroot_fits a.dsm.now a.id a.values a.key.now a.signature.now a.padding.now e,
    )

pub overflow_cast-result : goal.overflow_cast-result
overflow_cast-result c = omega (arith, low (goal.at.overflow_cast-result c).In_ok-check)

pub overflow_add-result-2 : goal.overflow_add-result-2
overflow_add-result-2 c = omega (arith, long (goal.at.overflow_add-result-2 c).In_ok-check)

pub overflow_add-result-3 : goal.overflow_add-result-3
overflow_add-result-3 c = omega (arith, long (goal.at.overflow_add-result-3 c).In_ok-check)

pub returns : goal.returns
returns c =
    let a = c.args in
    kroot_written a.dsm.now a.id (kroot_of a.values) a.key.now a.signature.now a.padding.now c.in_ok-check.ensures c.put_message.ensures
    (low (goal.at.returns c).In_ok-check) refl
