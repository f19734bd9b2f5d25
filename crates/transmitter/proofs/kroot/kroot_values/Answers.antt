-- `kroot::kroot_values`: each row as it stands.
-- Assumes nothing.
use mathlib.Core.Path.{refl}
use native.Mathlib.Omega.{arith}
use Rattle.transmitter.proofs.Rows.{more, kroot_short, kroot_raw}
use Rattle.transmitter.proofs.kroot.kroot_values.Goals as goal

pub returns-then-msg-lt-KROOT_BYTE : goal.returns-then-msg-lt-KROOT_BYTE
returns-then-msg-lt-KROOT_BYTE c = search kroot_short

pub returns : goal.returns
returns c =
    kroot_raw c.args.msg.now (omega arith)
    (more c.stands.ensures
    (more c.stands-2.ensures
    (more c.stands-3.ensures
    (more c.stands-4.ensures
    (more c.stands-5.ensures
    (more c.stands-6.ensures
    (more c.stands-7.ensures
    (more c.stands-8.ensures
    (more c.stands-9.ensures
    (more c.stands-10.ensures
    (more c.stands-11.ensures refl)))))))))))
