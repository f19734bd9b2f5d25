-- `pkr::pkr_values`: each row as it stands.
-- Assumes nothing.
use mathlib.Core.Path.{refl}
use native.Mathlib.Omega.{arith}
use Rattle.transmitter.proofs.Rows.{more, pkr_short, pkr_raw}
use Rattle.transmitter.proofs.pkr.pkr_values.Goals as goal

pub returns-then-msg-lt-NPK_BYTE : goal.returns-then-msg-lt-NPK_BYTE
returns-then-msg-lt-NPK_BYTE c = search pkr_short

pub returns : goal.returns
returns c =
    pkr_raw c.args.msg.now (omega arith)
    (more c.stands.ensures
    (more c.stands-2.ensures
    (more c.stands-3.ensures
    (more c.stands-4.ensures refl))))
