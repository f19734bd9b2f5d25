-- `pkr::put_message`: each part behind the one before.
-- Assumes nothing.
use mathlib.Core.Path.{refl}
use Rattle.transmitter.specs.WritePromises.{pkr_of}
use Rattle.transmitter.proofs.Putting.{pkr_put}
use Rattle.transmitter.proofs.Rows.{two_placed}
use Rattle.transmitter.proofs.pkr.put_message.Goals as goal

pub returns : goal.returns
returns c =
    let a = c.args in
    pkr_put (pkr_of a.v) a.nodes.now a.key.now a.padding.now a.dsm.now _ _ c.requires.1
    (two_placed _ _ a.v.nb_dp a.v.mid c.placed.ensures c.placed-2.ensures)
    (two_placed _ _ a.v.npkt a.v.npkid c.placed-3.ensures c.placed-4.ensures) c.put_number.ensures
    c.put.ensures c.put_number-2.ensures c.put-2.ensures c.put-3.ensures refl
