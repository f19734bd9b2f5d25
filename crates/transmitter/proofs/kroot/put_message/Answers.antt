-- `kroot::put_message`: each part behind the one before.
-- Assumes nothing.
use mathlib.Core.Path.{refl}
use Rattle.transmitter.specs.WritePromises.{kroot_of}
use Rattle.transmitter.proofs.Putting.{kroot_put}
use Rattle.transmitter.proofs.kroot.put_message.Goals as goal

pub returns : goal.returns
returns c =
    let a = c.args in
    kroot_put (kroot_of a.v) a.key.now a.signature.now a.padding.now a.dsm.now c.head.result c.head.ensures
    c.requires.0.alpha c.put_number.ensures c.put_number-2.ensures c.put.ensures c.put-2.ensures refl
    c.put-3.ensures refl
