-- `pkr::write_pkr`: the refusals, then the parts.
-- Assumes nothing.
use mathlib.Core.Path.{refl}
use native.Mathlib.Omega.{arith}
use Rattle.transmitter.specs.WritePromises.{pkr_of}
use Rattle.transmitter.proofs.Putting.{pkr_refused, pkr_halves, pkr_nodes_long, pkr_fits, pkr_long, pkr_id, pkr_kind, pkr_written}
use Rattle.transmitter.proofs.pkr.write_pkr.Goals as goal

pub returns-in_err-check : goal.returns-in_err-check
returns-in_err-check c =
    let a = c.args in
    pkr_refused a.dsm.now a.id (pkr_of a.values) a.nodes.now a.key.now a.padding.now _ _ c.from_residual.ensures.1 c.in_err-check.ensures

pub put_message-requires : goal.put_message-requires
put_message-requires c =
    let a = c.args in
    let e = c.in_ok-check.ensures in (
      pkr_halves a.dsm.now a.id a.values a.nodes.now a.key.now a.padding.now e,
      pkr_nodes_long a.dsm.now a.id a.values a.nodes.now a.key.now a.padding.now e,
      pkr_fits a.dsm.now a.id a.values a.nodes.now a.key.now a.padding.now e,
    )

pub overflow_cast-result : goal.overflow_cast-result
overflow_cast-result c =
    let a = c.args in omega (arith, pkr_id a.dsm.now a.id a.values a.nodes.now a.key.now a.padding.now c.in_ok-check.ensures)

pub overflow_add-result-2 : goal.overflow_add-result-2
overflow_add-result-2 c =
    let a = c.args in omega (arith, pkr_long a.dsm.now a.id a.values a.nodes.now a.key.now a.padding.now c.in_ok-check.ensures)

pub returns : goal.returns
returns c =
    let a = c.args in
    let e = c.in_ok-check.ensures in
    pkr_written a.dsm.now a.id (pkr_of a.values) a.nodes.now a.key.now a.padding.now e c.put_message.ensures
    (pkr_kind a.dsm.now a.id a.values a.nodes.now a.key.now a.padding.now e) (pkr_nodes_long a.dsm.now a.id a.values a.nodes.now a.key.now a.padding.now e) refl
