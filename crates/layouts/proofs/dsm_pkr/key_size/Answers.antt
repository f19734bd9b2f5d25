-- `dsm_pkr::key_size`: the size, after the type.
-- Assumes nothing.
use native.Mathlib.Omega.{arith}
use Rattle.layouts.specs.Bits.{the}
use Rattle.layouts.specs.Sizes.{size}
use Rattle.layouts.specs.DsmPkr.{pkr_layout, new_key_sizes, count}
use Rattle.layouts.proofs.Pkr.{type_read, key_size_read}
use Rattle.layouts.proofs.Readers.{size_refused}
use Rattle.layouts.proofs.Refused.{carried}
use Rattle.layouts.proofs.dsm_pkr.key_size.Goals as goal

pub returns-in_err-kind : goal.returns-in_err-kind
returns-in_err-kind c =
    let m = c.args.msg.now in
    rw (carried _ c.from_residual.ensures.1) (size_refused (the "NPKT" pkr_layout) m (size (new_key_sizes (count m))) _ c.in_err-kind.ensures)

pub blocks-requires : goal.blocks-requires
blocks-requires c = omega (arith, type_read c.args.msg.now c.in_ok-kind.ensures)

pub returns : goal.returns
returns c = key_size_read c.args.msg.now c.in_ok-kind.ensures c.blocks-2.ensures c.unwrap_or.ensures c.key_length.ensures c.ok_or.ensures.value
