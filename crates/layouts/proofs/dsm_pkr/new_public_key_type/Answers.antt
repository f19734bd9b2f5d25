-- `dsm_pkr::new_public_key_type`: the name of the number.
-- Assumes nothing.
use Rattle.layouts.proofs.Readers.{name_hit, name_miss, name_given, name_refused}
use Rattle.layouts.proofs.Refused.{carried}
use Rattle.layouts.specs.Bits.{the}
use Rattle.layouts.specs.DsmPkr.{pkr_layout}
use Rattle.layouts.specs.Sizes.{key_types}
use Rattle.layouts.proofs.dsm_pkr.new_public_key_type.Goals as goal

pub returns-in_err-new_public_key_type_number : goal.returns-in_err-new_public_key_type_number
returns-in_err-new_public_key_type_number c =
    rw (carried _ c.from_residual.ensures.1) (name_refused (the "NPKT" pkr_layout) c.args.msg.now key_types _ c.in_err-new_public_key_type_number.ensures)

pub returns-in-1 : goal.returns-in-1
unfolding key_types
returns-in-1 c = name_given (the "NPKT" pkr_layout) c.args.msg.now c.in_ok-new_public_key_type_number.ensures key_types (search name_hit)

pub returns-in-3 : goal.returns-in-3
unfolding key_types
returns-in-3 c = name_given (the "NPKT" pkr_layout) c.args.msg.now c.in_ok-new_public_key_type_number.ensures key_types (search name_hit)

pub returns-in-4 : goal.returns-in-4
unfolding key_types
returns-in-4 c = name_given (the "NPKT" pkr_layout) c.args.msg.now c.in_ok-new_public_key_type_number.ensures key_types (search name_hit)

pub returns-in_default : goal.returns-in_default
unfolding key_types
returns-in_default c = name_given (the "NPKT" pkr_layout) c.args.msg.now c.in_ok-new_public_key_type_number.ensures key_types (search name_miss)
