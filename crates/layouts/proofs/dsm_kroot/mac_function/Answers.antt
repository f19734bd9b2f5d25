-- `dsm_kroot::mac_function`: the name of the number.
-- Assumes nothing.
use Rattle.layouts.proofs.Readers.{name_hit, name_miss, name_given, name_refused}
use Rattle.layouts.proofs.Refused.{carried}
use Rattle.layouts.specs.Bits.{the}
use Rattle.layouts.specs.DsmKroot.{kroot_layout}
use Rattle.layouts.specs.Sizes.{mac_functions}
use Rattle.layouts.proofs.dsm_kroot.mac_function.Goals as goal

pub returns-in_err-mac_function_number : goal.returns-in_err-mac_function_number
returns-in_err-mac_function_number c =
    rw (carried _ c.from_residual.ensures.1) (name_refused (the "MF" kroot_layout) c.args.msg.now mac_functions _ c.in_err-mac_function_number.ensures)

pub returns-in-0 : goal.returns-in-0
unfolding mac_functions
returns-in-0 c = name_given (the "MF" kroot_layout) c.args.msg.now c.in_ok-mac_function_number.ensures mac_functions (search name_hit)

pub returns-in-1 : goal.returns-in-1
unfolding mac_functions
returns-in-1 c = name_given (the "MF" kroot_layout) c.args.msg.now c.in_ok-mac_function_number.ensures mac_functions (search name_hit)

pub returns-in_default : goal.returns-in_default
unfolding mac_functions
returns-in_default c = name_given (the "MF" kroot_layout) c.args.msg.now c.in_ok-mac_function_number.ensures mac_functions (search name_miss)
