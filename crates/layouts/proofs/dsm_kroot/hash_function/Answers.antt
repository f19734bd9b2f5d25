-- `dsm_kroot::hash_function`: the name of the number.
-- Assumes nothing.
use Rattle.layouts.proofs.Readers.{name_hit, name_miss, name_given, name_refused}
use Rattle.layouts.proofs.Refused.{carried}
use Rattle.layouts.specs.Bits.{the}
use Rattle.layouts.specs.DsmKroot.{kroot_layout}
use Rattle.layouts.specs.Sizes.{hash_functions}
use Rattle.layouts.proofs.dsm_kroot.hash_function.Goals as goal

pub returns-in_err-hash_function_number : goal.returns-in_err-hash_function_number
returns-in_err-hash_function_number c =
    rw (carried _ c.from_residual.ensures.1) (name_refused (the "HF" kroot_layout) c.args.msg.now hash_functions _ c.in_err-hash_function_number.ensures)

pub returns-in-0 : goal.returns-in-0
unfolding hash_functions
returns-in-0 c = name_given (the "HF" kroot_layout) c.args.msg.now c.in_ok-hash_function_number.ensures hash_functions (search name_hit)

pub returns-in-2 : goal.returns-in-2
unfolding hash_functions
returns-in-2 c = name_given (the "HF" kroot_layout) c.args.msg.now c.in_ok-hash_function_number.ensures hash_functions (search name_hit)

pub returns-in_default : goal.returns-in_default
unfolding hash_functions
returns-in_default c = name_given (the "HF" kroot_layout) c.args.msg.now c.in_ok-hash_function_number.ensures hash_functions (search name_miss)
