-- `dsm_kroot::ecdsa_function`: told by the length of the signature.
-- Assumes nothing.
use Rattle.layouts.proofs.Kroot.{ecdsa_refused, p256, p521}
use Rattle.layouts.proofs.Refused.{carried}
use Rattle.layouts.proofs.dsm_kroot.ecdsa_function.Goals as goal

pub returns-in_err-signature : goal.returns-in_err-signature
returns-in_err-signature c = rw (carried _ c.from_residual.ensures.1) (ecdsa_refused c.args.msg.now c.in_err-signature.ensures)

pub returns-then-signature-eq64 : goal.returns-then-signature-eq64
returns-then-signature-eq64 c = p256 c.args.msg.now c.in_ok-signature.ensures c.if-signature-eq64.true

pub returns : goal.returns
returns c = p521 c.args.msg.now c.in_ok-signature.ensures c.if-signature-eq64.false
