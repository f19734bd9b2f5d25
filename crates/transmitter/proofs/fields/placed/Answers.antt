-- `fields::placed`: nothing is shifted out.
-- Assumes nothing.
use native.Mathlib.Omega.{arith}
use lib.Pow.{shl_exact}
use Rattle.transmitter.proofs.fields.placed.Goals as goal

pub returns : goal.returns
returns c = let a = c.args in shl_exact a.at.width _ 64 c.requires.2 (omega arith)
