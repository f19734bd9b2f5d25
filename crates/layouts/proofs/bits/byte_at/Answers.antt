-- `bits::byte_at`: eight bits are a byte.
-- Assumes nothing.
use Prim.Native.Nat.{◌+◌, ◌*◌}
use native.Mathlib.Omega.{arith}
use Rattle.layouts.proofs.Fields.{field_lt}
use Rattle.layouts.proofs.bits.byte_at.Goals as goal

pub overflow_cast-result : goal.overflow_cast-result
overflow_cast-result c = let a = c.args in omega (arith, c.short.ensures, field_lt a.s.now (8 * a.first + a.before) 8)
