-- The bit reader for C.
-- Assumes nothing.
use Rattle.std.specs.Prelude.{ℕ, List}
use Rattle.layouts.specs.Bits.{read_bits}
use Rattle.firmware.specs.Outcome.{Told}

abbrev pub ReadBits : List ℕ → ℕ → ℕ → ℕ → ℕ → ℕ → Type 0
ReadBits m start width before r after = Told before r after (read_bits m start width)
