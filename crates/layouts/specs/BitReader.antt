-- What the bit reader promises.
-- Assumes nothing.
use Rattle.std.specs.Prelude.{ℕ, List, ◌≡◌, Result}
use Rattle.layouts.specs.declared.refusal.Refusal.{Refusal}
use Rattle.layouts.specs.Bits.{read_bits}
use Rattle.layouts.specs.Meaning.{meaning_number}

abbrev pub ReadBits : List ℕ → ℕ → ℕ → Result ℕ Refusal → Type 0
ReadBits m start width r = meaning_number r ≡ read_bits m start width
