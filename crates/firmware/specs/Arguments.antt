-- Numbers come in as 64 bits: those that are wider than the reader takes are refused and not cut off.
-- Assumes nothing.
use Rattle.std.specs.Prelude.{ℕ, List, [], ◌∷◌, ltb}
use Rattle.layouts.specs.Answer.{Answer, gives, ◌when◌, refusal, answered}
use Rattle.layouts.specs.Bits.{Field, value}

-- a field of a header, which is a byte: another number is 7
abbrev pub of_header : ℕ → List ℕ → Answer
of_header header l = answered (refusal (7 when ltb 255 header ∷ [])) (gives l)

abbrev pub header_field : Field → ℕ → Answer
header_field f header = of_header header (value f (header ∷ []) ∷ [])
