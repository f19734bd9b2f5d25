-- Bits and fields: document 01, "DSM fields": "Bits are numbered from the high bit of byte 0."
-- Assumes nothing.
use Rattle.std.specs.Prelude.{ℕ, zero, suc, ◌+◌, ◌-◌, ◌*◌, ◌/◌, ◌%◌, ◌^◌, List, [], ◌∷◌, Bool, false, cond, length, get_or, ltb, eqb}
use Prim.Native.String.{String}
use lib.Text.{eqt}
use Rattle.layouts.specs.Answer.{Answer, gives, Check, ◌when◌, refusal, answered}

-- bit `i` of the bytes `l`, 0 or 1: bit 0 is the high bit of byte 0, bit 7 its low bit, bit 8 the high bit of byte 1
unfoldable pub bit : List ℕ → ℕ → ℕ
bit l i = get_or l (i / 8) 0 / 2 ^ (7 - i % 8) % 2

-- the number that the `w` bits from bit `s` on make, the first of them the highest
unfoldable pub field : List ℕ → ℕ → ℕ → ℕ
field l s zero = 0
field l s (suc w) = field l s w * 2 + bit l (s + w)

-- the bytes from a bit on
unfoldable pub bytes_from : List ℕ → ℕ → ℕ → List ℕ
bytes_from m start zero = []
bytes_from m start (suc many) = field m start 8 ∷ bytes_from m (start + 8) many

-- A row of a layout: a field's name, its first bit and its width in bits.
pub record Field : Type 0 where
  pub name : String
  pub first : ℕ
  pub width : ℕ

abbrev pub row : String → ℕ → ℕ → Field
row n f w = record { name = n; first = f; width = w }

-- the row of that name
abbrev pub the : String → List Field → Field
the n [] = row "" 0 0
the n (f ∷ fs) = cond (eqt n f.name) f (the n fs)

-- the rows follow one another without a gap, from one bit to another
abbrev pub gapless : ℕ → List Field → ℕ → Bool
gapless from [] to = eqb from to
gapless from (f ∷ fs) to = cond (eqb from f.first) (gapless (from + f.width) fs to) false

-- what a field says
abbrev pub value : Field → List ℕ → ℕ
value f m = field m f.first f.width

-- "a field needs a byte past the message's end"
abbrev pub reach : Field → List ℕ → Check
reach f m = 5 when ltb (8 * length m) (f.first + f.width)

-- what the reader of a plain field answers
abbrev pub read : Field → List ℕ → Answer
read f m = answered (refusal (reach f m ∷ [])) (gives (value f m ∷ []))

-- what the bit reader answers: 7 for a width other than 1 .. 64, then 5
abbrev pub read_bits : List ℕ → ℕ → ℕ → Answer
read_bits m s w =
    answered (refusal (7 when eqb w 0 ∷ 7 when ltb 64 w ∷ reach (row "" s w) m ∷ [])) (gives (field m s w ∷ []))
