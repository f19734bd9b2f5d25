-- Values in the rows of a layout: what a writer makes of them, as `Bits.antt` has what a reader does. Document 01, "DSM fields": "Bits are numbered from
-- the high bit of byte 0."
-- Assumes nothing.
use Rattle.std.specs.Prelude.{ℕ, zero, suc, ◌+◌, ◌*◌, ◌/◌, ◌%◌, ◌^◌, List, [], ◌∷◌, Bool, false, not, ◌||◌, ltb}
use Rattle.layouts.specs.Bits.{Field}

-- the number that values make in the rows of a layout, one behind the other, behind the number n
unfoldable pub packed_on : ℕ → List Field → List ℕ → ℕ
packed_on n [] vs = n
packed_on n (f ∷ fs) [] = packed_on (n * 2 ^ f.width) fs []
packed_on n (f ∷ fs) (v ∷ vs) = packed_on (n * 2 ^ f.width + v) fs vs

-- so many bytes of a number, the high one first
unfoldable pub bytes_of : ℕ → ℕ → List ℕ
bytes_of zero n = []
bytes_of (suc k) n = n / 256 ^ k % 256 ∷ bytes_of k n

abbrev pub packed : ℕ → List Field → List ℕ → List ℕ
packed many fs vs = bytes_of many (packed_on 0 fs vs)

-- "a value too wide for its field"
unfoldable pub too_wide : List Field → List ℕ → Bool
too_wide [] vs = false
too_wide (f ∷ fs) [] = false
too_wide (f ∷ fs) (v ∷ vs) = not (ltb v (2 ^ f.width)) || too_wide fs vs
