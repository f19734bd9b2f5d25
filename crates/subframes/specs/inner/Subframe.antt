-- What private functions of `subframe` need and do.
-- Assumes nothing.
use Rattle.std.specs.Prelude.{ℕ, ◌+◌, ◌*◌, ◌≤◌, ◌<◌, ◌≡◌, List, [], ◌∷◌, get_or, Option, Some, None}
use Rattle.layouts.specs.declared.part.Part.{Part}

-- what is shown lies within that many bytes
abbrev pub Inside : Option Part → ℕ → Type 0
Inside None len = Unit {0}
Inside (Some p) len = p.first + p.many ≤ len

-- bytes as one number, the first byte lowest
unfoldable pub packed : List ℕ → ℕ
packed [] = 0
packed (b ∷ l) = packed l * 256 + b

pub record Joined (a b c d r : ℕ) : Type 0 where
  pub number : r ≡ packed (a ∷ b ∷ c ∷ d ∷ [])
  pub a_byte : a < 256
  pub b_byte : b < 256
  pub c_byte : c < 256
  pub d_byte : d < 256

-- eight elements from place i on
abbrev pub eight_of : List ℕ → ℕ → List ℕ
eight_of l i =
    get_or l i 0 ∷ get_or l (i + 1) 0 ∷ get_or l (i + 2) 0 ∷ get_or l (i + 3) 0 ∷
    get_or l (i + 4) 0 ∷ get_or l (i + 5) 0 ∷ get_or l (i + 6) 0 ∷ get_or l (i + 7) 0 ∷ []
