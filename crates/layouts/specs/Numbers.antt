-- What the two functions on plain numbers promise.
-- Assumes nothing.
use Rattle.std.specs.Prelude.{ℕ, ◌<◌, min, ◌≡◌}

-- a byte as a number of 64 bits; that it is a byte is said again, for sums of several
abbrev pub Wide : ℕ → ℕ → Type 0
Wide x r = (r ≡ x) × (r < 256)

abbrev pub Smaller : ℕ → ℕ → ℕ → Type 0
Smaller a b r = r ≡ min a b
