-- Decimal numbers: document 01, "Page replay".
-- Assumes nothing.
use Rattle.std.specs.Prelude.{ℕ, zero, suc, ◌+◌, ◌-◌, ◌*◌, ◌/◌, ◌%◌, ◌≡◌, List, [], ◌∷◌, ◌++◌, Bool, true, cond, not, ◌&&◌, length, leb, ltb, eqb}

-- the digits 0 to 9 are the bytes 48 to 57
abbrev pub is_digit : ℕ → Bool
is_digit c = leb 48 c && leb c 57

-- every byte of a text passes a test
unfoldable pub only : (ℕ → Bool) → List ℕ → Bool
only test [] = true
only test (c ∷ s) = test c && only test s

abbrev pub digits_only : List ℕ → Bool
digits_only s = only is_digit s

-- "digits only, at least one"
abbrev pub is_decimal : List ℕ → Bool
is_decimal s = not (eqb (length s) 0) && digits_only s

-- the number that digits say behind those that say `n`
unfoldable pub number_behind : ℕ → List ℕ → ℕ
number_behind n [] = n
number_behind n (c ∷ s) = number_behind (n * 10 + (c - 48)) s

abbrev pub number : List ℕ → ℕ
number s = number_behind 0 s

-- the largest number of 64 bits
abbrev pub most : ℕ
most = 18446744073709551615

-- the last `k` decimal digits of `n` at most: the last is n % 10, and those of n / 10 stand before it unless that is 0
unfoldable pub spelt : ℕ → ℕ → List ℕ
spelt zero n = []
spelt (suc k) n = cond (ltb n 10) [] (spelt k (n / 10)) ++ ((48 + n % 10) ∷ [])

-- the decimal digits of `n`, which has no more than n + 1 of them
unfoldable pub digits : ℕ → List ℕ
digits n = spelt (suc n) n

-- What is written can be read: the digits of a number are decimal and say that number.
abbrev pub DigitsSay : Type 0
DigitsSay = (n : ℕ) → (is_decimal (digits n) ≡ true) × (number (digits n) ≡ n)
