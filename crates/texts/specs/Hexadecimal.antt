-- Bytes as hexadecimal digits, two each.
-- Assumes nothing.
use Rattle.std.specs.Prelude.{ℕ, ◌+◌, ◌-◌, ◌*◌, ◌/◌, ◌%◌, ◌≡◌, List, [], ◌∷◌, Bool, true, false, cond, ◌&&◌, length, leb, ltb, eqb}
use Rattle.texts.specs.Decimal.{is_digit, only}

-- the value of a digit: 0 to 9 are the bytes 48 to 57, A to F 65 to 70, a to f 97 to 102; 16 for a byte that is none
unfoldable pub digit_of : ℕ → ℕ
digit_of c = cond (is_digit c) (c - 48) (cond (leb 65 c && leb c 70) (c - 55) (cond (leb 97 c && leb c 102) (c - 87) 16))

abbrev pub is_hex_digit : ℕ → Bool
is_hex_digit c = leb (digit_of c) 15

-- digits only, two for each byte
abbrev pub is_hexadecimal : List ℕ → Bool
is_hexadecimal s = eqb (length s % 2) 0 && only is_hex_digit s

-- the bytes that digits spell
unfoldable pub bytes_of : List ℕ → List ℕ
bytes_of [] = []
bytes_of (c ∷ []) = []
bytes_of (c ∷ d ∷ s) = (16 * digit_of c + digit_of d) ∷ bytes_of s

-- the digit of a value, and the digits of bytes: capital letters above 9
unfoldable pub letter : ℕ → ℕ
letter d = cond (ltb d 10) (48 + d) (55 + d)

unfoldable pub capitals : List ℕ → List ℕ
capitals [] = []
capitals (b ∷ s) = letter (b / 16) ∷ letter (b % 16) ∷ capitals s

-- two lists are the same
unfoldable pub same : List ℕ → List ℕ → Bool
same [] [] = true
same [] (b ∷ t) = false
same (a ∷ s) [] = false
same (a ∷ s) (b ∷ t) = eqb a b && same s t

-- the text is the bytes' digits, in capital letters
abbrev pub Spells : List ℕ → List ℕ → Bool → Type 0
Spells text bytes r = r ≡ same text (capitals bytes)

-- What is written can be read: the digits of bytes are hexadecimal and spell those bytes.
abbrev pub CapitalsSay : Type 0
CapitalsSay = (s : List ℕ) → only (λ b. ltb b 256) s ≡ true → (is_hexadecimal (capitals s) ≡ true) × (bytes_of (capitals s) ≡ s)
