-- What the codes of a field stand for: document 01, "DSM fields", "MACK", "A DSM from its blocks".
-- Assumes nothing.
use Rattle.std.specs.Prelude.{ℕ, List, [], ◌∷◌, cond, eqb, Option, Some, None}
use Prim.Native.String.{String}
use Rattle.layouts.specs.Answer.{Answer, gives, ◌when◌, refusal, answered}
use Rattle.layouts.specs.Bits.{Field, value, reach}

infix 70 ◌⟶◌
infix 70 ◌named◌
-- A code and the size or count that it stands for.
pub record Size : Type 0 where
  pub code : ℕ
  pub stands_for : ℕ

abbrev pub ◌⟶◌ : ℕ → ℕ → Size
c ⟶ n = record { code = c; stands_for = n }

-- the size or count that a code stands for; 0 where the code is reserved
abbrev pub size : List Size → ℕ → ℕ
size [] c = 0
size (s ∷ ss) c = cond (eqb c s.code) s.stands_for (size ss c)

-- a size or count; none where it is 0
abbrev pub unless_0 : ℕ → Option ℕ
unless_0 n = cond (eqb n 0) None (Some n)

-- "KROOT 1..8 gives 7..14" blocks
unfoldable pub kroot_blocks : List Size
kroot_blocks = 1 ⟶ 7 ∷ 2 ⟶ 8 ∷ 3 ⟶ 9 ∷ 4 ⟶ 10 ∷ 5 ⟶ 11 ∷ 6 ⟶ 12 ∷ 7 ⟶ 13 ∷ 8 ⟶ 14 ∷ []

-- "PKR 7..10 gives 13..16" blocks
unfoldable pub pkr_blocks : List Size
pkr_blocks = 7 ⟶ 13 ∷ 8 ⟶ 14 ∷ 9 ⟶ 15 ∷ 10 ⟶ 16 ∷ []

-- "0..8 give 96, 104, 112, 120, 128, 160, 192, 224, 256 bits"; in bytes, request 9: "12, 13, 14, 15, 16, 20, 24, 28, 32"
unfoldable pub key_sizes : List Size
key_sizes = 0 ⟶ 12 ∷ 1 ⟶ 13 ∷ 2 ⟶ 14 ∷ 3 ⟶ 15 ∷ 4 ⟶ 16 ∷ 5 ⟶ 20 ∷ 6 ⟶ 24 ∷ 7 ⟶ 28 ∷ 8 ⟶ 32 ∷ []

-- "5..9 give 20, 24, 28, 32, 40" bits
unfoldable pub tag_sizes : List Size
tag_sizes = 5 ⟶ 20 ∷ 6 ⟶ 24 ∷ 7 ⟶ 28 ∷ 8 ⟶ 32 ∷ 9 ⟶ 40 ∷ []

-- what the reader of a size or count answers: 5, then 6 for a reserved code
abbrev pub read_size : Field → (ℕ → ℕ) → List ℕ → Answer
read_size f type_size m =
    answered (refusal (reach f m ∷ 6 when eqb (type_size (value f m)) 0 ∷ [])) (gives (type_size (value f m) ∷ []))

-- A number that has a name; all others are Reserved.
pub record Named : Type 0 where
  pub number : ℕ
  pub name : String

abbrev pub ◌named◌ : ℕ → String → Named
n named s = record { number = n; name = s }

-- the number itself where it has a name; no number where it is Reserved, which stands for several
abbrev pub naming : List Named → ℕ → List ℕ
naming [] v = []
naming (n ∷ ns) v = cond (eqb v n.number) (v ∷ []) (naming ns v)

unfoldable pub hash_functions : List Named
hash_functions = 0 named "SHA-256" ∷ 2 named "SHA3-256" ∷ []

unfoldable pub mac_functions : List Named
mac_functions = 0 named "HMAC-SHA-256" ∷ 1 named "CMAC-AES" ∷ []

unfoldable pub key_types : List Named
key_types = 1 named "ECDSA P-256" ∷ 3 named "ECDSA P-521" ∷ 4 named "OSNMA alert message" ∷ []

unfoldable pub adkds : List Named
adkds = 0 named "I/NAV ephemeris, clock and status" ∷ 4 named "I/NAV timing parameters" ∷ 12 named "slow MAC" ∷ []

-- "Signature of 64 or 132 bytes": P-256 and P-521, by the number in the name
unfoldable pub ecdsa_functions : List Size
ecdsa_functions = 64 ⟶ 256 ∷ 132 ⟶ 521 ∷ []

-- what the reader of a named field answers
abbrev pub read_name : Field → List Named → List ℕ → Answer
read_name f names m = answered (refusal (reach f m ∷ [])) (gives (naming names (value f m)))
