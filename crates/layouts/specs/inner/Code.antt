-- What the private functions of the code do.
-- Assumes nothing.
use Rattle.std.specs.Prelude.{ℕ, ◌+◌, ◌*◌, ◌≤◌, List, [], ◌∷◌, ◌++◌, map, ◌≡◌, cond, length, take, replicate, eqb, Result, Ok, Err}
use Rattle.layouts.specs.Answer.{Answer, gives, ◌when◌, refusal, answered}
use Rattle.layouts.specs.Meaning.{meaning_number}
use Rattle.layouts.specs.Maclt.{Slot, fixed, flex, Row, flx_of, padded, table, row_of}
use Rattle.layouts.specs.declared.part.Part.{Part}
use Rattle.layouts.specs.declared.refusal.Refusal.{Refusal}

-- a part that is shown ends within a message of that length
abbrev pub Inside : Result Part Refusal → ℕ → Type 0
Inside (Ok p) len = p.first + p.many ≤ len
Inside (Err e) len = Unit {0}

-- the message has 60 bytes, and tag n with its info lies in it
abbrev pub Room : List ℕ → ℕ → ℕ → Type 0
Room m T n = (length m ≡ 60) × (n * (T + 16) + T + 16 ≤ 480) × (T ≤ 40)

-- the bit behind tag n
abbrev pub tag_end : ℕ → ℕ → ℕ
tag_end T n = n * (T + 16) + T

-- The table as the code has it.

-- the number of these digits in a base, the first one lowest
abbrev pub of_digits : ℕ → List ℕ → ℕ
of_digits base [] = 0
of_digits base (d ∷ ds) = d + base * of_digits base ds

-- the slots that the code writes as 0 to 5
abbrev pub coded_slots : List Slot
coded_slots = flex ∷ fixed 0 0 ∷ fixed 0 1 ∷ fixed 4 0 ∷ fixed 12 0 ∷ fixed 12 1 ∷ []

abbrev pub code : Slot → ℕ
code (fixed adkd object) = cond (eqb adkd 0) (cond (eqb object 0) 1 2) (cond (eqb adkd 4) 3 (cond (eqb object 0) 4 5))
code flex = 0

-- ten digits: none for tag 0, and one for each of tags 1 to 9
abbrev pub ten : List Slot → List ℕ
ten l = take 10 (0 ∷ map code l ++ replicate 9 0)

-- the slots of both messages and nt
unfoldable pub row_number : Row → ℕ
row_number r = of_digits 8 (ten r.message0 ++ ten r.message1 ++ r.nt ∷ [])

-- the FLX tags of both messages
unfoldable pub flx_number : Row → ℕ
flx_number r = of_digits 256 (padded (flx_of 0 r) ++ padded (flx_of 1 r))

-- 1 for a tag, 0 for none
abbrev pub one_if_some : ℕ → ℕ
one_if_some tag = cond (eqb tag 0) 0 1

-- the row of a known ID, as the code has it; 8 for another
abbrev pub known_row : ℕ → Answer
known_row i = answered (refusal (8 when eqb (row_of i table).nt 0 ∷ [])) (gives (row_number (row_of i table) ∷ []))

abbrev pub KnownRow : ℕ → Result ℕ Refusal → Type 0
KnownRow i r = meaning_number r ≡ known_row i
