-- The DSM header: document 01, "A DSM from its blocks".
-- Assumes nothing.
use Rattle.std.specs.Prelude.{ℕ, List, [], ◌∷◌, ◌≡◌, cond, ltb}
use Rattle.layouts.specs.Answer.{gives}
use Rattle.layouts.specs.Bits.{Field, row, the, value}
use Rattle.layouts.specs.Meaning.{meaning_type}
use Rattle.layouts.specs.declared.dsm_header.DsmType.{DsmType}

-- "high half DSM ID, low half block number"
abbrev pub dsm_header : List Field
dsm_header =
    row "DSM_ID" 0 4 ∷
    row "DSM_BLOCK_ID" 4 4 ∷
    []

-- "ID 12..15 is PKR, 0..11 KROOT": 0 KROOT, 1 PKR
abbrev pub dsm_type_of : ℕ → ℕ
dsm_type_of id = cond (ltb id 12) 0 1

abbrev pub DsmIdRead : ℕ → ℕ → Type 0
DsmIdRead header r = r ≡ value (the "DSM_ID" dsm_header) (header ∷ [])

abbrev pub DsmBlockIdRead : ℕ → ℕ → Type 0
DsmBlockIdRead header r = r ≡ value (the "DSM_BLOCK_ID" dsm_header) (header ∷ [])

abbrev pub DsmTypeRead : ℕ → DsmType → Type 0
DsmTypeRead header r = meaning_type r ≡ gives (dsm_type_of (value (the "DSM_ID" dsm_header) (header ∷ [])) ∷ [])
