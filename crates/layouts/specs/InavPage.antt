-- The I/NAV page of 30 bytes, even part then odd part: document 01, "Page replay". Bits 0, 1, 120, 121 and 138..177 are document 01's;
-- the other rows are the page's plain ones, and a page from the air has them so (docs/DIFFERENCES.md).
-- Assumes nothing.
use Rattle.std.specs.Prelude.{ℕ, List, [], ◌∷◌, Bool, cond, not, ◌&&◌, ◌≡◌, length, replicate, eqb, Result}
use Rattle.layouts.specs.declared.refusal.Refusal.{Refusal}
use Rattle.layouts.specs.Answer.{Answer, nothing, gives, Check, ◌when◌, refusal, answered, Copied, answered_with}
use Rattle.layouts.specs.Bits.{bit, bytes_from, Field, row, the}
use Rattle.layouts.specs.Refusals.{with_bytes}
use Rattle.layouts.specs.Meaning.{meaning_page_kind}
use Rattle.layouts.specs.declared.inav_page.PageKind.{PageKind}

-- field, first bit, width
abbrev pub inav_page : List Field
inav_page =
    row "Even part" 0 1 ∷
    row "Even type" 1 1 ∷
    row "Even data" 2 112 ∷
    row "Even tail" 114 6 ∷
    row "Odd part" 120 1 ∷
    row "Odd type" 121 1 ∷
    row "Odd data" 122 16 ∷
    row "OSNMA" 138 40 ∷
    row "SAR" 178 22 ∷
    row "Spare" 200 2 ∷
    row "CRC" 202 24 ∷
    row "SSP" 226 8 ∷
    row "Odd tail" 234 6 ∷
    []

-- a field of one bit
abbrev pub flag : List ℕ → Field → ℕ
flag page f = bit page f.first

-- "A page counts if bits 0, 1, 120, 121 are 0, 0, 1, 0": both parts in their order, and nominal
unfoldable pub is_counted : List ℕ → Bool
is_counted page =
    eqb (flag page (the "Even part" inav_page)) 0
    && eqb (flag page (the "Even type" inav_page)) 0
    && eqb (flag page (the "Odd part" inav_page)) 1
    && eqb (flag page (the "Odd type" inav_page)) 0

-- "OSNMA is bits 138..177": five bytes
unfoldable pub osnma : List ℕ → List ℕ
osnma page = bytes_from page (the "OSNMA" inav_page).first 5

-- 1 for other than 30 bytes
abbrev pub page_checks : List ℕ → List Check
page_checks page = 1 when not (eqb (length page) 30) ∷ []

-- whether a page counts: an answer without a number, or nothing, as "Others are skipped"
abbrev pub page_kind : List ℕ → Answer
page_kind page = answered (refusal (page_checks page)) (cond (is_counted page) (gives []) nothing)

abbrev pub PageKindRead : List ℕ → Result PageKind Refusal → Type 0
PageKindRead page r = meaning_page_kind r ≡ page_kind page

-- the five bytes by value, zeros where refused
abbrev pub osnma_copied : List ℕ → Copied
osnma_copied page = answered_with (page_checks page) (gives []) (osnma page) (replicate 5 0)

abbrev pub OsnmaRead : List ℕ → Result (List ℕ) Refusal → Type 0
OsnmaRead page r = ◌≡◌ {A = Copied} (with_bytes 5 (λ _. []) (λ b. b) r) (osnma_copied page)
