-- The MAC look-up table: document 01, "Look-up table", which names Annex C of the ICD for it.
-- Assumes nothing.
use Rattle.std.specs.Prelude.{ℕ, suc, ◌-◌, List, [], ◌∷◌, ◌++◌, cond, length, get_or, take, replicate, ltb, leb, eqb}
use Rattle.layouts.specs.Answer.{Answer, gives, Check, ◌when◌, refusal, answered, Copied, answered_with}

infixr 68 ◌·◌
-- A slot: an ADKD and its object, 0 the sender itself and 1 another satellite; or a flexible one.
pub data Slot : Type 0 where
  fixed : ℕ → ℕ → Slot
  flex : Slot

-- "E = cross, S = self, F = FLX". A sequence is written with a dot between its slots.
abbrev pub 00S : List Slot
00S = fixed 0 0 ∷ []

abbrev pub 00E : List Slot
00E = fixed 0 1 ∷ []

abbrev pub 04S : List Slot
04S = fixed 4 0 ∷ []

abbrev pub 12S : List Slot
12S = fixed 12 0 ∷ []

abbrev pub 12E : List Slot
12E = fixed 12 1 ∷ []

abbrev pub F : List Slot
F = flex ∷ []

abbrev pub ◌·◌ : List Slot → List Slot → List Slot
s · t = s ++ t

-- A row: the ID, nt, and the slots of tags 1 to nt-1 in message 0 and in message 1.
pub record Row : Type 0 where
  pub id : ℕ
  pub nt : ℕ
  pub message0 : List Slot
  pub message1 : List Slot

abbrev pub row : ℕ → ℕ → List Slot → List Slot → Row
row i n a b = record { id = i; nt = n; message0 = a; message1 = b }

unfoldable pub table : List Row
table =
    row 27 6 (00E · 00E · 00E · 12S · 00E) (00E · 00E · 04S · 12S · 00E) ∷
    row 28 10 (00E · 00E · 00E · 00S · 00E · 00E · 12S · 00E · 00E) (00E · 00E · 00S · 00E · 00E · 04S · 12S · 00E · 00E) ∷
    row 31 5 (00E · 00E · 12S · 00E) (00E · 00E · 12S · 04S) ∷
    row 33 6 (00E · 04S · 00E · 12S · 00E) (00E · 00E · 12S · 00E · 12E) ∷
    row 34 6 (F · 04S · F · 12S · 00E) (F · 00E · 12S · 00E · 12E) ∷
    row 35 6 (F · 04S · F · 12S · F) (F · F · 12S · F · F) ∷
    row 36 5 (F · 04S · F · 12S) (F · 00E · 12S · 12E) ∷
    row 37 5 (00E · 04S · 00E · 12S) (00E · 00E · 12S · 12E) ∷
    row 38 5 (F · 04S · F · 12S) (F · F · 12S · F) ∷
    row 39 4 (F · 04S · F) (F · 00E · 12S) ∷
    row 40 4 (00E · 04S · 12S) (00E · 00E · 12E) ∷
    row 41 4 (F · 04S · F) (F · F · 12S) ∷
    []

-- the row of an ID; one with nt 0 where the ID is unknown
abbrev pub row_of : ℕ → List Row → Row
row_of i [] = row i 0 [] []
row_of i (r ∷ rs) = cond (eqb i r.id) r (row_of i rs)

-- the slots of message 0 or 1
abbrev pub slots : ℕ → Row → List Slot
slots message r = cond (eqb message 0) r.message0 r.message1

-- the paper's numbers of a slot: ADKD and object; none for a flexible one
abbrev pub numbers : Slot → List ℕ
numbers (fixed adkd object) = adkd ∷ object ∷ []
numbers flex = []

-- "Message above 1 or tag 0: 7; then 8; then 9."
abbrev pub entry_checks : ℕ → ℕ → ℕ → List Check
entry_checks i message tag =
    7 when ltb 1 message ∷ 7 when eqb tag 0 ∷ 8 when eqb (row_of i table).nt 0 ∷ 9 when leb (row_of i table).nt tag ∷ []

unfoldable pub entry : ℕ → ℕ → ℕ → Answer
entry i message tag =
    answered (refusal (entry_checks i message tag)) (gives (numbers (get_or (slots message (row_of i table)) (tag - 1) flex)))

-- the tags that are FLX, ascending, of a sequence whose first slot is that tag's
abbrev pub flx : ℕ → List Slot → List ℕ
flx tag [] = []
flx tag (fixed adkd object ∷ ss) = flx (suc tag) ss
flx tag (flex ∷ ss) = tag ∷ flx (suc tag) ss

abbrev pub flx_of : ℕ → Row → List ℕ
flx_of message r = flx 1 (slots message r)

abbrev pub flx_checks : ℕ → ℕ → List Check
flx_checks i message = 7 when ltb 1 message ∷ 8 when eqb (row_of i table).nt 0 ∷ []

-- four bytes: zeros behind the last
abbrev pub padded : List ℕ → List ℕ
padded l = take 4 (l ++ replicate 4 0)

-- "FLX positions come ascending, at most 4": how many, and beside that the four bytes, zeros where refused
unfoldable pub flx_indices : ℕ → ℕ → Copied
flx_indices i message =
    answered_with (flx_checks i message)
    (gives (length (flx_of message (row_of i table)) ∷ []))
    (padded (flx_of message (row_of i table)))
    (replicate 4 0)

-- nt of an ID, or 8
unfoldable pub nt_of : ℕ → Answer
nt_of i = answered (refusal (8 when eqb (row_of i table).nt 0 ∷ [])) (gives ((row_of i table).nt ∷ []))
