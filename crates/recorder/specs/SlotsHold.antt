-- What the verdict says of the tags: document 02, [4], "answers the first that breaks its slot, or that all fit".
-- Assumes nothing.
use Rattle.std.specs.Prelude.{ℕ, ◌≤◌, ◌<◌, List, [], ◌∷◌, ◌≡◌, ◌↔◌, ◌⊎◌}
use Rattle.layouts.specs.Answer.{gives}
use Rattle.layouts.specs.Mack.{nt}
use Rattle.layouts.specs.Maclt.{table, row_of}
use Rattle.recorder.specs.Slots.{broken_at, judged}

-- tags 1 to n-1 fit their slots
abbrev pub FitBelow : List ℕ → ℕ → ℕ → ℕ → ℕ → ℕ → Type 0
FitBelow m T sender id msg n = (i : ℕ) → 1 ≤ i → i < n → broken_at m T sender id msg i ≡ 0

-- "the first that breaks its slot": it does, in ADKD or in PRND, and all before it fit
pub record FirstBroken (m : List ℕ) (T sender id msg tag field : ℕ) : Type 0 where
  pub some : 1 ≤ tag
  pub few : tag < (row_of id table).nt
  pub breaks : broken_at m T sender id msg tag ≡ field
  pub field_is : (field ≡ 1) ⊎ (field ≡ 2)
  pub before : FitBelow m T sender id msg tag

-- Of an ID that is known and a message that has as many tags, each way round: the answer names a tag exactly if it is the first that breaks its slot, and says
-- that all fit exactly if tags 1 to nt-1 do. It says nothing else.
pub record SlotsJudged (m : List ℕ) (k T sender id msg : ℕ) : Type 0 where
  pub first_breaks : (tag field : ℕ) → judged m k T sender id msg ≡ gives (1 ∷ tag ∷ field ∷ []) ↔ FirstBroken m T sender id msg tag field
  pub fits_all : judged m k T sender id msg ≡ gives (0 ∷ []) ↔ FitBelow m T sender id msg (nt k T)
  pub nothing_else : (judged m k T sender id msg ≡ gives (0 ∷ []))
      ⊎ ((tag : ℕ) × (field : ℕ) × (judged m k T sender id msg ≡ gives (1 ∷ tag ∷ field ∷ [])))

abbrev pub FirstBreaks : Type 0
FirstBreaks =
    (m : List ℕ) (k T sender id msg : ℕ) → ((row_of id table).nt ≡ 0 → ⊥) → (row_of id table).nt ≡ nt k T → SlotsJudged m k T sender id msg

-- "If the table's nt and the message's differ, it answers that first.": whatever the tags hold
abbrev pub TagsCompared : Type 0
TagsCompared =
    (m : List ℕ) (k T sender id msg : ℕ) → ((row_of id table).nt ≡ nt k T → ⊥)
    → judged m k T sender id msg ≡ gives (2 ∷ (row_of id table).nt ∷ nt k T ∷ [])
