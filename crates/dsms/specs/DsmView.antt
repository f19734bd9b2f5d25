-- The two forms over a reference: document 01, "A DSM from its blocks".
-- Assumes nothing.
use Rattle.std.specs.Prelude.{ℕ, ◌*◌, ◌<◌, List, [], ◌∷◌, ◌≡◌, length, Result, Option}
use Rattle.std.specs.Borrow.{Bor}
use Rattle.layouts.specs.Answer.{Answer, refused, nothing, gives, shown}
use Rattle.layouts.specs.Meaning.{meaning_type}
use Rattle.layouts.specs.DsmHeader.{dsm_type_of}
use Rattle.layouts.specs.declared.dsm_header.DsmType.{DsmType}
use Rattle.layouts.specs.declared.refusal.Refusal.{Refusal}
use Rattle.dsms.specs.Dsm.{State, count, view}
use Rattle.dsms.specs.DsmPromises.{state, meaning_dsm, FeedDsm}
use Rattle.dsms.specs.declared.dsm.CollectDsm.{CollectDsm}
use Rattle.dsms.specs.declared.dsm.CompleteDsm.{CompleteDsm}
use Rattle.dsms.specs.declared.dsm_view.Dsm.{Dsm}

-- "The view keeps the caller's slice beside its ID.": the ID, the type and the bytes that are shown
pub record Kept : Type 0 where
  pub id : ℕ
  pub kind : Answer
  pub bytes : List ℕ

abbrev pub kept_of : ℕ → DsmType → List ℕ → Kept
kept_of id kind bytes = record { id = id; kind = meaning_type kind; bytes = bytes }

-- a number where a DSM is shown; "numbers that the form of an answer holds beside it are zero"
abbrev pub where_shown : Answer → ℕ → ℕ
where_shown (refused k) n = 0
where_shown nothing n = 0
where_shown (gives ns) n = n

unfoldable pub shown_id : State → ℕ
shown_id s = where_shown (view s) s.id

-- 0 where none is shown, which is the first type
unfoldable pub shown_type : State → Answer
shown_type s = gives (where_shown (view s) (dsm_type_of s.id) ∷ [])

abbrev pub kept : State → Kept
kept s = record { id = shown_id s; kind = shown_type s; bytes = shown s.memory (view s) }

-- refused or not done: ID 0, the first type and no byte; a DSM that is shown has a byte
abbrev pub none : Kept
none = record { id = 0; kind = gives (0 ∷ []); bytes = [] }

pub record ToldApart (s : State) : Type 0 where
  pub refused_none : (n : ℕ) → view s ≡ refused n → kept s ≡ none
  pub nothing_none : view s ≡ nothing → kept s ≡ none
  pub shown_some : (n : ℕ) → view s ≡ gives (0 ∷ n ∷ []) → (length (kept s).bytes ≡ n) × (0 < n)

abbrev pub ViewKept : CollectDsm → List ℕ → Dsm → Type 0
ViewKept c memory r = kept_of r.id r.dsm_type r.«data».now ≡ kept (state c memory)

-- of a `Dsm` its ID, its type and its slice
abbrev pub IdKept : Dsm → ℕ → Type 0
IdKept d r = r ≡ d.id

abbrev pub TypeKept : Dsm → DsmType → Type 0
TypeKept d r = r ≡ d.dsm_type

abbrev pub DataKept : Dsm → Bor (List ℕ) → Type 0
DataKept d r = r ≡ d.«data»

-- "an ID, a type and 13 x count", where a DSM is shown; else what the question answers
abbrev pub named_by : State → Answer → Answer
named_by s (refused k) = refused k
named_by s nothing = nothing
named_by s (gives ns) = gives (s.id ∷ dsm_type_of s.id ∷ 13 * count s ∷ [])

abbrev pub ViewAnswer : CollectDsm → List ℕ → Result (Option CompleteDsm) Refusal → Type 0
ViewAnswer c memory r = meaning_dsm r ≡ named_by (state c memory) (view (state c memory))

-- "The collector's small record is also offered changed in place.": the promise of `feed`, with the record behind the reference at exit
abbrev pub FeedInPlace : CollectDsm → List ℕ → ℕ → List ℕ → Result (Option CompleteDsm) Refusal → CollectDsm → List ℕ → Type 0
FeedInPlace c memory header block r next after = FeedDsm c memory header block (record { collector = next; answer = r }) after
