-- Demand 3, for blocks, of the code: what holds of any history of calls of the public functions, each of which did what it promises (`DsmPromises.antt`,
-- `DsmView.antt`). "A collector, new at the start, recovers. Let pages be lost, doubled, reordered or altered, the clock jump and calls be refused, with record
-- and memory changed by these calls only."
-- Assumes nothing.
use Rattle.std.specs.Prelude.{ℕ, ◌+◌, ◌*◌, List, [], ◌∷◌, ◌++◌, true, false, cond, ◌≡◌, length, replicate, Result, Ok, Err, Option, Some, None}
use Rattle.layouts.specs.Answer.{nothing, gives}
use Rattle.layouts.specs.DsmHeader.{dsm_type_of}
use Rattle.layouts.specs.declared.dsm_header.DsmType.TheVariants.{Kroot}
use Rattle.layouts.specs.declared.refusal.Refusal.{Refusal}
use Rattle.layouts.specs.declared.refusal.Refusal.TheVariants.{SliceLength}
use Rattle.dsms.specs.Dsm.{Fed}
use Rattle.dsms.specs.DsmPromises.{state, meaning_dsm, meaning_shown, NewDsm, FeedDsm, ViewDsmShown, ViewDsm}
use Rattle.dsms.specs.DsmView.{kept_of, none, ViewKept, ViewAnswer, FeedInPlace}
use Rattle.dsms.specs.DsmRecovery.{Call, is_admitted, before, run, counts, is_whole, dsm_of, in_view, bytes_in_view, Alike, Recovers, run_id}
use Rattle.dsms.specs.declared.dsm.CollectDsm.{CollectDsm}
use Rattle.dsms.specs.declared.dsm.CompleteDsm.{CompleteDsm}
use Rattle.dsms.specs.declared.dsm.DsmFed.{DsmFed}
use Rattle.dsms.specs.declared.dsm_view.Dsm.{Dsm}

-- what a call answers: a DSM that came out, nothing, or why it is refused
abbrev pub Answered : Type 0
Answered = Result (Option CompleteDsm) Refusal

-- A call that feeds: the record handed in and the lent bytes before it; the header byte and the block; the answer, the record handed back or left behind the
-- reference, and the lent bytes after it.
pub data Feeding (c : CollectDsm) (memory : List ℕ) : Call → Answered → CollectDsm → List ℕ → Type 0 where
  -- `feed`
  by_value : (d : Call) (r : DsmFed) (memory' : List ℕ) → FeedDsm c memory d.header d.block r memory'
      → Feeding c memory d r.answer r.collector memory'
  -- `feed_in_place`
  in_place : (d : Call) (a : Answered) (c' : CollectDsm) (memory' : List ℕ) → FeedInPlace c memory d.header d.block a c' memory'
      → Feeding c memory d a c' memory'

-- A call of a view: it is lent the bytes to read, and hands no record back.
pub data Viewing (c : CollectDsm) (memory : List ℕ) : Type 0 where
  bytes_viewed : (bytes : List ℕ) → ViewDsm c memory bytes → Viewing c memory
  asked : (x : Result (Option ℕ) Refusal) → ViewDsmShown c memory x → Viewing c memory
  dsm_viewed : (d : Dsm) → ViewKept c memory d → Viewing c memory
  dsm_asked : (a : Answered) → ViewAnswer c memory a → Viewing c memory

-- lent bytes that are not 208
abbrev pub Misfit : List ℕ → Type 0
Misfit x = length x ≡ 208 → ⊥

-- What the caller holds after some calls: the record, the memory, and the blocks that were fed to them, the oldest first.
pub data History : CollectDsm → List ℕ → List Call → Type 0 where
  -- "new at the start", with any memory
  begun : (c : CollectDsm) (memory : List ℕ) → NewDsm c → length memory ≡ 208 → History c memory []
  -- a call that feeds, refused or not, with the record and the memory as they are
  called : {c c' : CollectDsm} {memory memory' : List ℕ} {cs : List Call} {d : Call} {a : Answered}
      → History c memory cs → Feeding c memory d a c' memory' → History c' memory' (cs ++ (d ∷ []))
  -- a view, lent these bytes or others
  viewed : {c : CollectDsm} {memory : List ℕ} {cs : List Call} → History c memory cs → (x : List ℕ) → Viewing c x → History c memory cs
  -- a call that feeds and was lent bytes x of another length, wherever they lie: `memory` says what the memory is where the lent bytes are these (it holds them
  -- as a part, or they lie elsewhere and it does not depend on them). It belongs to no run and cuts none.
  misfit : {c c' : CollectDsm} {x x' : List ℕ} {cs : List Call} {d : Call} {a : Answered} (memory : List ℕ → List ℕ)
      → History c (memory x) cs → Misfit x → Feeding c x d a c' x' → History c' (memory x') cs

-- what a call gave
abbrev pub gave : Answered → CollectDsm → List ℕ → Fed
gave a c memory = record { state = state c memory; answer = meaning_dsm a }

-- A call that feeds, after a history of the blocks cs.
pub record FeedRecovers (c : CollectDsm) (memory : List ℕ) (cs : List Call) (d : Call) (a : Answered) (c' : CollectDsm) (memory' : List ℕ) : Type 0 where
  -- (a) to (e) of `Recovers`, of the answer, the record and the bytes that the code gave
  pub recovers : Recovers (state c memory) (run cs) d (gave a c' memory')
  -- "In it all answers and completed messages are those a new collector gives": any other history, of this run alone, and its call with the same block
  pub like_new : {k k' : CollectDsm} {x x' : List ℕ} {b : Answered} → History k x (before (run cs) d) → Feeding k x d b k' x' → is_admitted d ≡ true
      → (a ≡ b) × Alike (gave a c' memory') (gave b k' x')
  -- a refused one gets its number, changes nothing, belongs to no run and cuts none
  pub refused_one : is_admitted d ≡ false → (a ≡ Err SliceLength) × (c' ≡ c) × (memory' ≡ memory) × (run (cs ++ (d ∷ [])) ≡ run cs)

-- What the views answer after a history that left the run r: the DSM of that run where it is whole, from then until the ID changes, and nothing else.
pub record Shows (c : CollectDsm) (memory : List ℕ) (r : List Call) : Type 0 where
  pub view : (bytes : List ℕ) → ViewDsm c memory bytes → bytes ≡ bytes_in_view (run_id r) r
  pub view_shown : (x : Result (Option ℕ) Refusal) → ViewDsmShown c memory x → meaning_shown x ≡ in_view (run_id r) r
  pub view_dsm : (d : Dsm) → ViewKept c memory d
      → kept_of d.id d.dsm_type d.«data».now
      ≡ cond (is_whole (run_id r) r) (record { id = run_id r; kind = gives (dsm_type_of (run_id r) ∷ []); bytes = dsm_of (run_id r) r }) none
  pub view_answer : (a : Answered) → ViewAnswer c memory a
      → meaning_dsm a ≡ cond (is_whole (run_id r) r) (gives (run_id r ∷ dsm_type_of (run_id r) ∷ 13 * counts (run_id r) r ∷ [])) nothing

-- A view that is lent another number of bytes: refused with 1, and no byte.
pub record MisfitViews (c : CollectDsm) (x : List ℕ) : Type 0 where
  pub view : (bytes : List ℕ) → ViewDsm c x bytes → bytes ≡ []
  pub view_shown : (y : Result (Option ℕ) Refusal) → ViewDsmShown c x y → y ≡ Err SliceLength
  pub view_dsm : (d : Dsm) → ViewKept c x d → kept_of d.id d.dsm_type d.«data».now ≡ none
  pub view_answer : (a : Answered) → ViewAnswer c x a → a ≡ Err SliceLength

-- Whatever came before.
pub record CodeRecovers : Type 0 where
  pub feed_recovers : {c c' : CollectDsm} {memory memory' : List ℕ} {cs : List Call} {d : Call} {a : Answered}
      → History c memory cs → Feeding c memory d a c' memory' → FeedRecovers c memory cs d a c' memory'
  pub shows : {c : CollectDsm} {memory : List ℕ} {cs : List Call} → History c memory cs → Shows c memory (run cs)
  pub misfit_refused : {c c' : CollectDsm} {x x' : List ℕ} {d : Call} {a : Answered}
      → Misfit x → Feeding c x d a c' x' → (a ≡ Err SliceLength) × (c' ≡ c) × (x' ≡ x)
  pub misfit_views : (c : CollectDsm) (x : List ℕ) → Misfit x → MisfitViews c x

-- No premise is empty: of any record, lent bytes and block each call has an answer that meets its promise, and of any blocks there is a history.
pub record AnyCalls : Type 0 where
  pub feed : (c : CollectDsm) (memory : List ℕ) (d : Call) → (r : DsmFed) × (memory' : List ℕ) × FeedDsm c memory d.header d.block r memory'
  pub feed_in_place : (c : CollectDsm) (memory : List ℕ) (d : Call)
      → (a : Answered) × (c' : CollectDsm) × (memory' : List ℕ) × FeedInPlace c memory d.header d.block a c' memory'
  pub view : (c : CollectDsm) (memory : List ℕ) → (bytes : List ℕ) × ViewDsm c memory bytes
  pub view_shown : (c : CollectDsm) (memory : List ℕ) → (x : Result (Option ℕ) Refusal) × ViewDsmShown c memory x
  pub view_dsm : (c : CollectDsm) (memory : List ℕ) → (d : Dsm) × ViewKept c memory d
  pub view_answer : (c : CollectDsm) (memory : List ℕ) → (a : Answered) × ViewAnswer c memory a
  pub blocks : (memory : List ℕ) → length memory ≡ 208 → (cs : List Call) → (c : CollectDsm) × (x : List ℕ) × History c x cs

-- The smallest case: a KROOT of 7 blocks with ID 2, and between the fourth and the fifth a call that is lent 207 bytes, any block with them, of the collector's
-- own memory or elsewhere. It is refused, and the DSM comes out.
abbrev pub sent : ℕ → Call
sent n = record { header = 32 + n; block = 16 ∷ replicate 12 n }

abbrev pub first_four : List Call
first_four = sent 0 ∷ sent 1 ∷ sent 2 ∷ sent 3 ∷ []

abbrev pub seven : CompleteDsm
seven = record { id = 2; dsm_type = Kroot; bytes = 91 }

-- a block of 12 bytes
abbrev pub short : ℕ → Call
short n = record { header = 32 + n; block = 16 ∷ replicate 11 n }

abbrev pub with_short : List Call
with_short = sent 0 ∷ sent 1 ∷ sent 2 ∷ short 3 ∷ sent 4 ∷ sent 5 ∷ []

pub record SmallestCase : Type 0 where
  pub comes_out_lem : {c c' c₄ c₅ c₆ : CollectDsm} {x x' m₄ m₅ m₆ : List ℕ} {d : Call} {a a₄ a₅ a₆ : Answered} (memory : List ℕ → List ℕ)
      → History c (memory x) first_four → length x ≡ 207 → Feeding c x d a c' x'
      → Feeding c' (memory x') (sent 4) a₄ c₄ m₄ → Feeding c₄ m₄ (sent 5) a₅ c₅ m₅ → Feeding c₅ m₅ (sent 6) a₆ c₆ m₆
      → (a ≡ Err SliceLength) × (a₄ ≡ Ok None) × (a₅ ≡ Ok None) × (a₆ ≡ Ok (Some seven))
      × ((bytes : List ℕ) → ViewDsm c₆ m₆ bytes
      → bytes ≡ (sent 0).block ++ (sent 1).block ++ (sent 2).block ++ (sent 3).block ++ (sent 4).block ++ (sent 5).block ++ (sent 6).block)
  -- where the fourth has 12 bytes it does not come out with the seventh, but with a whole fourth after that
  pub stays_out : {c c' c'' : CollectDsm} {memory memory' memory'' : List ℕ} {a b : Answered} → History c memory with_short
      → Feeding c memory (sent 6) a c' memory' → Feeding c' memory' (sent 3) b c'' memory'' → (a ≡ Ok None) × (b ≡ Ok (Some seven))
