-- Request 1: "Cut it into blocks with headers too, so that the collector can be fed from it." Of the code: any history in which blocks of what was
-- written are cut and fed to the collector, in any order and as often as one likes, each call doing what it promises (`WritePromises.antt`, and
-- `DsmPromises.antt`, `DsmView.antt` of `dsms`).
-- Assumes nothing.
use Rattle.std.specs.Prelude.{ℕ, ◌+◌, ◌*◌, ◌≤◌, ◌<◌, List, [], ◌∷◌, ◌++◌, Bool, true, false, cond, not, ◌&&◌, ◌||◌, ◌≡◌, length, take, drop, eqb, Result, Ok, Err, Option}
use Rattle.layouts.specs.Lists.{all}
use Rattle.layouts.specs.Answer.{nothing, gives}
use Rattle.layouts.specs.DsmHeader.{dsm_type_of}
use Rattle.layouts.specs.declared.refusal.Refusal.{Refusal}
use Rattle.layouts.specs.declared.refusal.Refusal.TheVariants.{Argument}
use Rattle.dsms.specs.DsmPromises.{meaning_dsm, meaning_shown, ViewDsm, ViewDsmShown}
use Rattle.dsms.specs.DsmRecovery.{Call, is_admitted}
use Rattle.dsms.specs.DsmHistory.{Answered, Feeding, Viewing, Misfit}
use Rattle.dsms.specs.declared.dsm.CollectDsm.{CollectDsm}
use Rattle.dsms.specs.declared.dsm.CompleteDsm.{CompleteDsm}
use Rattle.transmitter.specs.Write.{blocks}
use Rattle.transmitter.specs.WritePromises.{meaning_written, WriteKroot, WritePkr, CutBlock}
use Rattle.transmitter.specs.declared.kroot.KrootValues.{KrootValues}
use Rattle.transmitter.specs.declared.pkr.PkrValues.{PkrValues}
use Rattle.transmitter.specs.declared.blocks.BlockCut.{BlockCut}

-- Block n of the lent bytes `sent` was cut, for a DSM of that ID, and gave this header byte and these 13 bytes.
abbrev pub IsCut : List ℕ → ℕ → ℕ → Call → Type 0
IsCut sent id n d = CutBlock sent id n (Ok (record { header = d.header; bytes = d.block }))

-- What the caller holds of the collector after some calls: its record, its memory, and the numbers of the blocks of `sent` that were cut and fed, the oldest
-- first.
pub data Fed (sent : List ℕ) (id : ℕ) : CollectDsm → List ℕ → List ℕ → Type 0 where
  -- any record and memory that are not refused, in which no run of this ID is going on: no block came before, or the ID differs
  idle : (c : CollectDsm) (memory : List ℕ) → length memory ≡ 208 → c.id ≤ 15 → (c.came && eqb c.id id) ≡ false → Fed sent id c memory []
  -- a block is cut and fed
  called : {c c' : CollectDsm} {memory memory' ns : List ℕ} {d : Call} {a : Answered} (n : ℕ)
      → Fed sent id c memory ns → IsCut sent id n d → Feeding c memory d a c' memory' → Fed sent id c' memory' (ns ++ (n ∷ []))
  -- a call between that is refused for its block, of other than 13 bytes
  refused_one : {c c' : CollectDsm} {memory memory' ns : List ℕ} {d : Call} {a : Answered}
      → Fed sent id c memory ns → is_admitted d ≡ false → Feeding c memory d a c' memory' → Fed sent id c' memory' ns
  -- one that was lent bytes x of another length, wherever they lie (as in `DsmHistory.antt` of `dsms`)
  misfit : {c c' : CollectDsm} {x x' ns : List ℕ} {d : Call} {a : Answered} (memory : List ℕ → List ℕ)
      → Fed sent id c (memory x) ns → Misfit x → Feeding c x d a c' x' → Fed sent id c' (memory x') ns
  -- a view, lent these bytes or others
  viewed : {c : CollectDsm} {memory ns : List ℕ} → Fed sent id c memory ns → (x : List ℕ) → Viewing c x → Fed sent id c memory ns

-- the number k is among those
unfoldable pub among : ℕ → List ℕ → Bool
among k [] = false
among k (n ∷ ns) = eqb k n || among k ns

-- all counted blocks are among those numbers
abbrev pub all_of : List ℕ → ℕ → List ℕ → Bool
all_of sent id ns = all (λ k. among k ns) (blocks sent id)

-- The collector fed from `sent`, where a write has left a message of n bytes for that ID.
pub record ComesOut (sent : List ℕ) (id n : ℕ) : Type 0 where
  -- the counted blocks are the message, and exactly they can be cut, each with its header
  pub counts : 13 * blocks sent id ≡ n
  pub cuts : (k : ℕ) (r : Result BlockCut Refusal) → k < blocks sent id → CutBlock sent id k r
      → r ≡ Ok (record { header = 16 * id + k; bytes = take 13 (drop (13 * k) sent) })
  pub beyond : (k : ℕ) (r : Result BlockCut Refusal) → blocks sent id ≤ k → CutBlock sent id k r → r ≡ Err Argument
  -- the DSM comes out exactly with the block that was the last one missing, whatever the order and whatever was repeated; else nothing
  pub exactly_when : {c c' : CollectDsm} {memory memory' ns : List ℕ} {d : Call} {a : Answered} (k : ℕ)
      → Fed sent id c memory ns → IsCut sent id k d → Feeding c memory d a c' memory'
      → meaning_dsm a ≡ cond (all_of sent id (ns ++ (k ∷ [])) && not (all_of sent id ns)) (gives (id ∷ dsm_type_of id ∷ n ∷ [])) nothing
  -- from then on the views show the bytes that were written
  pub shows : {c : CollectDsm} {memory ns : List ℕ} → Fed sent id c memory ns → all_of sent id ns ≡ true
      → ((x : Result (Option ℕ) Refusal) → ViewDsmShown c memory x → meaning_shown x ≡ gives (0 ∷ n ∷ []))
      × ((bytes : List ℕ) → ViewDsm c memory bytes → bytes ≡ take n sent)

-- No order is ruled out: from any record in which no run of this ID is going on, for any numbers of counted blocks there is such a history.
abbrev pub Counted : ℕ → List ℕ → Type 0
Counted c [] = Unit {0}
Counted c (n ∷ ns) = (n < c) × Counted c ns

abbrev pub AnyOrder : List ℕ → ℕ → Type 0
AnyOrder sent id =
    (c : CollectDsm) (memory : List ℕ) → length memory ≡ 208 → c.id ≤ 15 → (c.came && eqb c.id id) ≡ false
    → (ns : List ℕ) → Counted (blocks sent id) ns → (c' : CollectDsm) × (memory' : List ℕ) × Fed sent id c' memory' ns

-- After any write that is not refused.
pub record CollectorFed : Type 0 where
  pub kroot : (memory : List ℕ) (id : ℕ) (v : KrootValues) (key signature padding : List ℕ) (r : Result CompleteDsm Refusal) (sent : List ℕ) (n : ℕ)
      → WriteKroot memory id v key signature padding r sent → meaning_written r ≡ gives (id ∷ 0 ∷ n ∷ []) → ComesOut sent id n × AnyOrder sent id
  pub pkr : (memory : List ℕ) (id : ℕ) (v : PkrValues) (nodes key padding : List ℕ) (r : Result CompleteDsm Refusal) (sent : List ℕ) (n : ℕ)
      → WritePkr memory id v nodes key padding r sent → meaning_written r ≡ gives (id ∷ 1 ∷ n ∷ []) → ComesOut sent id n × AnyOrder sent id
