-- What private functions of `dsm` do.
-- Assumes nothing.
use Rattle.std.specs.Prelude.{ℕ, zero, suc, List, Bool, ◌≡◌, Option, Some, None}
use Rattle.dsms.specs.Dsm.{State, stored, finished, taken}
use Rattle.dsms.specs.DsmPromises.{state, outcome}
use Rattle.dsms.specs.declared.dsm.CollectDsm.{CollectDsm}
use Rattle.dsms.specs.declared.dsm.DsmFed.{DsmFed}

-- a number of blocks, where it is legal: not 0
abbrev pub legal : ℕ → Option ℕ
legal zero = None
legal (suc n) = Some (suc n)

-- a state whose flags are lent
abbrev pub state_of : ℕ → Bool → List Bool → Bool → List ℕ → State
state_of id came held done memory = record { id = id; came = came; held = held; done = done; memory = memory }

-- `store`, which is lent the flags alone: so in any record
abbrev pub Stored : List Bool → List ℕ → ℕ → List ℕ → List Bool → List ℕ → Type 0
Stored held memory n block held' memory' =
    (id : ℕ) (came done : Bool) → state_of id came held' done memory' ≡ stored (state_of id came held done memory) n block

abbrev pub Finished : CollectDsm → List ℕ → DsmFed → Type 0
Finished c memory r = outcome r memory ≡ finished (state c memory)

abbrev pub Taken : CollectDsm → List ℕ → ℕ → List ℕ → DsmFed → List ℕ → Type 0
Taken c memory n block r memory' = outcome r memory' ≡ taken (state c memory) n block
