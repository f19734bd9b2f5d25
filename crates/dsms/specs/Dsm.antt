-- The DSM collector: document 01, "A DSM from its blocks".
-- Assumes nothing.
use Rattle.std.specs.Prelude.{ℕ, ◌*◌, List, [], ◌∷◌, Bool, true, false, cond, not, ◌&&◌, length, get_or, set, replicate, ltb, eqb}
use Rattle.layouts.specs.Lists.{put, all}
use Rattle.layouts.specs.Answer.{Answer, refused, nothing, gives, Check, ◌when◌, refusal}
use Rattle.layouts.specs.Bits.{the, value}
use Rattle.layouts.specs.Sizes.{size, kroot_blocks, pkr_blocks}
use Rattle.layouts.specs.DsmHeader.{dsm_header, dsm_type_of}
use Rattle.layouts.specs.DsmKroot.{kroot_layout}
use Rattle.layouts.specs.DsmPkr.{pkr_layout}

-- "The record holds an ID 0..15, whether a block came, 16 held flags and the done flag"; beside it the 208 lent bytes
pub record State : Type 0 where
  pub id : ℕ
  pub came : Bool
  pub held : List Bool
  pub done : Bool
  pub memory : List ℕ

-- a new one: ID 0 and all false
abbrev pub new : List ℕ → State
new memory = record { id = 0; came = false; held = replicate 16 false; done = false; memory = memory }

-- "Header byte: high half DSM ID, low half block number."
abbrev pub id_of : ℕ → ℕ
id_of header = value (the "DSM_ID" dsm_header) (header ∷ [])

abbrev pub block_of : ℕ → ℕ
block_of header = value (the "DSM_BLOCK_ID" dsm_header) (header ∷ [])

-- "208 bytes and a 13-byte block are lent", else 1; "only an ID above 15 is 12"
abbrev pub feed_checks : ℕ → List ℕ → List ℕ → List Check
feed_checks id memory block =
    1 when not (eqb (length memory) 208) ∷ 1 when not (eqb (length block) 13) ∷ 12 when ltb 15 id ∷ []

-- "If no block came before, or the ID differs: forget the held flags and the done flag, and take the new ID."
abbrev pub fresh : State → ℕ → State
fresh s i = record { id = i; came = true; held = replicate 16 false; done = false; memory = s.memory }

unfoldable pub begun : State → ℕ → State
begun s i = cond (s.came && eqb s.id i) s (fresh s i)

-- "A block not held is copied; a held one keeps its first bytes, even if the repeat differs."
abbrev pub copied : State → ℕ → List ℕ → State
copied s n block =
    record { id = s.id; came = s.came; held = set s.held n true; done = s.done; memory = put s.memory (13 * n) 13 block }

unfoldable pub stored : State → ℕ → List ℕ → State
stored s n block = cond (get_or s.held n false) s (copied s n block)

-- "Count from the high half of byte 0 of block 0": the number of blocks that the readers of `layouts` give for the type, 0 where it is illegal
abbrev pub kroot_count : List ℕ → ℕ
kroot_count memory = size kroot_blocks (value (the "NB_DK" kroot_layout) memory)

abbrev pub pkr_count : List ℕ → ℕ
pkr_count memory = size pkr_blocks (value (the "NB_DP" pkr_layout) memory)

unfoldable pub counted : ℕ → List ℕ → ℕ
counted type memory = cond (eqb type 0) (kroot_count memory) (pkr_count memory)

abbrev pub count : State → ℕ
count s = counted (dsm_type_of s.id) s.memory

-- the blocks below n are held
abbrev pub all_held : List Bool → ℕ → Bool
all_held held n = all (λ k. get_or held k false) n

-- "When all counted blocks are held"; an illegal count never completes
abbrev pub whole : State → Bool
whole s = not (eqb (count s) 0) && all_held s.held (count s)

-- The state after a call, and the answer.
pub record Fed : Type 0 where
  pub state : State
  pub answer : Answer

-- ".. done is set and the answer is an ID, a type and 13 x count."
abbrev pub completed : State → State
completed s = record { id = s.id; came = s.came; held = s.held; done = true; memory = s.memory }

unfoldable pub finished : State → Fed
finished s =
    cond (whole s) (record { state = completed s; answer = gives (s.id ∷ dsm_type_of s.id ∷ 13 * count s ∷ []) })
    (record { state = s; answer = nothing })

-- "When done: nothing."
unfoldable pub taken : State → ℕ → List ℕ → Fed
taken s n block = cond s.done (record { state = s; answer = nothing }) (finished (stored s n block))

unfoldable pub feed : State → ℕ → List ℕ → Fed
feed s header block =
    cond (eqb (refusal (feed_checks s.id s.memory block)) 0) (taken (begun s (id_of header)) (block_of header) block)
    (record { state = s; answer = refused (refusal (feed_checks s.id s.memory block)) })

-- "A view then shows that many bytes, or none without done or a legal count."
abbrev pub view_checks : ℕ → List ℕ → List Check
view_checks id memory = 1 when not (eqb (length memory) 208) ∷ 12 when ltb 15 id ∷ []

unfoldable pub view : State → Answer
view s =
    cond (eqb (refusal (view_checks s.id s.memory)) 0)
    (cond (s.done && not (eqb (count s) 0)) (gives (0 ∷ 13 * count s ∷ [])) nothing)
    (refused (refusal (view_checks s.id s.memory)))
