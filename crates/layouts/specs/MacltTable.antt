-- What holds of the look-up table as a whole: the recorder lives by it.
-- Assumes nothing.
use Rattle.std.specs.Prelude.{ℕ, suc, ◌+◌, max, List, [], ◌∷◌, ◌++◌, map, cond, ◌≡◌, length, replicate, eqb}
use Rattle.layouts.specs.Maclt.{Slot, fixed, flex, Row, table, flx_of}

-- every ID has exactly nt-1 slots in both messages
abbrev pub Filled : Type 0
Filled =
    map (λ (r : Row). (length r.message0 + 1) ∷ (length r.message1 + 1) ∷ []) table
    ≡ map (λ (r : Row). r.nt ∷ r.nt ∷ []) table

-- the objects of the ADKD 4 slots of a sequence
abbrev pub timed : List Slot → List ℕ
timed [] = []
timed (fixed adkd object ∷ ss) = cond (eqb adkd 4) (object ∷ timed ss) (timed ss)
timed (flex ∷ ss) = timed ss

-- an ADKD 4 slot is always S: each ID has one
abbrev pub TimingIsSelf : Type 0
TimingIsSelf = map (λ (r : Row). timed r.message0 ++ timed r.message1) table ≡ replicate 12 (0 ∷ [])

-- the most FLX of a sequence
abbrev pub most_flx : List Row → ℕ
most_flx [] = 0
most_flx (r ∷ rs) = max (length (flx_of 0 r)) (max (length (flx_of 1 r)) (most_flx rs))

-- no sequence has more than four FLX, and one has four
abbrev pub FewFlx : Type 0
FewFlx = most_flx table ≡ 4

-- the tags that speak for the timing data (ADKD 4), of a sequence whose first slot is that tag's
abbrev pub timing : ℕ → List Slot → List ℕ
timing tag [] = []
timing tag (fixed adkd object ∷ ss) = cond (eqb adkd 4) (tag ∷ timing (suc tag) ss) (timing (suc tag) ss)
timing tag (flex ∷ ss) = timing (suc tag) ss

-- an ID, and its timing tags in message 0 and in message 1
pub record Speaks : Type 0 where
  pub id : ℕ
  pub message0 : List ℕ
  pub message1 : List ℕ

abbrev pub speaks : ℕ → List ℕ → List ℕ → Speaks
speaks i a b = record { id = i; message0 = a; message1 = b }

abbrev pub Timing : Type 0
Timing =
    map (λ (r : Row). speaks r.id (timing 1 r.message0) (timing 1 r.message1)) table
    ≡ speaks 27 [] (3 ∷ []) ∷
    speaks 28 [] (6 ∷ []) ∷
    speaks 31 [] (4 ∷ []) ∷
    speaks 33 (2 ∷ []) [] ∷
    speaks 34 (2 ∷ []) [] ∷
    speaks 35 (2 ∷ []) [] ∷
    speaks 36 (2 ∷ []) [] ∷
    speaks 37 (2 ∷ []) [] ∷
    speaks 38 (2 ∷ []) [] ∷
    speaks 39 (2 ∷ []) [] ∷
    speaks 40 (2 ∷ []) [] ∷
    speaks 41 (2 ∷ []) [] ∷
    []
