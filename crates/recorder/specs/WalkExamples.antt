-- Examples: table 27, message 1 (00E 00E 04S 12S 00E), sender 2, a key of 16 bytes and tags of 40 bits, unless another is named. A tag's info stands behind its
-- five bytes: PRND, then ADKD and COP in a byte.
-- Assumes nothing.
use Rattle.std.specs.Prelude.{ℕ, zero, suc, ◌+◌, ◌*◌, List, [], ◌∷◌, ◌++◌, map, true, false, ◌≡◌, length, take, drop, replicate}
use Rattle.layouts.specs.Answer.{Answer, refused, nothing, gives}
use Rattle.layouts.specs.Maclt.{table, row_of, slots}
use Rattle.layouts.specs.MacltTable.{timing as slot_timing}
use Rattle.subframes.specs.Subframe.{State, Page}
use Rattle.subframes.specs.SubframePromises.{call}
use Rattle.subframes.specs.SubframeRecovery.{after}
use Rattle.subframes.specs.SubframeUsed.{new_one}
use Rattle.recorder.specs.Slots.{prnd_fits}
use Rattle.recorder.specs.Timing.{nine, timing_tags}
use Rattle.recorder.specs.Walk.{Walk, unjudged, walk, walk_complete}

abbrev pub tag : ℕ → ℕ → List ℕ
tag prnd adkd = 0 ∷ 0 ∷ 0 ∷ 0 ∷ 0 ∷ prnd ∷ (16 * adkd) ∷ []

-- tag 0, five tags, and zeros for the key and what is behind it
abbrev pub mack : List ℕ → List ℕ → List ℕ → List ℕ → List ℕ → List ℕ → List ℕ
mack t0 t1 t2 t3 t4 t5 = t0 ++ t1 ++ t2 ++ t3 ++ t4 ++ t5 ++ replicate 18 0

abbrev pub fitting : List ℕ
fitting = mack (tag 0 0) (tag 7 0) (tag 36 0) (tag 255 4) (tag 2 12) (tag 2 0)

-- a verdict, and a list
abbrev pub both : Answer → List ℕ → Walk
both a l = record { slots = a; timing = record { answer = gives (length l ∷ []); bytes = nine l } }

abbrev pub all_fit : Answer
all_fit = gives (0 ∷ [])

-- tag n breaks its slot, in ADKD (1) or PRND (2)
abbrev pub breaks : ℕ → ℕ → Answer
breaks n field = gives (1 ∷ n ∷ field ∷ [])

pub record WalkExamples : Type 0 where
  -- all fit: 255 at the 04S slot, as asked; E takes the sender's own number too
  pub fits_all : walk fitting 16 40 2 27 1 ≡ both all_fit (3 ∷ [])
  -- the sender's own number in PRND of the ADKD 4 tag, as the Receiver Guidelines print it (A.6.5.1): it breaks its slot, and is listed
  pub guidelines : walk (mack (tag 0 0) (tag 7 0) (tag 36 0) (tag 2 4) (tag 2 12) (tag 2 0)) 16 40 2 27 1 ≡ both (breaks 3 2) (3 ∷ [])
  -- ADKD is looked at before PRND
  pub adkd_first : walk (mack (tag 0 0) (tag 7 0) (tag 36 0) (tag 2 5) (tag 2 12) (tag 2 0)) 16 40 2 27 1 ≡ both (breaks 3 1) []
  -- the first that breaks its slot, and not the last; the list goes on behind it
  pub first : walk (mack (tag 0 0) (tag 0 0) (tag 36 0) (tag 255 4) (tag 2 12) (tag 2 4)) 16 40 2 27 1 ≡ both (breaks 1 2) (3 ∷ 5 ∷ [])
  -- the last tag is judged
  pub last : walk (mack (tag 0 0) (tag 7 0) (tag 36 0) (tag 255 4) (tag 2 12) (tag 37 0)) 16 40 2 27 1 ≡ both (breaks 5 2) (3 ∷ [])
  -- 12S asks for the sender
  pub another_sender : walk fitting 16 40 3 27 1 ≡ both (breaks 4 2) (3 ∷ [])
  -- message 0 has 00E at tag 3: its ADKD breaks it, and it is listed all the same
  pub other_message : walk fitting 16 40 2 27 0 ≡ both (breaks 3 1) (3 ∷ [])
  -- a table of fewer tags, and one of more: that is said and no tag is judged; the list is by the message's own nt
  pub fewer : walk (mack (tag 0 0) (tag 0 0) (tag 0 0) (tag 0 0) (tag 0 0) (tag 0 4)) 16 40 2 31 1 ≡ both (gives (2 ∷ 5 ∷ 6 ∷ [])) (5 ∷ [])
  pub more : walk (mack (tag 0 0) (tag 0 0) (tag 0 0) (tag 0 0) (tag 0 0) (tag 0 4)) 16 40 2 28 1 ≡ both (gives (2 ∷ 10 ∷ 6 ∷ [])) (5 ∷ [])
  -- table 35, message 1 (F F 12S F F): a flexible slot takes any tag
  pub flexible : walk (mack (tag 0 0) (tag 0 15) (tag 200 3) (tag 2 12) (tag 2 4) (tag 37 9)) 16 40 2 35 1 ≡ both all_fit (4 ∷ [])
  -- so that the list is the table's own only where the message has no FLX slot (`ListIsTable`): tag 3 of table 27, and none of table 35
  pub own_of_27 : slot_timing 1 (slots 1 (row_of 27 table)) ≡ 3 ∷ []
  pub own_of_35 : slot_timing 1 (slots 1 (row_of 35 table)) ≡ []
  -- tag 0 has no ADKD: what stands there is of MACSEQ and COP
  pub tag_0 : walk (mack (tag 255 4) (tag 7 0) (tag 36 0) (tag 7 0) (tag 2 12) (tag 2 0)) 16 40 2 27 0 ≡ both all_fit []
  -- the list of the message alone, of nine tags too (a key of 12 bytes, tags of 20 bits: the info of each has ADKD 4 where all bytes are 44 hexadecimal)
  pub alone : timing_tags fitting 16 40 ≡ record { answer = gives (1 ∷ []); bytes = 3 ∷ replicate 8 0 }
  pub all_nine : timing_tags (replicate 60 68) 12 20 ≡ record { answer = gives (9 ∷ []); bytes = 1 ∷ 2 ∷ 3 ∷ 4 ∷ 5 ∷ 6 ∷ 7 ∷ 8 ∷ 9 ∷ [] }

-- PRND, of sender 2: what S asks for, S with ADKD 4, and E
pub record PrndExamples : Type 0 where
  pub self : map (λ (p : ℕ). prnd_fits 12 0 2 p) (0 ∷ 1 ∷ 2 ∷ 3 ∷ 255 ∷ []) ≡ false ∷ false ∷ true ∷ false ∷ false ∷ []
  pub self_timing : map (λ (p : ℕ). prnd_fits 4 0 2 p) (0 ∷ 2 ∷ 36 ∷ 254 ∷ 255 ∷ []) ≡ false ∷ false ∷ false ∷ false ∷ true ∷ []
  pub cross : map (λ (p : ℕ). prnd_fits 0 1 2 p) (0 ∷ 1 ∷ 2 ∷ 36 ∷ 37 ∷ 255 ∷ []) ≡ false ∷ true ∷ true ∷ true ∷ false ∷ false ∷ []

-- "Refusals: document 01's 1, 2, 7, 8, in that order.": each with all that is asked later wrong too; the nine bytes are zero
pub record WalkRefusals : Type 0 where
  pub bytes_59 : walk (replicate 59 68) 17 41 0 30 2 ≡ unjudged (refused 1)
  pub bytes_61 : walk (replicate 61 68) 17 41 0 30 2 ≡ unjudged (refused 1)
  pub sender_0 : walk (replicate 60 68) 17 41 0 30 2 ≡ unjudged (refused 2)
  pub sender_37 : walk (replicate 60 68) 17 41 37 30 2 ≡ unjudged (refused 2)
  pub sender_255 : walk (replicate 60 68) 17 41 255 30 2 ≡ unjudged (refused 2)
  pub key_in_bits : walk (replicate 60 68) 128 40 36 30 2 ≡ unjudged (refused 7)
  pub tag_41 : walk (replicate 60 68) 16 41 36 30 2 ≡ unjudged (refused 7)
  pub message_2 : walk (replicate 60 68) 16 40 36 30 2 ≡ unjudged (refused 7)
  pub id_30 : walk (replicate 60 68) 16 40 36 30 1 ≡ unjudged (refused 8)
  pub list_59 : timing_tags (replicate 59 68) 17 41 ≡ record { answer = refused 1; bytes = replicate 9 0 }
  pub list_17 : timing_tags (replicate 60 68) 17 40 ≡ record { answer = refused 7; bytes = replicate 9 0 }

-- The pages of satellite 2 that bring a message, from word n on: week 1200, from a time on.
abbrev pub pages : List ℕ → ℕ → ℕ → ℕ → List Page
pages m time n zero = []
pages m time n (suc many) = call (0 ∷ take 4 (drop (4 * n) m)) 2 1200 (time + 2 * n) ∷ pages m time (suc n) many

-- a new collector, fed with that many of them
abbrev pub fed : List ℕ → ℕ → ℕ → State
fed m time many = after new_one (pages m time 0 many)

pub record CompleteExamples : Type 0 where
  -- in the second half of a minute the message number is 1, in the first it is 0
  pub second_half : walk_complete (fed fitting 30 15) 2 16 40 27 ≡ both all_fit (3 ∷ [])
  pub first_half : walk_complete (fed fitting 60 15) 2 16 40 27 ≡ both (breaks 3 1) (3 ∷ [])
  -- the last subframe of a week is a second half
  pub end_of_week : walk_complete (fed fitting 604770 15) 2 16 40 27 ≡ both all_fit (3 ∷ [])
  -- a word is missing; another satellite; a silent pair
  pub fourteen : walk_complete (fed fitting 30 14) 2 16 40 27 ≡ unjudged nothing
  pub another : walk_complete (fed fitting 30 15) 3 16 40 27 ≡ unjudged nothing
  pub silent : walk_complete (fed (replicate 60 0) 30 15) 2 16 40 27 ≡ unjudged nothing
  -- 1, 12, 2, 7, 8, in that order, each with all that is asked later wrong too; 7 and 8 also where there is no message
  pub lent_539 : walk_complete (record { week = 4096; subframe = 1; counts = replicate 36 0; hkroot = replicate 539 0; mack = replicate 2160 0 }) 37 17 40 30
      ≡ unjudged (refused 1)
  pub week_4096 : walk_complete (record { week = 4096; subframe = 1; counts = replicate 36 0; hkroot = replicate 540 0; mack = replicate 2160 0 }) 37 17 40 30
      ≡ unjudged (refused 12)
  pub satellite_37 : walk_complete (fed fitting 30 15) 37 17 40 30 ≡ unjudged (refused 2)
  pub key_17 : walk_complete (fed fitting 30 14) 2 17 40 30 ≡ unjudged (refused 7)
  pub id_30 : walk_complete (fed fitting 30 14) 2 16 40 30 ≡ unjudged (refused 8)
