-- The tags of a MACK message against the slots of the MAC look-up table: document 02, [4], "which tag speaks for the leap second".
-- Assumes nothing.
use Rattle.std.specs.Prelude.{ℕ, suc, ◌-◌, List, [], ◌∷◌, Bool, cond, ◌&&◌, get_or, leb, eqb}
use Rattle.layouts.specs.Answer.{Answer, gives}
use Rattle.layouts.specs.Bits.{the, value}
use Rattle.layouts.specs.Mack.{nt, tag_layout}
use Rattle.layouts.specs.Maclt.{Slot, fixed, flex, table, row_of, slots}

-- what tag n of a message holds
abbrev pub adkd_at : List ℕ → ℕ → ℕ → ℕ
adkd_at m T n = value (the "ADKD" (tag_layout T n)) m

abbrev pub prnd_at : List ℕ → ℕ → ℕ → ℕ
prnd_at m T n = value (the "PRND" (tag_layout T n)) m

-- "S asks for the sender's number in PRND, but 255 for ADKD 4; E asks for a number 1 to 36.": the object is 0 for S and 1 for E.
-- The Rust and the Receiver Guidelines have the sender's number for ADKD 4 too: docs/DIFFERENCES.md, "The slot rules". It is built as asked, and to turn it
-- round is one line here and one in `prnd_fits`.
unfoldable pub prnd_fits : ℕ → ℕ → ℕ → ℕ → Bool
prnd_fits adkd object sender prnd = cond (eqb object 0) (eqb prnd (cond (eqb adkd 4) 255 sender)) (leb 1 prnd && leb prnd 36)

-- "A fixed slot asks for the same ADKD; .. FLX is not judged here.": 0 where a tag fits its slot, else the field that breaks it, 1 ADKD and 2 PRND
unfoldable pub broken : Slot → ℕ → ℕ → ℕ → ℕ
broken (fixed a o) sender adkd prnd = cond (eqb adkd a) (cond (prnd_fits a o sender prnd) 0 2) 1
broken flex sender adkd prnd = 0

-- the slot of tag n, 1 to nt-1, in a message of an ID
abbrev pub slot_at : ℕ → ℕ → ℕ → Slot
slot_at id message n = get_or (slots message (row_of id table)) (n - 1) flex

-- what breaks the slot of tag n
abbrev pub broken_at : List ℕ → ℕ → ℕ → ℕ → ℕ → ℕ → ℕ
broken_at m T sender id message n = broken (slot_at id message n) sender (adkd_at m T n) (prnd_at m T n)

-- "it walks tags 1 to nt-1 and answers the first that breaks its slot, or that all fit": the tags from n on, whose slots these are.
-- 0: all fit; 1 with the tag and the field
unfoldable pub walked : List ℕ → ℕ → ℕ → ℕ → List Slot → Answer
walked m T sender n [] = gives (0 ∷ [])
walked m T sender n (s ∷ ss) =
    cond (eqb (broken s sender (adkd_at m T n) (prnd_at m T n)) 0) (walked m T sender (suc n) ss)
    (gives (1 ∷ n ∷ broken s sender (adkd_at m T n) (prnd_at m T n) ∷ []))

-- "If the table's nt and the message's differ, it answers that first.": 2 with both numbers
unfoldable pub judged : List ℕ → ℕ → ℕ → ℕ → ℕ → ℕ → Answer
judged m k T sender id message =
    cond (eqb (row_of id table).nt (nt k T)) (walked m T sender 1 (slots message (row_of id table))) (gives (2 ∷ (row_of id table).nt ∷ nt k T ∷ []))
