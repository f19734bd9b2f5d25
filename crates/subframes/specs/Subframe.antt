-- The subframe collector: document 01, "A subframe from its pages", and document 02, [2], "Silent satellites show up as complete".
-- Assumes nothing.
use Rattle.std.specs.Prelude.{ℕ, ◌+◌, ◌-◌, ◌*◌, ◌/◌, ◌%◌, List, [], ◌∷◌, ◌++◌, Bool, true, cond, not, ◌&&◌, length, get_or, set, take, drop, replicate, leb, ltb, eqb}
use Rattle.layouts.specs.Answer.{Answer, refused, nothing, gives, Check, ◌when◌, refusal}
use Rattle.layouts.specs.Gst.{svn_checks, svn_gst_checks}

-- "The record holds week, subframe and 36 word counts"; beside it the 540 HKROOT bytes (36 by 15) and the 2,160 MACK bytes (36 by 60) that are lent
pub record State : Type 0 where
  pub week : ℕ
  pub subframe : ℕ
  pub counts : List ℕ
  pub hkroot : List ℕ
  pub mack : List ℕ

-- "A new one is all zeros."
abbrev pub new : List ℕ → List ℕ → State
new hkroot mack = record { week = 0; subframe = 0; counts = replicate 36 0; hkroot = hkroot; mack = mack }

-- A call: "A page has 5 bytes: 1 HKROOT byte, then 4 MACK bytes."
pub record Page : Type 0 where
  pub bytes : List ℕ
  pub satellite : ℕ
  pub week : ℕ
  pub time : ℕ

-- "Word = (tow / 2) mod 15; subframe = tow / 30, rounded down."
abbrev pub word_of : ℕ → ℕ
word_of time = time / 2 % 15

abbrev pub subframe_of : ℕ → ℕ
subframe_of time = time / 30

-- "36 word counts, each 0..15"
unfoldable pub small : List ℕ → Bool
small [] = true
small (n ∷ ns) = leb n 15 && small ns

-- "week at most 4,095, subframe at most 20,159": what is refused of the record, 12
abbrev pub range_checks : State → List Check
range_checks s = 12 when ltb 4095 s.week ∷ 12 when ltb 20159 s.subframe ∷ 12 when not (small s.counts) ∷ []

-- before it what is refused of the lent bytes, 1
abbrev pub record_checks : State → List Check
record_checks s = 1 when not (eqb (length s.hkroot) 540) ∷ 1 when not (eqb (length s.mack) 2160) ∷ range_checks s

-- then of a satellite, 2
abbrev pub view_checks : State → ℕ → List Check
view_checks s satellite = record_checks s ++ svn_checks satellite

-- of a page whose bytes are not looked at: satellite, week and time, 2, 3, 4
abbrev pub ask_checks : State → Page → List Check
ask_checks s p = range_checks s ++ svn_gst_checks p.satellite p.week p.time

-- and of a page: 1 before them
abbrev pub feed_checks : State → Page → List Check
feed_checks s p = 1 when not (eqb (length p.bytes) 5) ∷ record_checks s ++ svn_gst_checks p.satellite p.week p.time

-- "If the word differs from the satellite's count: nothing. Otherwise its bytes go to that place and the count rises": whether a count takes a word
abbrev pub takes : ℕ → ℕ → Bool
takes count word = eqb word count

-- "One satellite's count takes a word number and hands back its next state.": a count above 15 is 12, a word above 14 is 7. "Records and lent memory keep
-- their contents": the count then stays as it was.
pub record WordStep : Type 0 where
  pub next : ℕ
  pub answer : Answer

unfoldable pub take_word : ℕ → ℕ → WordStep
take_word count word =
    cond (ltb 15 count) (record { next = count; answer = refused 12 })
    (cond (ltb 14 word) (record { next = count; answer = refused 7 })
    (cond (takes count word) (record { next = count + 1; answer = gives [] }) (record { next = count; answer = nothing })))

-- "If its week or subframe differs from the record's, both are taken over and all 36 counts become 0, whether or not the page is then used."
abbrev pub fresh : State → ℕ → ℕ → State
fresh s week subframe = record { week = week; subframe = subframe; counts = replicate 36 0; hkroot = s.hkroot; mack = s.mack }

unfoldable pub changed : State → ℕ → ℕ → State
changed s week subframe = cond (eqb s.week week && eqb s.subframe subframe) s (fresh s week subframe)

-- the state after a call, and the answer
pub record Fed : Type 0 where
  pub state : State
  pub answer : Answer

-- bytes 1 to 4 of a page, from that place
abbrev pub put4 : List ℕ → ℕ → List ℕ → List ℕ
put4 mack at bytes = set (set (set (set mack at (get_or bytes 1 0)) (at + 1) (get_or bytes 2 0)) (at + 2) (get_or bytes 3 0)) (at + 3) (get_or bytes 4 0)

-- Document 02, [2]: "A pair whose 75 bytes are all zero": the pair of the satellite at i, from 0
unfoldable pub zeros : List ℕ → Bool
zeros [] = true
zeros (b ∷ l) = eqb b 0 && zeros l

unfoldable pub is_silent : List ℕ → List ℕ → ℕ → Bool
is_silent hkroot mack i = zeros (take 15 (drop (15 * i) hkroot)) && zeros (take 60 (drop (60 * i) mack))

-- "the pair is complete, with time (week, 30 x subframe)"; "is to be answered "silent" in place of complete", with the same time: a third number says so
abbrev pub complete : ℕ → ℕ → Answer
complete week subframe = gives (week ∷ 30 * subframe ∷ [])

abbrev pub silent : ℕ → ℕ → Answer
silent week subframe = gives (week ∷ 30 * subframe ∷ 1 ∷ [])

abbrev pub out_of : Bool → ℕ → ℕ → Answer
out_of are_zeros week subframe = cond are_zeros (silent week subframe) (complete week subframe)

-- "at 15 the pair is complete": it comes out at 15, and nothing does before
unfoldable pub answer_at : ℕ → ℕ → ℕ → Bool → Answer
answer_at count week subframe are_zeros = cond (eqb count 15) (out_of are_zeros week subframe) nothing

-- "its bytes go to that place and the count rises": the satellite at i, from 0. Whether the pair is silent is asked of the bytes then.
unfoldable pub used : State → List ℕ → ℕ → ℕ → Fed
used s bytes i word =
    let hkroot = set s.hkroot (15 * i + word) (get_or bytes 0 0) in
    let mack = put4 s.mack (60 * i + 4 * word) bytes in
    record {
      state = record { week = s.week; subframe = s.subframe; counts = set s.counts i (word + 1); hkroot = hkroot; mack = mack };
      answer = answer_at (word + 1) s.week s.subframe (is_silent hkroot mack i);
    }

-- "If the word differs from the satellite's count: nothing."
unfoldable pub offered : State → List ℕ → ℕ → ℕ → Fed
offered s bytes i word = cond (takes (get_or s.counts i 0) word) (used s bytes i word) (record { state = s; answer = nothing })

-- whether an admitted page is used
unfoldable pub is_used : State → Page → Bool
is_used s p = takes (get_or (changed s p.week (subframe_of p.time)).counts (p.satellite - 1) 0) (word_of p.time)

-- "An admitted page is one not refused."
unfoldable pub feed : State → Page → Fed
feed s p =
    cond (eqb (refusal (feed_checks s p)) 0)
    (offered (changed s p.week (subframe_of p.time)) p.bytes (p.satellite - 1) (word_of p.time))
    (record { state = s; answer = refused (refusal (feed_checks s p)) })

-- whether a page would be used, asked of the record alone: its bytes and the lent ones do not matter
unfoldable pub used_answer : State → Page → Answer
used_answer s p =
    cond (eqb (refusal (ask_checks s p)) 0) (cond (is_used s p) (gives []) nothing) (refused (refusal (ask_checks s p)))

-- "A viewer, given the record, told HKROOT or MACK and a satellite whose count is 15, returns a part": where it lies in a buffer of messages of that size.
-- "At a lower count the part is empty"
unfoldable pub view : State → ℕ → ℕ → Answer
view s size satellite =
    cond (eqb (refusal (view_checks s satellite)) 0)
    (cond (eqb (get_or s.counts (satellite - 1) 0) 15) (gives (size * (satellite - 1) ∷ size ∷ [])) nothing)
    (refused (refusal (view_checks s satellite)))

-- what has come out of a satellite in the record's subframe, asked of the record and the lent bytes: the answer that its last word got
unfoldable pub came_out : State → ℕ → Answer
came_out s satellite =
    cond (eqb (refusal (view_checks s satellite)) 0)
    (answer_at (get_or s.counts (satellite - 1) 0) s.week s.subframe (is_silent s.hkroot s.mack (satellite - 1)))
    (refused (refusal (view_checks s satellite)))
