-- The recorder's questions: document 02, [4]. "Given a MACK, its sizes, the sender, a table ID and a message number", and of a MACK message that the subframe
-- collector has put together.
-- Assumes nothing.
use Rattle.std.specs.Prelude.{ℕ, ◌-◌, ◌%◌, List, [], ◌∷◌, ◌++◌, Bool, cond, not, ◌&&◌, length, get_or, replicate, ltb, eqb}
use Rattle.layouts.specs.Answer.{Answer, refused, nothing, Check, ◌when◌, refusal, Copied}
use Rattle.layouts.specs.Gst.{svn_checks}
use Rattle.layouts.specs.Mack.{size_checks}
use Rattle.layouts.specs.Maclt.{table, row_of}
use Rattle.subframes.specs.Subframe.{State, is_silent, view_checks}
use Rattle.subframes.specs.SubframeRecovery.{message}
use Rattle.recorder.specs.Slots.{judged}
use Rattle.recorder.specs.Timing.{tags_listed}

-- the verdict on the slots, and the list
pub record Walk : Type 0 where
  pub slots : Answer
  pub timing : Copied

-- "whether or not the slots fit"
unfoldable pub verdict : List ℕ → ℕ → ℕ → ℕ → ℕ → ℕ → Walk
verdict m k T sender id msg = record { slots = judged m k T sender id msg; timing = tags_listed m k T }

-- a refusal, or nothing: both parts say so, and the nine bytes are zero
abbrev pub unjudged : Answer → Walk
unjudged a = record { slots = a; timing = record { answer = a; bytes = replicate 9 0 } }

-- "Refusals: document 01's 1, 2, 7, 8, in that order.": the sizes and the message number, 7, and an ID that no table has, 8
abbrev pub table_checks : ℕ → ℕ → ℕ → ℕ → List Check
table_checks k T id msg = size_checks k T ++ (7 when ltb 1 msg ∷ 8 when eqb (row_of id table).nt 0 ∷ [])

-- before them the bytes, 1, and the sender, 2
abbrev pub walk_checks : List ℕ → ℕ → ℕ → ℕ → ℕ → ℕ → List Check
walk_checks m k T sender id msg = 1 when not (eqb (length m) 60) ∷ svn_checks sender ++ table_checks k T id msg

unfoldable pub walk : List ℕ → ℕ → ℕ → ℕ → ℕ → ℕ → Walk
walk m k T sender id msg =
    cond (eqb (refusal (walk_checks m k T sender id msg)) 0) (verdict m k T sender id msg) (unjudged (refused (refusal (walk_checks m k T sender id msg))))

-- Of a satellite whose pair is complete in the collector's record: its 60 bytes, itself the sender, and the message number of the record's subframe. A message
-- is 0 in the first half of a minute and 1 in the second; a week has 20,160 subframes, an even number, so that this goes on over a week's end
-- (`HalfMinutes`, CompleteHistory.antt).
abbrev pub message_of : State → ℕ
message_of s = s.subframe % 2

-- its words have all come, and it is not silent
abbrev pub is_complete : State → ℕ → Bool
is_complete s satellite = eqb (get_or s.counts (satellite - 1) 0) 15 && not (is_silent s.hkroot s.mack (satellite - 1))

-- 1 for the lent buffers, 12 for the record and 2 for the satellite, as for a view; then 7 and 8
abbrev pub complete_checks : State → ℕ → ℕ → ℕ → ℕ → List Check
complete_checks s satellite k T id = view_checks s satellite ++ table_checks k T id (message_of s)

unfoldable pub walk_complete : State → ℕ → ℕ → ℕ → ℕ → Walk
walk_complete s satellite k T id =
    cond (eqb (refusal (complete_checks s satellite k T id)) 0)
    (cond (is_complete s satellite) (verdict (message 60 satellite s.mack) k T satellite id (message_of s)) (unjudged nothing))
    (unjudged (refused (refusal (complete_checks s satellite k T id))))
