-- A trace of pages: docs/FORMATS.md, "A trace of pages"; document 01, "A subframe from its pages".
-- Assumes nothing.
use Rattle.std.specs.Prelude.{ℕ, zero, suc, ◌+◌, ◌*◌, ◌/◌, ◌%◌, List, [], ◌∷◌, cond, not, length, get_or, take, drop, eqb}
use Rattle.layouts.specs.Answer.{Answer, refused, nothing, gives, Check, ◌when◌, refusal}
use Rattle.subframes.specs.Subframe.{State, Page, record_checks, feed}

-- Entry k is the 12 bytes from byte 12 k: the satellite, two bytes of the week, four of the time of week, high byte first, and the page's five
unfoldable pub entry_at : List ℕ → ℕ → Page
entry_at trace k =
    record {
      bytes = take 5 (drop (12 * k + 7) trace);
      satellite = get_or trace (12 * k) 0;
      week = get_or trace (12 * k + 1) 0 * 256 + get_or trace (12 * k + 2) 0;
      time = ((get_or trace (12 * k + 3) 0 * 256 + get_or trace (12 * k + 4) 0) * 256 + get_or trace (12 * k + 5) 0) * 256 + get_or trace (12 * k + 6) 0;
    }

-- n entries, from entry k on
unfoldable pub entries_from : List ℕ → ℕ → ℕ → List Page
entries_from trace k zero = []
entries_from trace k (suc n) = entry_at trace k ∷ entries_from trace (k + 1) n

-- all of them
abbrev pub entries : List ℕ → List Page
entries trace = entries_from trace 0 (length trace / 12)

-- the state after some entries, the last answer, and how many were consumed
pub record FedMany : Type 0 where
  pub state : State
  pub answer : Answer
  pub consumed : ℕ

-- one of three, by an answer
abbrev pub by_answer : Answer → FedMany → FedMany → FedMany → FedMany
by_answer (refused q) ends goes_on comes_out = ends
by_answer nothing ends goes_on comes_out = goes_on
by_answer (gives l) ends goes_on comes_out = comes_out

-- Entries fed one by one, n of them consumed before: until a pair comes out, complete or silent, or the trace ends. An entry that would be refused ends it
-- before that entry; only as the first one it is answered with its number.
unfoldable pub feed_each : ℕ → State → List Page → FedMany
feed_each n s [] = record { state = s; answer = nothing; consumed = n }
feed_each n s (p ∷ ps) =
    by_answer (feed s p).answer
    (record { state = s; answer = cond (eqb n 0) (feed s p).answer nothing; consumed = n })
    (feed_each (n + 1) (feed s p).state ps)
    (record { state = (feed s p).state; answer = (feed s p).answer; consumed = n + 1 })

-- what is refused before the first entry is looked at: a trace that is not whole entries and other lent lengths, 1, then the record, 12
abbrev pub trace_checks : State → List ℕ → List Check
trace_checks s trace = 1 when not (eqb (length trace % 12) 0) ∷ record_checks s

unfoldable pub feed_all : State → List ℕ → FedMany
feed_all s trace =
    cond (eqb (refusal (trace_checks s trace)) 0)
    (feed_each 0 s (entries trace))
    (record { state = s; answer = refused (refusal (trace_checks s trace)); consumed = 0 })
