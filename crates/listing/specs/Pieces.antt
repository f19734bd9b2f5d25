-- The listing in pieces: what a call takes of the input, writes and keeps.
-- Assumes nothing.
use Rattle.std.specs.Prelude.{ℕ, ◌*◌, ◌-◌, ◌/◌, ◌%◌, min, List, [], ◌∷◌, ◌++◌, Bool, true, false, cond, ◌&&◌, length, get_or, take, replicate, leb, ltb, eqb}
use Rattle.layouts.specs.Answer.{Answer, refused, nothing, gives, Check, ◌when◌, refusal}
use Rattle.page_replay.specs.Replay.{State, new, Run, replayed, replay_checks}
use Rattle.layouts.specs.Lists.{put}
use Rattle.texts.specs.Arguments.{arguments_answer}
use Rattle.listing.specs.Listing.{refused_line, completed, totals_line, pages_in}

-- The running record with the lent memory: the replay; of the 30 bytes `page` the first `held` are of a page that is not whole yet; and whether it is over,
-- since the arguments were refused.
pub record Running : Type 0 where
  pub replay : State
  pub page : List ℕ
  pub held : ℕ
  pub over : Bool

-- What a call makes of the record, its answer (how many bytes it took, and wrote) and the lent output.
pub record Told : Type 0 where
  pub state : Running
  pub answer : Answer
  pub out : List ℕ

-- a text at the start of the lent output
abbrev pub says : Running → ℕ → List ℕ → List ℕ → Told
says s taken text out = record { state = s; answer = gives (taken ∷ length text ∷ []); out = put out 0 (length text) text }

-- "a lent slice hasn't the stated length": a room of less than 256 bytes
abbrev pub room_checks : List ℕ → List Check
room_checks out = 1 when ltb (length out) 256 ∷ []

-- what the page replay refuses, and 12 for a page that is whole; once it is over nothing more is looked at
abbrev pub record_checks : Running → List Check
record_checks s = cond s.over [] (replay_checks s.replay 15 ++ (12 when ltb 29 s.held ∷ []))

abbrev pub checks : Running → List ℕ → List Check
checks s out = room_checks out ++ record_checks s

abbrev pub unless_refused : ℕ → Running → List ℕ → Told → Told
unless_refused n s out t = cond (eqb n 0) t (record { state = s; answer = refused n; out = out })

-- The beginning: a new replay, of the arguments' numbers; where they are refused that is said, and nothing more.
abbrev pub none : ℕ → ℕ → ℕ → Bool → Running
none satellite week time over = record { replay = new satellite week time [] [] []; page = replicate 30 0; held = 0; over = over }

abbrev pub begun : Answer → List ℕ → Told
begun (refused n) out = says (none 0 0 0 true) 0 (refused_line n) out
begun nothing out = says (none 0 0 0 true) 0 [] out
begun (gives l) out = says (none (get_or l 0 0) (get_or l 1 0) (get_or l 2 0) false) 0 [] out

unfoldable pub begin : ℕ → List ℕ → List ℕ → List ℕ → List ℕ → Told
begin many satellite week time out = unless_refused (refusal (room_checks out)) (none 0 0 0 false) out (begun (arguments_answer many satellite week time) out)

-- How much of a piece a call takes: where no byte is held its whole pages, fifteen at most; else, and where it has no whole page, what the held page has room
-- for.
abbrev pub are_whole : Running → List ℕ → Bool
are_whole s piece = eqb s.held 0 && leb 30 (length piece)

abbrev pub takes : Running → List ℕ → ℕ
takes s piece = cond (are_whole s piece) (30 * min 15 (length piece / 30)) (min (30 - s.held) (length piece))

-- the bytes held and those taken: their whole pages are replayed, and the rest is held
abbrev pub together : Running → List ℕ → List ℕ
together s piece = take s.held s.page ++ take (takes s piece) piece

abbrev pub run : Running → List ℕ → Run
run s piece = replayed s.replay (pages_in (together s piece))

abbrev pub next : Running → List ℕ → Running
next s piece =
    record {
      replay = (run s piece).state;
      page = cond (are_whole s piece) s.page (put s.page s.held (takes s piece) (take (takes s piece) piece));
      held = length (together s piece) % 30;
      over = false;
    }

unfoldable pub fed : Running → List ℕ → List ℕ → Told
fed s piece out = says (next s piece) (takes s piece) (completed s.replay.satellite (run s piece)) out

-- once it is over the input is taken and nothing said
unfoldable pub feed : Running → List ℕ → List ℕ → Told
feed s piece out =
    unless_refused (refusal (checks s out)) s out (cond s.over (says s (length piece) [] out) (fed s piece out))

-- The end: the last line.
unfoldable pub finish : Running → List ℕ → Told
finish s out =
    unless_refused (refusal (checks s out)) s out
    (says s 0 (cond s.over [] (totals_line s.replay.totals s.held)) out)
