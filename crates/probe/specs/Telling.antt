-- An answer of the paper as four numbers, and the bytes of a view in a lent output.
-- Assumes nothing.
use Rattle.std.specs.Prelude.{ℕ, List, ◌++◌, cond, leb, get_or, length, drop}
use Rattle.layouts.specs.Answer.{Answer, refused, nothing, gives, shown}
use Rattle.probe.specs.declared.tell.Told.{Told}

-- kind 0 nothing, 1 an answer with at most three numbers, zeros behind them, 2 refused with its number first
unfoldable pub told : Answer → Told
told (refused n) = record { kind = 2; first = n; second = 0; third = 0 }
told nothing = record { kind = 0; first = 0; second = 0; third = 0 }
told (gives l) = record { kind = 1; first = get_or l 0 0; second = get_or l 1 0; third = get_or l 2 0 }

-- bytes at the front of an output; as it was where it is too short for them
unfoldable pub copied_to : List ℕ → List ℕ → List ℕ
copied_to out bytes = cond (leb (length bytes) (length out)) (bytes ++ drop (length bytes) out) out

-- a view: where the part lies in the memory, and the output with its bytes
pub record Viewed : Type 0 where
  pub answer : Told
  pub out : List ℕ

abbrev pub viewed : List ℕ → List ℕ → Answer → Viewed
viewed out memory a = record { answer = told a; out = copied_to out (shown memory a) }
