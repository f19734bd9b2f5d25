-- What the paper answers, for every crate: document 01, "Refusal numbers".
-- Assumes nothing.
use Rattle.std.specs.Prelude.{ℕ, ◌+◌, List, [], ◌∷◌, ◌++◌, Bool, cond, ltb, eqb, length, take, drop, replicate}
use Prim.Native.String.{String}

infix 70 ◌when◌
infix 70 ◌is◌
-- refused with a number, nothing (which is no refusal), or an answer with its numbers
pub data Answer : Type 0 where
  refused : ℕ → Answer
  nothing : Answer
  gives : List ℕ → Answer

-- The twelve refusal numbers and when each is given.
pub record Refusal : Type 0 where
  pub number : ℕ
  pub words : String

abbrev pub ◌is◌ : ℕ → String → Refusal
n is w = record { number = n; words = w }

unfoldable pub refusals : List Refusal
refusals =
    1 is "a lent slice hasn't the stated length" ∷
    2 is "satellite number not 1..36" ∷
    3 is "week above 4,095" ∷
    4 is "time of week above 604,799" ∷
    5 is "a field needs a byte past the message's end" ∷
    6 is "a reserved number stands where a size or count is needed" ∷
    7 is "another argument outside its stated range" ∷
    8 is "table ID unknown" ∷
    9 is "tag number at or above the entry's nt" ∷
    10 is "a message is stored at the current place's time and that place has 36" ∷
    11 is "lengths inside a message contradict each other" ∷
    12 is "a record handed in has a number outside its range" ∷
    []

-- A check: the number that is given when it fails.
pub record Check : Type 0 where
  pub number : ℕ
  pub fails : Bool

abbrev pub ◌when◌ : ℕ → Bool → Check
n when b = record { number = n; fails = b }

-- the number of the first check that fails; 0 where none does
unfoldable pub refusal : List Check → ℕ
refusal [] = 0
refusal (c ∷ cs) = cond c.fails c.number (refusal cs)

-- refused with the number; the answer, where it is 0
unfoldable pub answered : ℕ → Answer → Answer
answered n a = cond (eqb n 0) a (refused n)

-- A part of a message, after its checks: the number of its first byte and how many bytes it has.
-- "then 5 for the field itself"
abbrev pub part : List ℕ → List Check → ℕ → ℕ → Answer
part m checks first many =
    answered (refusal (checks ++ (5 when ltb (length m) (first + many) ∷ []))) (gives (first ∷ many ∷ []))

-- the bytes of a part; others where it is refused
abbrev pub shown_or : List ℕ → List ℕ → Answer → List ℕ
shown_or others m (refused n) = others
shown_or others m nothing = others
shown_or others m (gives []) = others
shown_or others m (gives (first ∷ [])) = others
shown_or others m (gives (first ∷ many ∷ more)) = take many (drop first m)

-- "a returned part is empty"
unfoldable pub shown : List ℕ → Answer → List ℕ
shown m a = shown_or [] m a

-- "bytes or numbers that the form of an answer holds beside it are zero": an answer, and a part's bytes by value
pub record Copied : Type 0 where
  pub answer : Answer
  pub bytes : List ℕ

unfoldable pub copied : ℕ → List ℕ → Answer → Copied
copied many m a = record { answer = a; bytes = shown_or (replicate many 0) m a }

-- an answer after its checks, and bytes beside it; the other bytes where it is refused
abbrev pub answered_with : List Check → Answer → List ℕ → List ℕ → Copied
answered_with checks a bytes others =
    record {
      answer = answered (refusal checks) a;
      bytes = cond (eqb (refusal checks) 0) bytes others;
    }
