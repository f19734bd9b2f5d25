-- The code's refusals and their numbers: document 01, "Refusal numbers". And what a call that may be refused says.
-- Assumes nothing.
use Rattle.std.specs.Prelude.{ℕ, List, ◌≡◌, Result, Ok, Err, replicate}
use Rattle.layouts.specs.Answer.{Answer, refused, gives, Copied}
use Rattle.layouts.specs.declared.refusal.Refusal.{Refusal}
use Rattle.layouts.specs.declared.refusal.Refusal.TheVariants.{
  SliceLength,
  Satellite,
  Week,
  TimeOfWeek,
  MessageEnds,
  Reserved,
  Argument,
  UnknownTable,
  TagNumber,
  PlaceFull,
  Lengths,
  RecordRange,
}

abbrev pub refusal_number : Refusal → ℕ
refusal_number SliceLength = 1
refusal_number Satellite = 2
refusal_number Week = 3
refusal_number TimeOfWeek = 4
refusal_number MessageEnds = 5
refusal_number Reserved = 6
refusal_number Argument = 7
refusal_number UnknownTable = 8
refusal_number TagNumber = 9
refusal_number PlaceFull = 10
refusal_number Lengths = 11
refusal_number RecordRange = 12

abbrev pub RefusalNumber : Refusal → ℕ → Type 0
RefusalNumber e r = r ≡ refusal_number e

-- the number that a call is refused with; 0 where it is not
abbrev pub refused_by : {A : Type 0} → Result A Refusal → ℕ
refused_by (Ok x) = 0
refused_by (Err e) = refusal_number e

-- the answer, from the numbers of what is given
abbrev pub answer_of : {A : Type 0} → (A → List ℕ) → Result A Refusal → Answer
answer_of numbers (Ok x) = gives (numbers x)
answer_of numbers (Err e) = refused (refusal_number e)

-- the same with the bytes given; "bytes or numbers that the form of an answer holds beside it are zero": so many zeros where it is refused
abbrev pub with_bytes : {A : Type 0} → ℕ → (A → List ℕ) → (A → List ℕ) → Result A Refusal → Copied
with_bytes many numbers bytes (Ok x) = record { answer = gives (numbers x); bytes = bytes x }
with_bytes many numbers bytes (Err e) = record { answer = refused (refusal_number e); bytes = replicate many 0 }
