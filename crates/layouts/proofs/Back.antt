-- From the paper's numbers back to the code's answers: what tells the cases of an answer apart. For every crate.
-- Assumes nothing.
use mathlib.Core.Path.{◌≡◌, refl, sym, ap, ◌∙◌}
use mathlib.Core.List.{List, [], ◌∷◌}
use Prim.Native.Nat.{ℕ, zero, suc}
use mathlib.Core.Bool.{Bool, true, false, cond}
use lib.Dec.{T, eqb}
use lib.ListN.{get_or}
use borrow.Author.Tests.{eqb-true}
use Rattle.std.specs.Prelude.{Result, Ok, Err, ⊤}
use Rattle.layouts.specs.Agree.{Agree, AgreeWith}
use Rattle.layouts.specs.Answer.{Answer, refused, nothing, gives, Copied, Check, refusal}
use Rattle.layouts.specs.Refusals.{refusal_number, refused_by, answer_of, with_bytes}
use Rattle.layouts.specs.declared.refusal.Refusal.{Refusal}
use Rattle.layouts.specs.declared.refusal.Refusal.TheVariants.{
  SliceLength,
  Satellite,
  Week,
  TimeOfWeek,
  MessageEnds,
  Reserved,
  Argument,
  UnknownTable,
  TagNumber,
  PlaceFull,
  Lengths,
  RecordRange,
}

-- `back` undoes `meaning`, so two answers of one meaning are equal
pub by_meaning : {A B : Type 0} (meaning : A → B) (back : B → A) → ((r : A) → back (meaning r) ≡ r) → (b : B) → Agree (λ r. meaning r ≡ b)
by_meaning meaning back undo b r s p q = sym (undo r) ∙ ap back (p ∙ sym q) ∙ undo s

-- what is no enum is the equation's right side
pub plain : {A : Type 0} (a : A) → Agree (λ r. r ≡ a)
plain a r s p q = p ∙ sym q

-- the refusal of a number
abbrev pub refusal_at : ℕ → Refusal
refusal_at n =
    get_or
    (
    SliceLength
    ∷ SliceLength
    ∷ Satellite
    ∷ Week
    ∷ TimeOfWeek
    ∷ MessageEnds
    ∷ Reserved
    ∷ Argument
    ∷ UnknownTable
    ∷ TagNumber
    ∷ PlaceFull
    ∷ Lengths
    ∷ []
    )
    n RecordRange

pub undo_refusal : (e : Refusal) → refusal_at (refusal_number e) ≡ e
undo_refusal SliceLength = refl
undo_refusal Satellite = refl
undo_refusal Week = refl
undo_refusal TimeOfWeek = refl
undo_refusal MessageEnds = refl
undo_refusal Reserved = refl
undo_refusal Argument = refl
undo_refusal UnknownTable = refl
undo_refusal TagNumber = refl
undo_refusal PlaceFull = refl
undo_refusal Lengths = refl
undo_refusal RecordRange = refl

-- checks that give no other numbers
abbrev pub known : List Check → Bool
known [] = true
known (c ∷ cs) = cond (eqb (refusal_number (refusal_at c.number)) c.number) (known cs) false

pub number_back : (cs : List Check) → T (known cs) → (refusal cs ≡ 0 → ⊥) → refusal_number (refusal_at (refusal cs)) ≡ refusal cs
unfolding refusal
number_back [] t ne = absurd (ne refl)
number_back (c ∷ cs) t ne = go (eqb (refusal_number (refusal_at c.number)) c.number) refl c.fails (number_back cs) t ne
  where
    go : (a : Bool) → eqb (refusal_number (refusal_at c.number)) c.number ≡ a → (b : Bool)
        → (T (known cs) → (refusal cs ≡ 0 → ⊥) → refusal_number (refusal_at (refusal cs)) ≡ refusal cs) → T (cond a (known cs) false)
        → (cond b c.number (refusal cs) ≡ 0 → ⊥)
        → refusal_number (refusal_at (cond b c.number (refusal cs))) ≡ cond b c.number (refusal cs)
    go true e true ih t ne = eqb-true (refusal_number (refusal_at c.number)) c.number e
    go true e false ih t ne = ih t ne
    go false e b ih t ne = absurd t

-- a check
abbrev back_check : ℕ → Result ⊤ Refusal
back_check zero = Ok tt
back_check (suc n) = Err (refusal_at (suc n))

undo_check : (r : Result ⊤ Refusal) → back_check (refused_by r) ≡ r
undo_check (Ok u) = refl
undo_check (Err SliceLength) = refl
undo_check (Err Satellite) = refl
undo_check (Err Week) = refl
undo_check (Err TimeOfWeek) = refl
undo_check (Err MessageEnds) = refl
undo_check (Err Reserved) = refl
undo_check (Err Argument) = refl
undo_check (Err UnknownTable) = refl
undo_check (Err TagNumber) = refl
undo_check (Err PlaceFull) = refl
undo_check (Err Lengths) = refl
undo_check (Err RecordRange) = refl

pub checked : (n : ℕ) → Agree (λ (r : Result ⊤ Refusal). refused_by r ≡ n)
checked = by_meaning refused_by back_check undo_check

-- the numbers of an answer tell its values apart
module _ {A : Type 0} (numbers : A → List ℕ) (of : List ℕ → A) (undo : (x : A) → of (numbers x) ≡ x) where
  abbrev pub back_result : Answer → Result A Refusal
  back_result (refused n) = Err (refusal_at n)
  back_result nothing = Err SliceLength
  back_result (gives l) = Ok (of l)

  pub undo_result : (r : Result A Refusal) → back_result (answer_of numbers r) ≡ r
  undo_result (Ok x) = ap Ok (undo x)
  undo_result (Err e) = ap Err (undo_refusal e)

  pub results : (a : Answer) → Agree (λ (r : Result A Refusal). answer_of numbers r ≡ a)
  results = by_meaning (answer_of numbers) back_result undo_result

-- the same of numbers and bytes
module _ {A : Type 0} (many : ℕ) (numbers bytes : A → List ℕ) (of : List ℕ → List ℕ → A) (undo : (x : A) → of (numbers x) (bytes x) ≡ x) where
  abbrev back_bytes : Answer → List ℕ → Result A Refusal
  back_bytes (refused n) b = Err (refusal_at n)
  back_bytes nothing b = Err SliceLength
  back_bytes (gives l) b = Ok (of l b)

  undo_bytes : (r : Result A Refusal) → back_bytes (with_bytes many numbers bytes r).answer (with_bytes many numbers bytes r).bytes ≡ r
  undo_bytes (Ok x) = ap Ok (undo x)
  undo_bytes (Err e) = ap Err (undo_refusal e)

  pub results_with_bytes : (c : Copied) → Agree (λ (r : Result A Refusal). ◌≡◌ {A = Copied} (with_bytes many numbers bytes r) c)
  results_with_bytes = by_meaning (with_bytes many numbers bytes) (λ (c : Copied). back_bytes c.answer c.bytes) undo_bytes

-- lists of one number, and of two
abbrev pub one : {A : Type 0} → (ℕ → A) → A → List ℕ → A
one f other [] = other
one f other (v ∷ vs) = f v

-- a list of two numbers, of one, or of none
abbrev pub by_count : {A : Type 0} → (ℕ → ℕ → A) → (ℕ → A) → A → List ℕ → A
by_count f g other [] = other
by_count f g other (v ∷ []) = g v
by_count f g other (v ∷ w ∷ vs) = f v w

-- an answer beside bytes
pub beside :
    {A : Type 0} (meaning : A → Answer)
    → ((a : Answer) → Agree (λ r. meaning r ≡ a))
    → (c : Copied)
    → AgreeWith (λ r x. ◌≡◌ {A = Copied} (record { answer = meaning r; bytes = x }) c)
beside meaning unique c r s x y p q =
    let e : ◌≡◌ {A = Copied} (record { answer = meaning r; bytes = x }) (record { answer = meaning s; bytes = y }) = p ∙ sym q in
    (unique _ r s (ap (λ (c : Copied). c.answer) e) refl, ap (λ (c : Copied). c.bytes) e)
