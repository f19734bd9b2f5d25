-- Laws of the readers' answers, for their callers.
-- Assumes nothing.
use mathlib.Core.Path.{◌≡◌, refl, ap, ◌∙◌}
use mathlib.Core.List.{List, [], ◌∷◌, ◌++◌}
use Prim.Native.Nat.{ℕ, ◌+◌, ◌^◌, ◌≤◌, ◌<◌}
use Prim.Native.String.{String}
use lib.Dec.{T, ltb, eqb}
use lib.ListN.{length}
use borrow.Author.Tests.{ltb-false, lt-ltb, le-ltb, eq-eqb, ne_eqb}
use Rattle.layouts.specs.Answer.{refused, gives, Check, ◌when◌, refusal, part}
use Rattle.layouts.specs.Bits.{Field, value, reach, read}
use Rattle.layouts.specs.Sizes.{read_size, Named, ◌named◌, naming, read_name}
use Rattle.layouts.specs.Meaning.{meaning_part}
use Rattle.layouts.specs.Refusals.{refusal_number}
use Rattle.layouts.specs.declared.part.Part.{Part}
use Rattle.layouts.specs.declared.refusal.Refusal.{Refusal}
use Rattle.std.specs.Prelude.{Result, Ok, Err}
use Rattle.layouts.specs.inner.Code.{Inside}
use Rattle.layouts.proofs.Answers.{stop, pass, done, refused_too, passed, answer_of, converse, numbered, passed_last}
use Rattle.layouts.proofs.Fields.{field_lt}

pub first_of : {v w : ℕ} {vs ws : List ℕ} → (v ∷ vs) ≡ (w ∷ ws) → v ≡ w
first_of e = cc

pub second_of : {v w x y : ℕ} {vs ws : List ℕ} → (v ∷ x ∷ vs) ≡ (w ∷ y ∷ ws) → x ≡ y
second_of e = cc

-- what has a name, and what has none
pub name_hit : (names : List Named) {v k : ℕ} {l : List ℕ} → v ≡ k → l ≡ naming names k → l ≡ naming names v
name_hit names e h = rw e h

pub name_miss : (n : ℕ) (s : String) (names : List Named) {v : ℕ} {l : List ℕ} → (v ≡ n → ⊥) → l ≡ naming names v → l ≡ naming (n named s ∷ names) v
name_miss n s names {v} ne h = rw (ne_eqb v n ne) h

-- a field that was read
module _ (f : Field) (m : List ℕ) {v : ℕ} (gave : gives (v ∷ []) ≡ read f m) where
  pub read_value : v ≡ value f m
  read_value = first_of (answer_of (refusal (reach f m ∷ [])) (value f m ∷ []) gave)

  pub read_lt : v < 2 ^ f.width
  read_lt = rw read_value (field_lt m f.first f.width)

  pub half_byte : f.width ≡ 4 → v < 16
  half_byte four = rw four at read_lt

  -- with a size that its code stands for, or with a reserved code
  pub size_given : (size : ℕ → ℕ) → (size v ≡ 0 → ⊥) → gives (size v ∷ []) ≡ read_size f size m
  size_given size ne =
      passed (reach f m ∷ []) (6 when eqb (size (value f m)) 0 ∷ []) (value f m ∷ []) _ tt gave
      (pass 6 (eqb (size (value f m)) 0) [] _ (rw read_value at (ne_eqb (size v) 0 ne)) (done _ (ap (λ (n : ℕ). gives (size n ∷ [])) read_value)))

  pub size_reserved : (size : ℕ → ℕ) → size v ≡ 0 → refused 6 ≡ read_size f size m
  size_reserved size z =
      passed (reach f m ∷ []) (6 when eqb (size (value f m)) 0 ∷ []) (value f m ∷ []) _ tt gave
      (stop 6 (eqb (size (value f m)) 0) [] _ tt (rw read_value at (eq-eqb (size v) 0 z)))

  -- with its name
  pub name_given : (names : List Named) {l : List ℕ} → l ≡ naming names v → gives l ≡ read_name f names m
  name_given names h =
      passed (reach f m ∷ []) [] (value f m ∷ []) _ tt gave (done _ (ap gives (h ∙ ap (naming names) read_value)))

-- the field was not there
pub name_refused : (f : Field) (m : List ℕ) (names : List Named) (e : Refusal) → refused (refusal_number e) ≡ read f m
    → refused (refusal_number e) ≡ read_name f names m
name_refused f m names e h = refused_too (reach f m ∷ []) [] (value f m ∷ []) _ h

pub size_refused : (f : Field) (m : List ℕ) (size : ℕ → ℕ) (e : Refusal) → refused (refusal_number e) ≡ read f m
    → refused (refusal_number e) ≡ read_size f size m
size_refused f m size e h = refused_too (reach f m ∷ []) (6 when eqb (size (value f m)) 0 ∷ []) (value f m ∷ []) _ h

-- a part that ends past the message, or within it
module _ (m : List ℕ) (first many : ℕ) where
  pub part_refused : length m < first + many → refused 5 ≡ part m [] first many
  part_refused h = stop 5 _ [] _ tt (lt-ltb (length m) (first + many) h)

  pub part_shown : first + many ≤ length m → gives (first ∷ many ∷ []) ≡ part m [] first many
  part_shown h = pass 5 _ [] _ (le-ltb (length m) (first + many) h) (done _ refl)

  -- a part that is shown lies where it should, and ends within the message
  module _ (checks : List Check) {f n : ℕ} (e : gives (f ∷ n ∷ []) ≡ part m checks first many) where
    pub part_first : f ≡ first
    part_first = first_of (answer_of _ (first ∷ many ∷ []) e)

    pub part_many : n ≡ many
    part_many = second_of (answer_of _ (first ∷ many ∷ []) e)

    pub part_ends : T (numbered (checks ++ (5 when ltb (length m) (first + many) ∷ []))) → first + many ≤ length m
    part_ends t = ltb-false (length m) (first + many) (passed_last checks _ (converse _ (first ∷ many ∷ []) t e))

    pub part_inside : T (numbered (checks ++ (5 when ltb (length m) (first + many) ∷ []))) → f + n ≤ length m
    part_inside t = rw (part_first, part_many) (part_ends t)

-- what the code's answer is of a part lies within the message
pub inside_part : (r : Result Part Refusal) (m : List ℕ) (first many : ℕ) (checks : List Check)
    → T (numbered (checks ++ (5 when ltb (length m) (first + many) ∷ []))) → meaning_part r ≡ part m checks first many → Inside r (length m)
inside_part (Ok p) m first many checks t e = part_inside m first many checks e t
inside_part (Err n) m first many checks t e = tt
