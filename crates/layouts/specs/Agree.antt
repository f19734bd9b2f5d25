-- Document 01, "How far each promise reaches": "show that any two answers satisfying it agree". The definition, for every crate;
-- each crate's `Agreed` has a line for each of its public functions.
-- Assumes nothing.
use Rattle.std.specs.Prelude.{ℕ, List, ◌≡◌}

-- whatever meets the promise is the same
abbrev pub Agree : {A : Type 0} → (A → Type 0) → Type 0
Agree {A} Promise = (r s : A) → Promise r → Promise s → r ≡ s

-- an answer beside what one lent slice holds at the end, and beside two: all of it is the same
abbrev pub AgreeWith : {A : Type 0} → (A → List ℕ → Type 0) → Type 0
AgreeWith {A} Promise = (r s : A) (x y : List ℕ) → Promise r x → Promise s y → (r ≡ s) × (x ≡ y)

abbrev pub AgreeWithTwo : {A : Type 0} → (A → List ℕ → List ℕ → Type 0) → Type 0
AgreeWithTwo {A} Promise = (r s : A) (x y x' y' : List ℕ) → Promise r x x' → Promise s y y' → (r ≡ s) × (x ≡ y) × (x' ≡ y')
