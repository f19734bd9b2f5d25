-- What the C caller gets: the refusal number, 0 for none, and what the lent numbers and bytes then hold.
-- A result is written only where nothing is refused.
-- Assumes nothing.
use Rattle.std.specs.Prelude.{ℕ, List, [], ◌∷◌, ◌≡◌, get_or}
use Rattle.layouts.specs.Answer.{Answer, refused, nothing, gives, Copied}

-- the refusal number of an answer, and the numbers that it gives
abbrev pub number : Answer → ℕ
number (refused n) = n
number nothing = 0
number (gives l) = 0

abbrev pub numbers : Answer → List ℕ
numbers (refused n) = []
numbers nothing = []
numbers (gives l) = l

-- A lent number, which held `before`.
pub record One : Type 0 where
  pub refusal : ℕ
  pub value : ℕ

unfoldable pub one : ℕ → Answer → One
one before a = record { refusal = number a; value = get_or (numbers a) 0 before }

-- the number returned and the lent number afterwards are the answer's
abbrev pub Told : ℕ → ℕ → ℕ → Answer → Type 0
Told before r after a = ◌≡◌ {A = One} (record { refusal = r; value = after }) (one before a)

-- Two lent numbers: where a part lies.
pub record Two : Type 0 where
  pub refusal : ℕ
  pub first : ℕ
  pub many : ℕ

unfoldable pub two : ℕ → ℕ → Answer → Two
two a b answer = record { refusal = number answer; first = get_or (numbers answer) 0 a; many = get_or (numbers answer) 1 b }

abbrev pub Placed : ℕ → ℕ → ℕ → ℕ → ℕ → Answer → Type 0
Placed a b r c d answer = ◌≡◌ {A = Two} (record { refusal = r; first = c; many = d }) (two a b answer)

-- Three: a slot of the look-up table, 1 and zeros for a flexible one, 0 with ADKD and object for a fixed one.
pub record Slot : Type 0 where
  pub refusal : ℕ
  pub flex : ℕ
  pub adkd : ℕ
  pub object : ℕ

unfoldable pub slot : ℕ → ℕ → ℕ → Answer → Slot
slot a b c (refused n) = record { refusal = n; flex = a; adkd = b; object = c }
slot a b c nothing = record { refusal = number nothing; flex = a; adkd = b; object = c }
slot a b c (gives []) = record { refusal = 0; flex = 1; adkd = 0; object = 0 }
slot a b c (gives (v ∷ [])) = record { refusal = 0; flex = 0; adkd = 0; object = v }
slot a b c (gives (v ∷ w ∷ vs)) = record { refusal = 0; flex = 0; adkd = v; object = w }

abbrev pub Slotted : ℕ → ℕ → ℕ → ℕ → ℕ → ℕ → ℕ → Answer → Type 0
Slotted a b c r x y z answer = ◌≡◌ {A = Slot} (record { refusal = r; flex = x; adkd = y; object = z }) (slot a b c answer)

-- Lent bytes.
pub record Bytes : Type 0 where
  pub refusal : ℕ
  pub bytes : List ℕ

unfoldable pub bytes : Copied → Bytes
bytes c = record { refusal = number c.answer; bytes = c.bytes }

-- A lent number and lent bytes, which held `before` and `held`.
pub record Counted : Type 0 where
  pub refusal : ℕ
  pub value : ℕ
  pub bytes : List ℕ

abbrev pub counted_by : ℕ → List ℕ → List ℕ → Answer → Counted
counted_by before held now (refused n) = record { refusal = n; value = before; bytes = held }
counted_by before held now nothing = record { refusal = number nothing; value = before; bytes = held }
counted_by before held now (gives l) = record { refusal = 0; value = get_or l 0 before; bytes = now }

unfoldable pub counted : ℕ → List ℕ → Copied → Counted
counted before held c = counted_by before held c.bytes c.answer
