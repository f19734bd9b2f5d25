-- A rule over all numbers below a bound, proved by one test that antt computes.
-- Assumes nothing.
use mathlib.Core.Path.{◌≡◌, refl, sym, ap, ◌∙◌, subst⁻¹}
use mathlib.Core.Bool.{Bool, true, false, cond}
use mathlib.Core.List.{List, [], ◌∷◌}
use Prim.Native.Nat.{ℕ, zero, suc, ◌+◌, ◌≤◌, ◌<◌}
use native.Mathlib.Nat.{zero-add, add-zero, add-suc, suc-add, le_of_suc-le-suc, not-suc-le-zero}
use native.Mathlib.Decide.{ℕ_discrete}
use native.Mathlib.Omega.{arith}
use lib.Arith.{lt_of_le-ne}
use lib.Dec.{T, eqb, ltb, ltb→lt}
use lib.ListN.{length, get_or, get_or-eq_default}
use borrow.Author.Tests.{ltb-true, ltb-false, ne_eqb}
use Rattle.layouts.specs.Answer.{gives, ◌when◌, refusal, answered}
use Rattle.layouts.specs.Bits.{Field, row, value, reach}
use Rattle.layouts.specs.Sizes.{Size, size, read_size}
use Rattle.layouts.proofs.Fields.{field_lt}

pub both_left : (a b : Bool) → T (cond a b false) → T a
both_left true b t = tt
both_left false b t = t

pub both_right : (a b : Bool) → T (cond a b false) → T b
both_right true b t = t
both_right false b t = absurd t

-- the test passes at each number below n
abbrev pub below : ℕ → (ℕ → Bool) → Bool
below zero f = true
below (suc n) f = cond (f n) (below n f) false

pub holds_below : (n : ℕ) (f : ℕ → Bool) → T (below n f) → (k : ℕ) → k < n → T (f k)
holds_below zero f t k h = absurd (not-suc-le-zero h)
holds_below (suc n) f t k h =
    elim (ℕ_discrete k n) [
      | yes e ↦ subst⁻¹ (λ (m : ℕ). T (f m)) e (both_left (f n) (below n f) t)
      | no ne ↦ holds_below n f (both_right (f n) (below n f) t) k (lt_of_le-ne (le_of_suc-le-suc h) ne)
    ]

-- the test passes at each element of a list
abbrev pub every : {A : Type 0} → (A → Bool) → List A → Bool
every test [] = true
every test (x ∷ xs) = cond (test x) (every test xs) false

-- f at i and the n - 1 numbers behind it
abbrev from : (ℕ → ℕ) → ℕ → ℕ → List ℕ
from f i zero = []
from f i (suc n) = f i ∷ from f (suc i) n

from_at : (f : ℕ → ℕ) (i n k : ℕ) → k < n → get_or (from f i n) k 0 ≡ f (i + k)
from_at f i zero k h = absurd (not-suc-le-zero h)
from_at f i (suc n) zero h = ap f (sym (add-zero i))
from_at f i (suc n) (suc k) h = from_at f (suc i) n k (le_of_suc-le-suc h) ∙ ap f (suc-add i k ∙ sym (add-suc i k))

-- The code's table of a half byte, computed from the paper's: the reader by the one is the reader by the other.
abbrev pub sixteen : List Size → List ℕ
sixteen sizes = from (size sizes) 0 16

pub by_table : (start : ℕ) (m : List ℕ) (sizes : List Size)
    → read_size (row "" start 4) (λ c. get_or (sixteen sizes) c 0) m ≡ read_size (row "" start 4) (size sizes) m
by_table start m sizes =
    let f : Field = row "" start 4 in
    ap (λ (n : ℕ). answered (refusal (reach f m ∷ 6 when eqb n 0 ∷ [])) (gives (n ∷ [])))
    (from_at (size sizes) 0 16 (value f m) (field_lt m start 4) ∙ ap (size sizes) (zero-add (value f m)))

-- The same of a code that comes as a number of its own, as wide as one likes: behind sixteen the paper's table has none.
abbrev codes_below : ℕ → List Size → Bool
codes_below n [] = true
codes_below n (s ∷ ss) = cond (ltb s.code n) (codes_below n ss) false

size_beyond : (ss : List Size) (n c : ℕ) → T (codes_below n ss) → n ≤ c → size ss c ≡ 0
size_beyond [] n c t h = refl
size_beyond (s ∷ ss) n c t h =
    let l : s.code < n = ltb→lt _ _ (both_left (ltb s.code n) (codes_below n ss) t) in
    rw (ne_eqb c s.code (λ z. omega arith)) (size_beyond ss n c (both_right (ltb s.code n) (codes_below n ss) t) h)

length_from : (f : ℕ → ℕ) (i n : ℕ) → length (from f i n) ≡ n
length_from f i zero = refl
length_from f i (suc n) = ap suc (length_from f (suc i) n)

pub by_code : (ss : List Size) (c : ℕ) → T (codes_below 16 ss) → get_or (sixteen ss) c 0 ≡ size ss c
by_code ss c t = go (ltb c 16) refl
  where
    go : (x : Bool) → ltb c 16 ≡ x → get_or (sixteen ss) c 0 ≡ size ss c
    go true h = from_at (size ss) 0 16 c (ltb-true c 16 h) ∙ ap (size ss) (zero-add c)
    go false h =
        let g : 16 ≤ c = ltb-false c 16 h in
        let e : length (sixteen ss) ≤ c = omega (arith, length_from (size ss) 0 16) in
        get_or-eq_default (sixteen ss) 0 e ∙ sym (size_beyond ss 16 c t g)
