-- A copy of bytes, one after the other.
-- Assumes nothing.
use mathlib.Core.Path.{◌≡◌, refl, sym, ap, ◌∙◌}
use mathlib.Core.List.{List, [], ◌∷◌, ◌++◌, append-nil}
use Prim.Native.Nat.{ℕ, zero, suc, ◌+◌, ◌≤◌, ◌<◌}
use native.Mathlib.Nat.{le_of_suc-le-suc, not-suc-le-zero}
use native.Mathlib.Numerals.{add-one}
use lib.ListN.{length, get_or, take, drop, set, drop_of_length-le, length-drop}
use lib.Seq.{get_or-drop}
use native.Mathlib.Omega.{arith}

copy_suc : (s d : List ℕ) (i : ℕ) → i < length s → i < length d → set (take i s ++ drop i d) i (get_or s i 0) ≡ take (suc i) s ++ drop (suc i) d
copy_suc [] d i h k = absurd (not-suc-le-zero h)
copy_suc (x ∷ s) [] i h k = absurd (not-suc-le-zero k)
copy_suc (x ∷ s) (y ∷ d) zero h k = refl
copy_suc (x ∷ s) (y ∷ d) (suc i) h k = ap (λ (l : List ℕ). x ∷ l) (copy_suc s d i (le_of_suc-le-suc h) (le_of_suc-le-suc k))

-- a turn of the loop: `i` elements of `s` before what is left of `d`
pub copy_more : (s d : List ℕ) (i : ℕ) → i < length s → i < length d → set (take i s ++ drop i d) i (get_or s i 0) ≡ take (i + 1) s ++ drop (i + 1) d
copy_more s d i h k = copy_suc s d i h k ∙ ap (λ (n : ℕ). take n s ++ drop n d) (sym (add-one i))

-- all of `d` is written over
pub copy_all : (s d : List ℕ) (n : ℕ) → length d ≤ n → take n s ++ drop n d ≡ take n s
copy_all s d n h = ap (λ (l : List ℕ). take n s ++ l) (drop_of_length-le d h) ∙ append-nil (take n s)

-- the same, from the element `first + i` of a message
pub copy_turn : (m d now : List ℕ) (first i : ℕ) → now ≡ take i (drop first m) ++ drop i d → first + i < length m → i < length d
    → set now i (get_or m (first + i) 0) ≡ take (i + 1) (drop first m) ++ drop (i + 1) d
copy_turn m d now first i e h k =
    let here : i < length (drop first m) = simp length-drop (omega arith) in
    rw (e, ← get_or-drop first m i 0) (copy_more (drop first m) d i here k)
