-- Laws of hexadecimal digits.
-- Assumes nothing.
use mathlib.Core.Path.{◌≡◌, refl, sym, ap, ◌∙◌, subst}
use mathlib.Core.List.{List, [], ◌∷◌}
use mathlib.Core.Bool.{Bool, true, false, cond, ◌&&◌}
use Prim.Native.Nat.{ℕ, zero, suc, ◌+◌, ◌-◌, ◌*◌, ◌/◌, ◌%◌, ◌≤◌, ◌<◌}
use native.Mathlib.Nat.{zero-add}
use native.Mathlib.Omega.{arith}
use lib.ListN.{length, get_or}
use lib.Seq.{ext_get_or}
use lib.Dec.{leb, ltb, eqb}
use borrow.Author.Tests.{lt-ltb, le-ltb, ltb-true, ltb-false, lt-leb, le-leb, leb-true, eq-eqb, ne_eqb, eqb-true}
use Rattle.std.specs.Char.{is_ascii_hexdigit}
use Rattle.std.specs.Prelude.{◌||◌}
use Rattle.std.specs.Bool.{MatchBool}
use Rattle.std.specs.List.{AllWithin, HoldsAt, range_with_len}
use Rattle.std.proofs.lemmas.List.FromFn.{length-range_with_len, get_or-range_with_len}
use Rattle.texts.specs.Decimal.{only}
use Rattle.texts.specs.Hexadecimal.{digit_of, is_hex_digit, is_hexadecimal, bytes_of, letter, capitals, same, CapitalsSay}
use Rattle.texts.proofs.Decimals.{both, only_all, only_not, only_at}

-- the value of a digit
module _ {c : ℕ} where
  pub zero_nine : 48 ≤ c → c ≤ 57 → c - 48 ≡ digit_of c
  unfolding digit_of
  zero_nine h g = rw (le-leb 48 c h, le-leb c 57 g)

  pub capital_letter : 65 ≤ c → c ≤ 70 → c - 55 ≡ digit_of c
  unfolding digit_of
  capital_letter h g = rw (le-leb 48 c (omega arith), lt-leb c 57 (omega arith), le-leb 65 c h, le-leb c 70 g)

-- the digit of a value
module _ {d : ℕ} where
  pub low_letter : d < 10 → 48 + d ≡ letter d
  unfolding letter
  low_letter h = rw (lt-ltb d 10 h)

  pub high_letter : 10 ≤ d → 55 + d ≡ letter d
  unfolding letter
  high_letter h = rw (le-ltb d 10 h)

-- the digits of bytes, one by one
pub capitals_long : (s : List ℕ) → length (capitals s) ≡ 2 * length s
unfolding capitals
capitals_long [] = refl
capitals_long (b ∷ s) = omega (arith, capitals_long s)

even_at : (s : List ℕ) (k : ℕ) → k < 2 * length s → k % 2 ≡ 0 → letter (get_or s (k / 2) 0 / 16) ≡ get_or (capitals s) k 0
unfolding capitals
even_at [] k h e = absurd (omega arith)
even_at (b ∷ s) zero h e = refl
even_at (b ∷ s) (suc zero) h e = absurd (omega arith)
even_at (b ∷ s) (suc (suc k)) h e = let q : suc (suc k) / 2 ≡ suc (k / 2) = omega arith in rw q (even_at s k (omega arith) (omega arith))

odd_at : (s : List ℕ) (k : ℕ) → k < 2 * length s → (k % 2 ≡ 0 → ⊥) → letter (get_or s (k / 2) 0 % 16) ≡ get_or (capitals s) k 0
unfolding capitals
odd_at [] k h e = absurd (omega arith)
odd_at (b ∷ s) zero h e = absurd (e refl)
odd_at (b ∷ s) (suc zero) h e = refl
odd_at (b ∷ s) (suc (suc k)) h e =
    let q : suc (suc k) / 2 ≡ suc (k / 2) = omega arith in
    rw q (odd_at s k (omega arith) (λ z. e (omega arith)))

module _ (s : List ℕ) (k : ℕ) (h : k < 2 * length s) {r : ℕ} where
  pub capital_even : k % 2 ≡ 0 → r ≡ letter (get_or s (k / 2) 0 / 16) → r ≡ get_or (capitals s) k 0
  capital_even e f = f ∙ even_at s k h e

  pub capital_odd : (k % 2 ≡ 0 → ⊥) → r ≡ letter (get_or s (k / 2) 0 % 16) → r ≡ get_or (capitals s) k 0
  capital_odd e f = f ∙ odd_at s k h e

-- the bytes that digits spell, one by one
pub bytes_long : (s : List ℕ) → length (bytes_of s) ≡ length s / 2
unfolding bytes_of
bytes_long [] = refl
bytes_long (c ∷ []) = refl
bytes_long (c ∷ d ∷ s) = omega (arith, bytes_long s)

bytes_at : (s : List ℕ) (i : ℕ) → 2 * i + 1 < length s → 16 * digit_of (get_or s (2 * i) 0) + digit_of (get_or s (2 * i + 1) 0) ≡ get_or (bytes_of s) i 0
unfolding bytes_of
bytes_at [] i h = absurd (omega arith)
bytes_at (c ∷ []) i h = absurd (omega arith)
bytes_at (c ∷ d ∷ s) zero h = refl
bytes_at (c ∷ d ∷ s) (suc i) h =
    let even : 2 * suc i ≡ suc (suc (2 * i)) = omega arith in
    let odd : suc (suc (2 * i)) + 1 ≡ suc (suc (2 * i + 1)) = omega arith in
    rw (even, odd) (bytes_at s i (omega arith))

pub byte_at :
    (s : List ℕ) (i : ℕ) {h l : ℕ} → 2 * i + 1 < length s → h ≡ digit_of (get_or s (2 * i) 0) → l ≡ digit_of (get_or s (2 * i + 1) 0)
    → 16 * h + l ≡ get_or (bytes_of s) i 0
byte_at s i g e f = rw (e, f) (bytes_at s i g)

-- whether a byte is a digit, and a text is hexadecimal
hexdigit : (c : ℕ) → is_ascii_hexdigit c ≡ is_hex_digit c
unfolding digit_of
hexdigit c = go (leb 48 c && leb c 57) (leb 65 c && leb c 70) (leb 97 c && leb c 102) refl refl refl
  where
    go :
        (x y z : Bool) → leb 48 c && leb c 57 ≡ x → leb 65 c && leb c 70 ≡ y → leb 97 c && leb c 102 ≡ z
        → (x || y) || z ≡ leb (cond x (c - 48) (cond y (c - 55) (cond z (c - 87) 16))) 15
    go true y z e f g = let h = leb-true c 57 (both (leb 48 c) (leb c 57) e).1 in sym (le-leb (c - 48) 15 (omega arith))
    go false true z e f g = let h = leb-true c 70 (both (leb 65 c) (leb c 70) f).1 in sym (le-leb (c - 55) 15 (omega arith))
    go false false true e f g = let h = leb-true c 102 (both (leb 97 c) (leb c 102) g).1 in sym (le-leb (c - 87) 15 (omega arith))
    go false false false e f g = refl

pub hexdigit_told : (c : ℕ) {b : Bool} → b ≡ is_ascii_hexdigit c → is_hex_digit c ≡ b
hexdigit_told c e = sym (e ∙ hexdigit c)

pub all_hex :
    (s : List ℕ) (r : Bool) → length s % 2 ≡ 0
    → MatchBool r (AllWithin (λ (x : ℕ). is_hex_digit x ≡ true) s 0 (length s)) ((k : ℕ) × (k < length s) × HoldsAt (λ (x : ℕ). is_hex_digit x ≡ false) s k)
    → r ≡ is_hexadecimal s
all_hex s true f h = rw (eq-eqb (length s % 2) 0 f, only_all is_hex_digit s (λ i l. h i 0 (omega arith) l))
all_hex s false f h = rw (eq-eqb (length s % 2) 0 f, only_not is_hex_digit s h.0 h.1 (h.2 0))

pub hex_at : (s : List ℕ) (i : ℕ) → is_hexadecimal s ≡ true → i < length s → digit_of (get_or s i 0) ≤ 15
hex_at s i e h = leb-true (digit_of (get_or s i 0)) 15 (only_at is_hex_digit s i (both (eqb (length s % 2) 0) (only is_hex_digit s) e).1 h)

pub hex_digit : (s : List ℕ) (i : ℕ) → is_hexadecimal s ≡ true → i < length s → is_hex_digit (get_or s i 0) ≡ true
hex_digit s i e h = only_at is_hex_digit s i (both (eqb (length s % 2) 0) (only is_hex_digit s) e).1 h

-- two lists are the same
same_true : (s t : List ℕ) → same s t ≡ true → s ≡ t
unfolding same
same_true [] [] e = refl
same_true [] (b ∷ t) e = let z : ◌≡◌ {A = ℕ} 0 1 = cc in absurd (omega arith)
same_true (a ∷ s) [] e = let z : ◌≡◌ {A = ℕ} 0 1 = cc in absurd (omega arith)
same_true (a ∷ s) (b ∷ t) e = let h = both (eqb a b) (same s t) e in rw (eqb-true a b h.0, same_true s t h.1)

same_self : (s : List ℕ) → same s s ≡ true
unfolding same
same_self [] = refl
same_self (a ∷ s) = rw (eq-eqb a a refl, same_self s)

not_same : (s t : List ℕ) → (s ≡ t → ⊥) → false ≡ same s t
not_same s t ne = go (same s t) refl
  where
    go : (b : Bool) → same s t ≡ b → false ≡ b
    go false e = refl
    go true e = absurd (ne (same_true s t e))

module _ (text bytes : List ℕ) where
  pub other_long : (length text ≡ 2 * length bytes → ⊥) → eqb (length text) (2 * length bytes) ≡ same text (capitals bytes)
  other_long ne = ne_eqb (length text) (2 * length bytes) ne ∙ not_same text (capitals bytes) (λ e. let l = ap length e in let m = capitals_long bytes in ne (omega arith))

  -- digit by digit, where there are as many
  pub same_digits :
      (n : ℕ) (r : Bool) → length text ≡ n → length text ≡ 2 * length bytes
      → MatchBool r (AllWithin (λ (k : ℕ). get_or text k 0 ≡ get_or (capitals bytes) k 0) (range_with_len 0 n) 0 (length (range_with_len 0 n)))
      ((i : ℕ) × (i < length (range_with_len 0 n)) × HoldsAt (λ (k : ℕ). get_or text k 0 ≡ get_or (capitals bytes) k 0 → ⊥) (range_with_len 0 n) i)
      → r ≡ same text (capitals bytes)
  same_digits n true e f h =
      let m = capitals_long bytes in
      let l = length-range_with_len 0 n in
      let q : text ≡ capitals bytes = ext_get_or 0 text (capitals bytes) (omega arith)
      (λ j g. subst (λ (k : ℕ). get_or text k 0 ≡ get_or (capitals bytes) k 0) (get_or-range_with_len 0 n j 0 (omega arith) ∙ zero-add j) (h j 0 (omega arith) (omega arith))) in
      sym (rw q (same_self (capitals bytes)))
  same_digits n false e f h = not_same text (capitals bytes) (λ q. h.2 0 (ap (λ (l : List ℕ). get_or l (get_or (range_with_len 0 n) h.0 0) 0) q))

-- what is written can be read
digit_letter : (d : ℕ) → d < 16 → digit_of (letter d) ≡ d
digit_letter d h = go (ltb d 10) refl
  where
    go : (b : Bool) → ltb d 10 ≡ b → digit_of (letter d) ≡ d
    go true e =
        let l = ltb-true d 10 e in
        let v : 48 + d - 48 ≡ d = omega arith in
        ap digit_of (sym (low_letter l)) ∙ sym (zero_nine (omega arith) (omega arith)) ∙ v
    go false e =
        let l = ltb-false d 10 e in
        let v : 55 + d - 55 ≡ d = omega arith in
        ap digit_of (sym (high_letter l)) ∙ sym (capital_letter (omega arith) (omega arith)) ∙ v

module _ (b : ℕ) (h : b < 256) where
  high_digit : digit_of (letter (b / 16)) ≡ b / 16
  high_digit = digit_letter (b / 16) (omega arith)

  low_digit : digit_of (letter (b % 16)) ≡ b % 16
  low_digit = digit_letter (b % 16) (omega arith)

capitals_hex : (s : List ℕ) → only (λ b. ltb b 256) s ≡ true → only is_hex_digit (capitals s) ≡ true
unfolding only capitals
capitals_hex [] e = refl
capitals_hex (b ∷ s) e =
    let h = both (ltb b 256) (only (λ b. ltb b 256) s) e in
    let l = ltb-true b 256 h.0 in
    rw (high_digit b l, low_digit b l, le-leb (b / 16) 15 (omega arith), le-leb (b % 16) 15 (omega arith), capitals_hex s h.1)

capitals_bytes : (s : List ℕ) → only (λ b. ltb b 256) s ≡ true → bytes_of (capitals s) ≡ s
unfolding only capitals bytes_of
capitals_bytes [] e = refl
capitals_bytes (b ∷ s) e =
    let h = both (ltb b 256) (only (λ b. ltb b 256) s) e in
    let l = ltb-true b 256 h.0 in
    let v : 16 * (b / 16) + b % 16 ≡ b = omega arith in
    rw (high_digit b l, low_digit b l, v, capitals_bytes s h.1)

pub capitals_say : CapitalsSay
capitals_say s e = (
  rw (eq-eqb (length (capitals s) % 2) 0 (omega (arith, capitals_long s)), capitals_hex s e),
  capitals_bytes s e,
)
