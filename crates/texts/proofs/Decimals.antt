-- Laws of decimal numbers.
-- Assumes nothing.
use mathlib.Core.Path.{◌≡◌, refl, sym, ap, ◌∙◌}
use mathlib.Core.List.{List, [], ◌∷◌, ◌++◌}
use mathlib.Core.Bool.{Bool, true, false, cond, not, ◌&&◌}
use Prim.Native.Nat.{ℕ, zero, suc, ◌+◌, ◌-◌, ◌*◌, ◌/◌, ◌%◌, ◌^◌, ◌≤◌, ◌<◌, min}
use native.Mathlib.Nat.{le_of_suc-le-suc, not-suc-le-zero, pow-suc}
use native.Mathlib.Omega.{arith}
use native.Mathlib.Numerals.{add-one}
use lib.ListN.{length, get_or, take, length-append}
use lib.Seq.{take-suc, take_all}
use lib.Dec.{leb, ltb, eqb}
use borrow.Author.Tests.{ltb-true, ltb-false, leb-true, not-true, not-false, lt-ltb, le-ltb, le-leb, eq-eqb, ne_eqb}
use Rattle.texts.specs.Decimal.{is_digit, only, digits_only, is_decimal, number_behind, number, most, spelt, digits, DigitsSay}

pub both : (a b : Bool) → a && b ≡ true → (a ≡ true) × (b ≡ true)
both true b e = (refl, e)
both false b e = (e, cc)

pub digit_bounds : {c : ℕ} → is_digit c ≡ true → (48 ≤ c) × (c ≤ 57)
digit_bounds {c} e = let h = both (leb 48 c) (leb c 57) e in (leb-true 48 c h.0, leb-true c 57 h.1)

-- a test of every byte of a text
module _ (test : ℕ → Bool) where
  only_append : (s t : List ℕ) → only test (s ++ t) ≡ only test s && only test t
  unfolding only
  only_append [] t = refl
  only_append (c ∷ s) t = go (test c) (only_append s t)
    where
      go : (b : Bool) → only test (s ++ t) ≡ only test s && only test t → b && only test (s ++ t) ≡ (b && only test s) && only test t
      go true e = e
      go false e = refl

  pub only_none : (s : List ℕ) → only test (take 0 s) ≡ true
  unfolding only
  only_none [] = refl
  only_none (c ∷ s) = refl

  pub only_more : (s : List ℕ) (i : ℕ) → i < length s → only test (take i s) ≡ true → test (get_or s i 0) ≡ true → only test (take (i + 1) s) ≡ true
  unfolding only
  only_more s i h e d = rw (add-one i, take-suc s i 0 h, only_append, e, d)

  pub only_not : (s : List ℕ) (i : ℕ) → i < length s → test (get_or s i 0) ≡ false → only test s ≡ false
  unfolding only
  only_not [] i h e = absurd (not-suc-le-zero h)
  only_not (c ∷ s) zero h e = rw e
  only_not (c ∷ s) (suc i) h e = go (test c) (only_not s i (le_of_suc-le-suc h) e)
    where
      go : (b : Bool) → only test s ≡ false → b && only test s ≡ false
      go true e = e
      go false e = refl

  pub only_at : (s : List ℕ) (i : ℕ) → only test s ≡ true → i < length s → test (get_or s i 0) ≡ true
  unfolding only
  only_at [] i e h = absurd (not-suc-le-zero h)
  only_at (c ∷ s) zero e h = (both (test c) (only test s) e).0
  only_at (c ∷ s) (suc i) e h = only_at s i (both (test c) (only test s) e).1 (le_of_suc-le-suc h)

  pub only_all : (s : List ℕ) → ((i : ℕ) → i < length s → test (get_or s i 0) ≡ true) → only test s ≡ true
  unfolding only
  only_all [] h = refl
  only_all (c ∷ s) h = rw (h 0 (omega arith), only_all s (λ i l. h (suc i) (omega arith)))

-- texts of digits
pub digits_more :
    (s : List ℕ) (i : ℕ) {b : Bool} → i < length s → digits_only (take i s) ≡ true → b ≡ is_digit (get_or s i 0) → not b ≡ false
    → digits_only (take (i + 1) s) ≡ true
digits_more s i h e f t = only_more is_digit s i h e (sym f ∙ not-false _ t)

pub not_digit : (s : List ℕ) (i : ℕ) {b : Bool} → i < length s → b ≡ is_digit (get_or s i 0) → not b ≡ true → false ≡ is_decimal s
not_digit s i h e t = rw (ne_eqb (length s) 0 (λ z. omega arith), only_not is_digit s i h (sym e ∙ not-true _ t))

pub no_digits : (s : List ℕ) → digits_only (take 0 s) ≡ true
no_digits s = only_none is_digit s

pub none_given : (s : List ℕ) → length s ≡ 0 → false ≡ is_decimal s
none_given s e = rw (eq-eqb (length s) 0 e)

pub all_digits : (s : List ℕ) (i : ℕ) → (length s ≡ 0 → ⊥) → length s ≤ i → digits_only (take i s) ≡ true → true ≡ is_decimal s
all_digits s i n h e = rw (ne_eqb (length s) 0 n, ← take_all i s h, e)

-- what they say
behind_append : (n : ℕ) (s t : List ℕ) → number_behind n (s ++ t) ≡ number_behind (number_behind n s) t
unfolding number_behind
behind_append n [] t = refl
behind_append n (c ∷ s) t = behind_append (n * 10 + (c - 48)) s t

pub number_append : (s : List ℕ) (c : ℕ) → number (s ++ (c ∷ [])) ≡ number s * 10 + (c - 48)
unfolding number_behind
number_append s c = behind_append 0 s (c ∷ [])

pub number_none : (s : List ℕ) → number (take 0 s) ≡ 0
unfolding number_behind
number_none [] = refl
number_none (c ∷ s) = refl

-- a turn of the loop that reads: one digit more, and never above the most
pub number_more :
    (s : List ℕ) (i : ℕ) {n d r : ℕ} → i < length s → n ≡ min (number (take i s)) most → d ≡ get_or s i 0 → r ≡ min (n * 10 + (d - 48)) most
    → r ≡ min (number (take (i + 1) s)) most
number_more s i {n} {d} {r} h e f g =
    let more = number_append (take i s) (get_or s i 0) in
    let step : number (take (i + 1) s) ≡ number (take i s) * 10 + (get_or s i 0 - 48) = rw (add-one i, take-suc s i 0 h) more in
    rw step (capped (number (take i s)) n (get_or s i 0) d r e f g)
  where
    capped : (a n c d r : ℕ) → n ≡ min a most → d ≡ c → r ≡ min (n * 10 + (d - 48)) most → r ≡ min (a * 10 + (c - 48)) most
    capped a n c d r e f g = omega arith

-- the digits of a number
spelt_enough : (k j n : ℕ) → n < k → n < j → spelt k n ≡ spelt j n
unfolding spelt
spelt_enough zero j n h l = absurd (not-suc-le-zero h)
spelt_enough (suc k) zero n h l = absurd (not-suc-le-zero l)
spelt_enough (suc k) (suc j) n h l = go (ltb n 10) refl (λ a b. spelt_enough k j (n / 10) a b)
  where
    go :
        (b : Bool) → ltb n 10 ≡ b → (n / 10 < k → n / 10 < j → spelt k (n / 10) ≡ spelt j (n / 10))
        → cond b [] (spelt k (n / 10)) ++ ((48 + n % 10) ∷ []) ≡ cond b [] (spelt j (n / 10)) ++ ((48 + n % 10) ∷ [])
    go true e ih = refl
    go false e ih = let m = ltb-false n 10 e in rw (ih (omega arith) (omega arith))

pub digits_one : (n : ℕ) → n < 10 → digits n ≡ (48 + n) ∷ []
unfolding digits spelt
digits_one n h = let e : n % 10 ≡ n = omega arith in rw (lt-ltb n 10 h, e)

pub digits_ten : (n : ℕ) → 10 ≤ n → digits n ≡ digits (n / 10) ++ ((48 + n % 10) ∷ [])
unfolding digits spelt
digits_ten n h =
    ap (λ (b : Bool). cond b [] (spelt n (n / 10)) ++ ((48 + n % 10) ∷ [])) (le-ltb n 10 h)
    ∙ ap (λ (l : List ℕ). l ++ ((48 + n % 10) ∷ [])) (spelt_enough n (suc (n / 10)) (n / 10) (omega arith) (omega arith))

-- a fact of every number's digits: of one digit, and of one digit more
digits_all : (P : ℕ → Type 0) → ((n : ℕ) → n < 10 → P n) → ((n : ℕ) → 10 ≤ n → P (n / 10) → P n) → (k n : ℕ) → n < k → P n
digits_all P one ten zero n h = absurd (not-suc-le-zero h)
digits_all P one ten (suc k) n h = go (ltb n 10) refl (λ a. digits_all P one ten k (n / 10) a)
  where
    go : (b : Bool) → ltb n 10 ≡ b → (n / 10 < k → P (n / 10)) → P n
    go true e ih = one n (ltb-true n 10 e)
    go false e ih = let m = ltb-false n 10 e in ten n m (ih (omega arith))

digits_only_lem : (n : ℕ) → digits_only (digits n) ≡ true
unfolding only
digits_only_lem n = digits_all (λ n. digits_only (digits n) ≡ true) one ten (suc n) n (omega arith)
  where
    digit : (d : ℕ) → d < 10 → is_digit (48 + d) ≡ true
    digit d h = rw (le-leb 48 (48 + d) (omega arith)) (le-leb (48 + d) 57 (omega arith))

    last : (d : ℕ) → d < 10 → digits_only ((48 + d) ∷ []) ≡ true
    last d h = ap (λ (b : Bool). b && true) (digit d h)

    one : (n : ℕ) → n < 10 → digits_only (digits n) ≡ true
    one n h = rw (digits_one n h) (last n h)

    ten : (n : ℕ) → 10 ≤ n → digits_only (digits (n / 10)) ≡ true → digits_only (digits n) ≡ true
    ten n h e = rw (digits_ten n h, only_append is_digit, e) (last (n % 10) (omega arith))

number_digits : (n : ℕ) → number (digits n) ≡ n
number_digits n = digits_all (λ n. number (digits n) ≡ n) one ten (suc n) n (omega arith)
  where
    one : (n : ℕ) → n < 10 → number (digits n) ≡ n
    one n h = rw (digits_one n h, number_append [] (48 + n)) (omega (arith, number_none []))

    ten : (n : ℕ) → 10 ≤ n → number (digits (n / 10)) ≡ n / 10 → number (digits n) ≡ n
    ten n h e = rw (digits_ten n h, number_append, e) (omega arith)

-- how many there are
pub digits_some : (n : ℕ) → 1 ≤ length (digits n)
digits_some n = digits_all (λ n. 1 ≤ length (digits n)) one ten (suc n) n (omega arith)
  where
    one : (n : ℕ) → n < 10 → 1 ≤ length (digits n)
    one n h = rw (digits_one n h) (omega arith)

    ten : (n : ℕ) → 10 ≤ n → 1 ≤ length (digits (n / 10)) → 1 ≤ length (digits n)
    ten n h e = rw (digits_ten n h, length-append) (omega arith)

pub ten_longer : (n : ℕ) → 10 ≤ n → length (digits n) ≡ length (digits (n / 10)) + 1
ten_longer n h = ap length (digits_ten n h) ∙ length-append (digits (n / 10)) ((48 + n % 10) ∷ [])

pub digits_say : DigitsSay
digits_say n = (go (length (digits n)) (digits_some n) (digits_only_lem n), number_digits n)
  where
    go : (l : ℕ) → 1 ≤ l → digits_only (digits n) ≡ true → not (eqb l 0) && digits_only (digits n) ≡ true
    go l h e = rw (ne_eqb l 0 (λ z. omega arith), e)

digits_fit : (d n : ℕ) → n < 10 ^ suc d → length (digits n) ≤ suc d
digits_fit zero n h = rw (digits_one n (rw pow-suc at h)) (omega arith)
digits_fit (suc d) n h = go (ltb n 10) refl (λ a. digits_fit d (n / 10) a)
  where
    go : (b : Bool) → ltb n 10 ≡ b → (n / 10 < 10 ^ suc d → length (digits (n / 10)) ≤ suc d) → length (digits n) ≤ suc (suc d)
    go true e ih = rw (digits_one n (ltb-true n 10 e)) (omega arith)
    go false e ih =
        let m = ltb-false n 10 e in
        let p : 10 ^ suc (suc d) ≡ 10 ^ suc d * 10 = pow-suc 10 (suc d) in
        let r : n / 10 < 10 ^ suc d = omega arith in
        let i = ih r in
        rw (digits_ten n m, length-append) (omega arith)

-- a number of 64 bits has at most twenty
pub digits_few : (n : ℕ) → n ≤ most → length (digits n) ≤ 20
digits_few n h = digits_fit 19 n (omega arith)
