-- Laws of numbers as bytes, and of the fields of what is packed.
-- Assumes nothing.
use mathlib.Core.Path.{◌≡◌, refl, sym, ap, ◌∙◌}
use mathlib.Core.List.{List, [], ◌∷◌, ◌++◌, map}
use mathlib.Core.Bool.{Bool, true, false, cond, not, ◌||◌}
use Prim.Native.Nat.{ℕ, zero, suc, ◌+◌, ◌-◌, ◌*◌, ◌/◌, ◌%◌, ◌^◌, ◌≤◌, ◌<◌}
use native.Mathlib.Nat.{div-one, add-zero, pow-suc, mod-one}
use native.Mathlib.Nat.{le_of_suc-le-suc, not-suc-le-zero}
use native.Mathlib.Numerals.{add-one}
use native.Mathlib.Omega.{arith}
use lib.Dec.{T, ltb, eqb, eqb→eq}
use lib.ListN.{length, get_or, get_or-append}
use lib.Seq.{get_or-append-add}
use lib.Pow.{high, low, shr-shr, mod-pow-add, mod-mod-pow, field as pow_field}
use borrow.Author.Tests.{ltb-true, lt-ltb, le-ltb}
use Rattle.layouts.specs.Answer.{gives}
use Rattle.layouts.specs.Bits.{bit, field, Field, gapless, value, read}
use Rattle.layouts.proofs.Answers.{pass, done}
use Rattle.layouts.specs.Packed.{packed_on, bytes_of, too_wide}

pub length_bytes : (k n : ℕ) → length (bytes_of k n) ≡ k
unfolding bytes_of
length_bytes zero n = refl
length_bytes (suc k) n = ap suc (length_bytes k n)

pub pow_bytes : (k : ℕ) → 256 ^ k ≡ 2 ^ (8 * k)
pow_bytes zero = refl
pow_bytes (suc k) =
    let e : 8 * suc k ≡ suc (suc (suc (suc (suc (suc (suc (suc (8 * k)))))))) = omega arith in
    rw (pow-suc 256 k, e, pow_bytes k, pow-suc, pow-suc, pow-suc, pow-suc, pow-suc, pow-suc, pow-suc, pow-suc) (omega arith)

-- a byte of a number
pub byte_at : (k n j : ℕ) → j < k → get_or (bytes_of k n) j 0 ≡ n / 2 ^ (8 * (k - 1 - j)) % 2 ^ 8
unfolding bytes_of
byte_at zero n j h = absurd (not-suc-le-zero h)
byte_at (suc k) n zero h =
    let e : suc k - 1 - 0 ≡ k = omega arith in
    rw (e, pow_bytes k)
byte_at (suc k) n (suc j) h =
    let e : suc k - 1 - suc j ≡ k - 1 - j = omega arith in
    rw e (byte_at k n j (le_of_suc-le-suc h))

bit_place : (k i : ℕ) → i < 8 * k → 8 * (k - 1 - i / 8) + (7 - i % 8) ≡ 8 * k - 1 - i
bit_place k i h = omega arith

eight : (b : ℕ) → b ≤ 7 → (8 - b) + b ≡ 8
eight b h = omega arith

seven : (b : ℕ) → b ≤ 7 → (7 - b) + 1 ≡ 8 - b
seven b h = omega arith

low_bit : (i : ℕ) → 7 - i % 8 ≤ 7
low_bit i = omega arith

byte_there : (k i : ℕ) → i < 8 * k → i / 8 < k
byte_there k i h = omega arith

bit_at : (k n i : ℕ) → i < 8 * k → bit (bytes_of k n) i ≡ n / 2 ^ (8 * k - 1 - i) % 2
unfolding bit
bit_at k n i h =
    let a : ℕ = 8 * (k - 1 - i / 8) in
    let b : ℕ = 7 - i % 8 in
    let q : ℕ = n / 2 ^ a in
    let e8 : (8 - b) + b ≡ 8 = eight b (low_bit i) in
    let e7 : (7 - b) + 1 ≡ 8 - b = seven b (low_bit i) in
    let place : a + b ≡ 8 * k - 1 - i = bit_place k i h in
    let one : q % 2 ^ 8 / 2 ^ b ≡ q / 2 ^ b % 2 ^ (8 - b) = ap (λ (x : ℕ). q % 2 ^ x / 2 ^ b) (sym e8) ∙ pow_field q (8 - b) b in
    let two : q / 2 ^ b % 2 ^ (8 - b) % 2 ≡ q / 2 ^ b % 2 = ap (λ (x : ℕ). q / 2 ^ b % 2 ^ x % 2) (sym e7) ∙ mod-mod-pow (q / 2 ^ b) (7 - b) 1 in
    ap (λ (x : ℕ). x / 2 ^ b % 2) (byte_at k n (i / 8) (byte_there k i h))
    ∙ ap (λ (x : ℕ). x % 2) one
    ∙ two
    ∙ ap (λ (x : ℕ). x % 2) (shr-shr n a b)
    ∙ ap (λ (x : ℕ). n / 2 ^ x % 2) place

-- a field of the bytes of a number
pub field_of_bytes : (k n s w : ℕ) → s + w ≤ 8 * k → field (bytes_of k n) s w ≡ n / 2 ^ (8 * k - s - w) % 2 ^ w
unfolding field
field_of_bytes k n s zero h = sym (mod-one (n / 2 ^ (8 * k - s - 0)))
field_of_bytes k n s (suc w) h =
    let x : ℕ = n / 2 ^ (8 * k - s - suc w) in
    let place : 8 * k - 1 - (s + w) ≡ 8 * k - s - suc w = omega arith in
    let wider : 8 * k - s - w ≡ (8 * k - s - suc w) + 1 = omega arith in
    rw (field_of_bytes k n s w (omega arith), bit_at k n (s + w) (omega arith), place, wider, ← shr-shr)
    (sym (mod-pow-add x w 1) ∙ ap (λ (y : ℕ). x % 2 ^ y) (add-one w))

-- fields of what is written before something else, and behind something else
pub field_front : (a b : List ℕ) (s w : ℕ) → s + w ≤ 8 * length a → field (a ++ b) s w ≡ field a s w
unfolding field bit
field_front a b s zero h = refl
field_front a b s (suc w) h =
    rw (field_front a b s w (omega arith), get_or-append a b 0 ((s + w) / 8) (omega arith))

pub field_behind : (a b : List ℕ) (s w : ℕ) → field (a ++ b) (8 * length a + s) w ≡ field b s w
unfolding field bit
field_behind a b s zero = refl
field_behind a b s (suc w) =
    let byte : (8 * length a + s + w) / 8 ≡ length a + (s + w) / 8 = omega arith in
    let place : (8 * length a + s + w) % 8 ≡ (s + w) % 8 = omega arith in
    rw (field_behind a b s w, byte, place, get_or-append-add a b ((s + w) / 8) 0)

-- the rows of a layout without a gap
if_true : (a b : Bool) → T (cond a b false) → T a × T b
if_true true b t = (tt, t)
if_true false b t = absurd t

pub gap_head : (from : ℕ) (f : Field) (fs : List Field) (to : ℕ) → T (gapless from (f ∷ fs) to) → (from ≡ f.first) × T (gapless (from + f.width) fs to)
gap_head from f fs to t =
    let b : T (eqb from f.first) × T (gapless (from + f.width) fs to) = if_true (eqb from f.first) (gapless (from + f.width) fs to) t in
    (eqb→eq from f.first b.0, b.1)

pub or_false : (a b : Bool) → (a || b) ≡ false → (a ≡ false) × (b ≡ false)
or_false true b e = let z : ◌≡◌ {A = Bool} true false = e in absurd (let y : ◌≡◌ {A = ℕ} 0 1 = cc in omega arith)
or_false false b e = (refl, e)

pub not_wide : (v w : ℕ) → not (ltb v w) ≡ false → v < w
not_wide v w e = go (ltb v w) refl e
  where
    go : (b : Bool) → ltb v w ≡ b → not b ≡ false → v < w
    go true h e = ltb-true v w h
    go false h e = let y : ◌≡◌ {A = ℕ} 0 1 = cc in absurd (omega arith)

pub gapless_le : (from : ℕ) (fs : List Field) (to : ℕ) → T (gapless from fs to) → from ≤ to
gapless_le from [] to t = omega (arith, eqb→eq from to t)
gapless_le from (f ∷ fs) to t = let h : from + f.width ≤ to = gapless_le (from + f.width) fs to (gap_head from f fs to t).1 in omega arith

-- what was there before the rows stands above them
packed_high : (n from : ℕ) (fs : List Field) (to : ℕ) (vs : List ℕ) → T (gapless from fs to) → too_wide fs vs ≡ false → packed_on n fs vs / 2 ^ (to - from) ≡ n
unfolding packed_on too_wide
packed_high n from [] to vs t e =
    let z : to - from ≡ 0 = omega (arith, eqb→eq from to t) in
    rw z (div-one n)
packed_high n from (f ∷ fs) to [] t e =
    let w : ℕ = f.width in
    let g : T (gapless (from + w) fs to) = (gap_head from f fs to t).1 in
    let h : from + w ≤ to = gapless_le (from + w) fs to g in
    let split : to - from ≡ (to - (from + w)) + w = omega arith in
    rw (split, ← shr-shr)
    (ap (λ (x : ℕ). x / 2 ^ w) (packed_high (n * 2 ^ w) (from + w) fs to [] g (none fs) ∙ sym (add-zero (n * 2 ^ w))) ∙ high n w (lib.Pow.pow_pos w))
  where
    none : (fs : List Field) → too_wide fs [] ≡ false
    none [] = refl
    none (f ∷ fs) = refl
packed_high n from (f ∷ fs) to (v ∷ vs) t e =
    let w : ℕ = f.width in
    let g : T (gapless (from + w) fs to) = (gap_head from f fs to t).1 in
    let h : from + w ≤ to = gapless_le (from + w) fs to g in
    let split : to - from ≡ (to - (from + w)) + w = omega arith in
    let o : (not (ltb v (2 ^ w)) ≡ false) × (too_wide fs vs ≡ false) = or_false (not (ltb v (2 ^ w))) (too_wide fs vs) e in
    rw (split, ← shr-shr) (ap (λ (x : ℕ). x / 2 ^ w) (packed_high (n * 2 ^ w + v) (from + w) fs to vs g o.1) ∙ high n w (not_wide v (2 ^ w) o.0))

-- each row says its value
abbrev pub Says : List ℕ → ℕ → ℕ → ℕ → Type 0
Says l from to n = (s w : ℕ) → from ≤ s → s + w ≤ to → field l s w ≡ n / 2 ^ (to - s - w) % 2 ^ w

pub rows_say : (l : List ℕ) (n from : ℕ) (fs : List Field) (to : ℕ) (vs : List ℕ) → T (gapless from fs to) → too_wide fs vs ≡ false → length vs ≡ length fs
    → Says l from to (packed_on n fs vs) → map (λ (f : Field). value f l) fs ≡ vs
unfolding packed_on too_wide
rows_say l n from [] to [] t e long says = refl
rows_say l n from [] to (v ∷ vs) t e long says = absurd (omega arith)
rows_say l n from (f ∷ fs) to [] t e long says = absurd (omega arith)
rows_say l n from (f ∷ fs) to (v ∷ vs) t e long says =
    let w : ℕ = f.width in
    let first : from ≡ f.first = (gap_head from f fs to t).0 in
    let g : T (gapless (from + w) fs to) = (gap_head from f fs to t).1 in
    let h : from + w ≤ to = gapless_le (from + w) fs to g in
    let o : (not (ltb v (2 ^ w)) ≡ false) × (too_wide fs vs ≡ false) = or_false (not (ltb v (2 ^ w))) (too_wide fs vs) e in
    let place : to - from - w ≡ to - (from + w) = omega arith in
    let here : field l from w ≡ v =
    says from w (omega arith) h
    ∙ ap (λ (x : ℕ). packed_on (n * 2 ^ w + v) fs vs / 2 ^ x % 2 ^ w) place
    ∙ ap (λ (x : ℕ). x % 2 ^ w) (packed_high (n * 2 ^ w + v) (from + w) fs to vs g o.1)
    ∙ low n w (not_wide v (2 ^ w) o.0) in
    let rest : map (λ (f : Field). value f l) fs ≡ vs =
    rows_say l (n * 2 ^ w + v) (from + w) fs to vs g o.1 (omega arith) (λ s x a b. says s x (omega arith) b) in
    rw (rest, ← first, here)

-- each row is there
pub row_read : (f : Field) (m : List ℕ) → f.first + f.width ≤ 8 * length m → read f m ≡ gives (value f m ∷ [])
row_read f m h = sym (pass 5 _ _ _ (le-ltb (8 * length m) (f.first + f.width) h) (done _ refl))

pub rows_read : (m : List ℕ) (from : ℕ) (fs : List Field) (to : ℕ) → T (gapless from fs to) → to ≤ 8 * length m
    → map (λ (f : Field). read f m) fs ≡ map (λ (f : Field). gives (value f m ∷ [])) fs
rows_read m from [] to t h = refl
rows_read m from (f ∷ fs) to t h =
    let first : from ≡ f.first = (gap_head from f fs to t).0 in
    let g : T (gapless (from + f.width) fs to) = (gap_head from f fs to t).1 in
    let e : from + f.width ≤ to = gapless_le (from + f.width) fs to g in
    rw (rows_read m (from + f.width) fs to g h, row_read f m (omega arith))

-- a value too wide for its field, or not, from the test of each
pub wide_here : (f : Field) (fs : List Field) (v : ℕ) (vs : List ℕ) {b : Bool} → b ≡ not (ltb v (2 ^ f.width)) → b ≡ true → true ≡ too_wide (f ∷ fs) (v ∷ vs)
unfolding too_wide
wide_here f fs v vs e h = rw (← e, h)

pub wide_on : (f : Field) (fs : List Field) (v : ℕ) (vs : List ℕ) {b r : Bool} → b ≡ not (ltb v (2 ^ f.width)) → b ≡ false → r ≡ too_wide fs vs
    → r ≡ too_wide (f ∷ fs) (v ∷ vs)
unfolding too_wide
wide_on f fs v vs e h g = rw (← e, h) g

pub wide_zero : (f : Field) (fs : List Field) (vs : List ℕ) {r : Bool} → r ≡ too_wide fs vs → r ≡ too_wide (f ∷ fs) (0 ∷ vs)
wide_zero f fs vs g = wide_on f fs 0 vs refl (ap not (lt-ltb 0 (2 ^ f.width) (lib.Pow.pow_pos f.width))) g

pub wide_last : (f : Field) (v : ℕ) {b : Bool} → b ≡ not (ltb v (2 ^ f.width)) → b ≡ too_wide (f ∷ []) (v ∷ [])
unfolding too_wide
wide_last f v {b} e = e ∙ go (not (ltb v (2 ^ f.width)))
  where
    go : (x : Bool) → x ≡ (x || false)
    go true = refl
    go false = refl
