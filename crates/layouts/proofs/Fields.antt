-- Laws of `field`, for every start and every width.
-- Assumes nothing.
use mathlib.Core.Path.{◌≡◌, sym, ap, ◌∙◌}
use mathlib.Core.List.{List, [], ◌∷◌}
use Prim.Native.Nat.{ℕ, zero, suc, ◌+◌, ◌-◌, ◌*◌, ◌/◌, ◌%◌, ◌^◌, ◌≤◌, ◌<◌}
use native.Mathlib.Nat.{zero-add, div-one, lt_of_lt_of_le, add-zero, add-suc, add_assoc, mul_assoc, mul-one, pow-zero, pow-suc, mod-one, one-mul, mod-eq_of_lt}
use native.Mathlib.Numerals.{add-one}
use native.Mathlib.Omega.{arith}
use lib.ListN.{get_or}
use lib.Arith.{digits_lt}
use lib.Pow.{high, low, pow_mono, shl_lt, pow-lt, shr-shr, mod-pow-add}
use Rattle.layouts.specs.Answer.{gives}
use Rattle.layouts.specs.Bits.{bit, field}

pub bit_lt : (l : List ℕ) (i : ℕ) → bit l i < 2
unfolding bit
bit_lt l i = omega arith

-- two runs, one after the other, are one run
pub field_add : (l : List ℕ) (s v w : ℕ) → field l s (v + w) ≡ field l s v * 2 ^ w + field l (s + v) w
unfolding field
field_add l s v zero = rw (add-zero v, pow-zero, mul-one, add-zero)
field_add l s v (suc w) = rw (add-suc, field_add l s v w, pow-suc)
    (omega (arith, mul_assoc (field l s v) (2 ^ w) 2, ap (λ (i : ℕ). bit l i) (add_assoc s v w)))

-- a run of `w` bits is a number of `w` bits
pub field_lt : (l : List ℕ) (s w : ℕ) → field l s w < 2 ^ w
unfolding field
field_lt l s zero = omega arith
field_lt l s (suc w) = rw pow-suc (digits_lt (field_lt l s w) (bit_lt l (s + w)))

-- a run inside byte `k`, from its bit `o` on
pub field_in_byte : (l : List ℕ) (k o w : ℕ) → o + w ≤ 8 → field l (8 * k + o) w ≡ get_or l k 0 / 2 ^ (8 - o - w) % 2 ^ w
unfolding field bit
field_in_byte l k o zero h = sym (mod-one (get_or l k 0 / 2 ^ (8 - o - 0)))
field_in_byte l k o (suc w) h =
    let n : ℕ = get_or l k 0 / 2 ^ (8 - o - suc w) in
    let byte : (8 * k + o + w) / 8 ≡ k = omega arith in
    let place : 7 - (8 * k + o + w) % 8 ≡ 8 - o - suc w = omega arith in
    let wider : 8 - o - w ≡ (8 - o - suc w) + 1 = omega arith in
    rw (field_in_byte l k o w (omega arith), byte, place, wider, ← shr-shr)
    (sym (mod-pow-add n w 1) ∙ ap (λ (x : ℕ). n % 2 ^ x) (add-one w))

-- a whole byte
pub field_byte : (l : List ℕ) (k : ℕ) → get_or l k 0 < 2 ^ 8 → field l (8 * k) 8 ≡ get_or l k 0
field_byte l k b =
    rw (add-zero, div-one, mod-eq_of_lt b) at (field_in_byte l k 0 8 (omega arith))

-- the byte that starts half a byte in
pub field_across : (l : List ℕ) (k : ℕ) → get_or l (k + 1) 0 < 2 ^ 8 → field l (8 * k + 4) 8 ≡ get_or l k 0 % 16 * 16 + get_or l (k + 1) 0 / 16
field_across l k b =
    let next : 8 * k + 4 + 4 ≡ 8 * (k + 1) + 0 = omega arith in
    rw (field_add l (8 * k + 4) 4 4, next, field_in_byte l k 4 4 (omega arith), field_in_byte l (k + 1) 0 4 (omega arith)) (omega arith)

-- the byte behind the `i` whole bytes from byte `f` on
pub field_next : (l : List ℕ) (f i : ℕ) → get_or l (f + i) 0 < 2 ^ 8
    → field l (8 * f) (8 * i) * 2 ^ 8 + get_or l (f + i) 0 ≡ field l (8 * f) (8 * (i + 1))
field_next l f i b =
    let more : 8 * (i + 1) ≡ 8 * i + 8 = omega arith in
    let here : 8 * f + 8 * i ≡ 8 * (f + i) = omega arith in
    rw (more, field_add l (8 * f) (8 * i) 8, here, field_byte l (f + i) b)

-- a run inside a run: `v` bits before it, and `x` after it
pub field_mid : (l : List ℕ) (s v w x : ℕ) → field l s (v + w + x) / 2 ^ x % 2 ^ w ≡ field l (s + v) w
field_mid l s v w x =
    rw (field_add l s (v + w) x, high (field l s (v + w)) x (field_lt l (s + (v + w)) x), field_add l s v w)
    (low (field l s v) w (field_lt l (s + v) w))

-- `n` bits more have room in 64
pub field_room : (l : List ℕ) (s v n : ℕ) → v + n ≤ 64 → field l s v * 2 ^ n < 2 ^ 64
field_room l s v n h = lt_of_lt_of_le (shl_lt v n (field_lt l s v)) (pow_mono h)

-- the code's `1 << n`, of a number of `bits` bits
pub one_shl : (bits n : ℕ) → n < bits → (1 * 2 ^ n) % 2 ^ bits ≡ 2 ^ n
one_shl bits n h = rw one-mul (mod-eq_of_lt (pow-lt h))

-- a field of one byte
pub field_of_byte : (h o w : ℕ) → o + w ≤ 8 → field (h ∷ []) o w ≡ h / 2 ^ (8 - o - w) % 2 ^ w
field_of_byte h o w r = ap (λ (s : ℕ). field (h ∷ []) s w) (sym (zero-add o)) ∙ field_in_byte (h ∷ []) 0 o w r

-- the name of what a field says
pub says : {v w k : ℕ} → v ≡ w → v ≡ k → gives (k ∷ []) ≡ gives (w ∷ [])
says e f = ap (λ (n : ℕ). gives (n ∷ [])) (sym f ∙ e)
