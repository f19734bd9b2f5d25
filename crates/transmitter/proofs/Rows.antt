-- A value in the row of a layout: tested, placed, read; the raw numbers of a message.
-- Assumes nothing.
use mathlib.Core.Path.{◌≡◌, refl, sym, ap, ◌∙◌, subst}
use mathlib.Core.List.{List, [], ◌∷◌, ◌++◌, map}
use mathlib.Core.Bool.{Bool, true, false, cond, not, ◌||◌}
use Prim.Native.Nat.{ℕ, zero, suc, ◌+◌, ◌-◌, ◌*◌, ◌/◌, ◌^◌, ◌≤◌, ◌<◌}
use native.Mathlib.Nat.{mul-one, one-mul, zero-add, suc-add, zero-mul}
use native.Mathlib.Omega.{arith}
use lib.Dec.{T, ltb, leb, eqb, leb→le}
use lib.ListN.{length, get_or, take, drop}
use lib.Seq.{take_all}
use Rattle.layouts.proofs.Packed.{length_bytes}
use lib.Pow.{shr_lt, shr_mono, shl-shr}
use borrow.Author.Tests.{ltb-true, ltb-false, lt-ltb, le-ltb, eq-eqb, ne_eqb}
use Rattle.layouts.specs.Answer.{refused, gives, Check, ◌when◌, refusal}
use Rattle.layouts.specs.Bits.{Field, row, value, reach}
use Rattle.layouts.specs.BitReader.{ReadBits}
use Rattle.std.specs.Prelude.{Result, Ok, Err}
use Rattle.std.specs.Bool.{MatchBool}
use Rattle.std.specs.List.{AllWithin, HoldsAt}
use Rattle.std.specs.Int.{bytes_high_first}
use Rattle.std.specs.Result.{IsOk, IsErrAnd}
use Rattle.std.proofs.Math.Pow.{pow_mono}
use Rattle.layouts.specs.Packed.{packed_on, too_wide, bytes_of}
use Rattle.layouts.specs.Refusals.{refusal_number, refused_by}
use Rattle.layouts.specs.declared.bits.Field.{Field as Row}
use Rattle.layouts.specs.declared.refusal.Refusal.{Refusal}
use Rattle.layouts.specs.declared.refusal.Refusal.TheVariants.{Reserved}
use Rattle.layouts.proofs.Refused.{carried}
use Rattle.transmitter.specs.inner.Parts.{sized, rows_of, values_of}
use Rattle.layouts.proofs.Answers.{stop_n, pass_n, pass, done, refused_with, given_with}
use Rattle.layouts.proofs.Unique.{numbers}
use Rattle.layouts.proofs.Tables.{every, both_left, both_right}
use Rattle.transmitter.specs.Write.{raw_numbers, kroot_rows, pkr_rows}

pub more : {a b : ℕ} {as' bs : List ℕ} → a ≡ b → as' ≡ bs → a ∷ as' ≡ b ∷ bs
more e f = cc

-- nothing is left above the field exactly where the value is not too wide
pub wide_shift : (v w : ℕ) → not (eqb (v / 2 ^ w) 0) ≡ not (ltb v (2 ^ w))
wide_shift v w = ap not (go (ltb v (2 ^ w)) refl)
  where
    go : (b : Bool) → ltb v (2 ^ w) ≡ b → eqb (v / 2 ^ w) 0 ≡ b
    go true e =
        let h : v / 2 ^ w < 1 = shr_lt 0 w (subst (λ (k : ℕ). v < 2 ^ k) (sym (zero-add w)) (ltb-true v (2 ^ w) e)) in
        eq-eqb (v / 2 ^ w) 0 (omega arith)
    go false e =
        let one : 2 ^ w / 2 ^ w ≡ 1 = ap (λ (x : ℕ). x / 2 ^ w) (sym (one-mul (2 ^ w))) ∙ shl-shr 1 w in
        let h : 2 ^ w / 2 ^ w ≤ v / 2 ^ w = shr_mono w (ltb-false v (2 ^ w) e) in
        ne_eqb (v / 2 ^ w) 0 (λ z. omega arith)

pub wide_never : (v w : ℕ) → 64 ≤ w → v < 2 ^ 64 → ltb w 64 ≡ not (ltb v (2 ^ w))
wide_never v w h l =
    let few : 2 ^ 64 ≤ 2 ^ w = pow_mono h in
    rw (le-ltb w 64 h, lt-ltb v (2 ^ w) (omega arith))

-- of values with their rows: one that is too wide
abbrev pub is_wide : ℕ × Row → Bool
is_wide p = not (ltb p.0 (2 ^ p.1.width))

all_narrow : (l : List (ℕ × Row)) → ((k : ℕ) (d : ℕ × Row) → k < length l → is_wide (get_or l k d) ≡ false) → too_wide (rows_of l) (values_of l) ≡ false
unfolding too_wide
all_narrow [] f = refl
all_narrow (p ∷ l) f = rw (f 0 p (omega arith), all_narrow l (λ k d h. f (suc k) d (omega arith)))

one_wide : (l : List (ℕ × Row)) (k : ℕ) → k < length l → ((d : ℕ × Row) → is_wide (get_or l k d) ≡ true) → too_wide (rows_of l) (values_of l) ≡ true
unfolding too_wide
one_wide [] k h f = absurd (omega arith)
one_wide (p ∷ l) zero h f = rw (f p)
one_wide (p ∷ l) (suc k) h f = rw (one_wide l k (omega arith) f) (or_true (is_wide p))
  where
    or_true : (b : Bool) → (b || true) ≡ true
    or_true true = refl
    or_true false = refl

pub wide_among : (l : List (ℕ × Row)) (b : Bool)
    → MatchBool b ((k : ℕ) × (k < length l) × HoldsAt (λ p. is_wide p ≡ true) l k) (AllWithin (λ p. is_wide p ≡ false) l 0 (length l))
    → b ≡ too_wide (rows_of l) (values_of l)
wide_among l true (k, h, f) = sym (one_wide l k h f)
wide_among l false f = sym (all_narrow l (λ k d h. f k d (omega arith) h))

-- the last bytes of a number are those of a number of so many
high_first : (k n : ℕ) → bytes_high_first k n ≡ bytes_of k n
unfolding bytes_of
high_first zero n = refl
high_first (suc zero) n = more (omega arith) refl
high_first (suc (suc k)) n = more refl (high_first (suc k) n)

low_bytes : (j m n : ℕ) → drop j (bytes_of (j + m) n) ≡ bytes_of m n
unfolding bytes_of
low_bytes zero m n = rw (zero-add m) refl
low_bytes (suc j) m n = rw (suc-add j m) (low_bytes j m n)

pub last_bytes : (m n : ℕ) → m ≤ 8 → take (8 - (8 - m)) (drop (8 - m) (bytes_high_first 8 n)) ≡ bytes_of m n
last_bytes m n h =
    let whole : 8 - m + m ≡ 8 = omega arith in
    let low : drop (8 - m) (bytes_high_first 8 n) ≡ bytes_of m n =
    ap (drop (8 - m)) (high_first 8 n ∙ ap (λ (k : ℕ). bytes_of k n) (sym whole)) ∙ low_bytes (8 - m) m n in
    ap (take (8 - (8 - m))) low ∙ take_all (8 - (8 - m)) (bytes_of m n) (omega (arith, length_bytes m n))

-- A size or a count that is not reserved, or is.
pub sized_ok : (k : ℕ) {n : ℕ} → Ok n ≡ sized k → (n ≡ k) × (n ≡ 0 → ⊥)
sized_ok zero e = let z : ◌≡◌ {A = ℕ} 0 1 = cc in absurd (omega arith)
sized_ok (suc k) {n} e = let g : n ≡ suc k = cc in (g, λ z. absurd (omega arith))

pub sized_err : (k : ℕ) {e : Refusal} → Err e ≡ sized k → (k ≡ 0) × (e ≡ Reserved)
sized_err zero {e} h = let g : e ≡ Reserved = cc in (refl, g)
sized_err (suc k) h = let z : ◌≡◌ {A = ℕ} 0 1 = cc in absurd (omega arith)

-- the check of one, handed on by `?` or passed
pub sized_stop : {A : Type 0} (k : ℕ) (cs : List Check) (r : Result A Refusal) (e : Refusal) → IsErrAnd r (λ (f : Refusal). f ≡ e) → Err e ≡ sized k
    → refused_by r ≡ refusal (6 when eqb k 0 ∷ cs)
sized_stop k cs r e i h =
    let p = sized_err k h in
    ap refused_by (carried r i) ∙ ap refusal_number p.1 ∙ stop_n 6 (eqb k 0) cs (eq-eqb k 0 p.0)

pub sized_pass : (k : ℕ) (cs : List Check) {n r : ℕ} → Ok n ≡ sized k → r ≡ refusal cs → r ≡ refusal (6 when eqb k 0 ∷ cs)
sized_pass k cs e h = let p = sized_ok k e in pass_n 6 (eqb k 0) cs (ne_eqb k 0 (λ z. p.1 (p.0 ∙ z))) h

-- two values side by side
pub two_placed : (f g : Field) (a b : ℕ) {p q : ℕ} → p ≡ a * 2 ^ g.width → q ≡ b * 1 → p + q ≡ packed_on 0 (f ∷ g ∷ []) (a ∷ b ∷ [])
unfolding packed_on
two_placed f g a b e h = rw (e, h, mul-one, zero-mul, zero-add)

-- a field that the message has, by the bit reader
module _ (m : List ℕ) (s w : ℕ) (r : Result ℕ Refusal) (e : ReadBits m s w r) (a : 1 ≤ w) (b : w ≤ 64) (l : s + w ≤ 8 * length m) where
  there : r ≡ Ok (value (row "" s w) m)
  there =
      numbers _ r (Ok (value (row "" s w) m)) e
      (pass 7 _ _ _ (ne_eqb w 0 (λ z. omega arith)) (pass 7 _ _ _ (le-ltb 64 w b) (pass 5 _ _ _ (le-ltb (8 * length m) (s + w) l) (done _ refl))))

  pub stands_there : IsOk r
  stands_there = rw there

  pub stands_value : {n : ℕ} → r ≡ Ok n → n ≡ value (row "" s w) m
  stands_value g = let h : Ok _ ≡ Ok (value (row "" s w) m) = sym g ∙ there in cc

-- The raw numbers: where the last row is not there, where all are.
five : (m : List ℕ) (fs : List Field) (l : Field) → 8 * length m < l.first + l.width → refusal (map (λ (f : Field). reach f m) (fs ++ (l ∷ []))) ≡ 5
unfolding refusal
five m [] l h = rw (lt-ltb (8 * length m) (l.first + l.width) h)
five m (f ∷ fs) l h = go (ltb (8 * length m) (f.first + f.width)) (five m fs l h)
  where
    go : (b : Bool) {n : ℕ} → n ≡ 5 → cond b 5 n ≡ 5
    go true e = refl
    go false e = e

none_five : (m : List ℕ) (to : ℕ) (fs : List Field) → T (every (λ (f : Field). leb (f.first + f.width) to) fs) → to ≤ 8 * length m
    → refusal (map (λ (f : Field). reach f m) fs) ≡ 0
unfolding refusal
none_five m to [] t h = refl
none_five m to (f ∷ fs) t h =
    let l : f.first + f.width ≤ to = leb→le _ _ (both_left (leb (f.first + f.width) to) (every (λ (f : Field). leb (f.first + f.width) to) fs) t) in
    rw (le-ltb (8 * length m) (f.first + f.width) (omega arith))
    (none_five m to fs (both_right (leb (f.first + f.width) to) (every (λ (f : Field). leb (f.first + f.width) to) fs) t) h)

raw_short : (m : List ℕ) (fs : List Field) (l : Field) → 8 * length m < l.first + l.width → refused 5 ≡ raw_numbers (fs ++ (l ∷ [])) m
unfolding raw_numbers
raw_short m fs l h =
    let e : refusal (map (λ (f : Field). reach f m) (fs ++ (l ∷ []))) ≡ 5 = five m fs l h in
    ap refused (sym e) ∙ refused_with _ _ (λ z. omega arith)

raw_read : (m : List ℕ) (to : ℕ) (fs : List Field) {l : List ℕ} → T (every (λ (f : Field). leb (f.first + f.width) to) fs) → to ≤ 8 * length m
    → l ≡ map (λ (f : Field). value f m) fs → gives l ≡ raw_numbers fs m
unfolding raw_numbers
raw_read m to fs t h e = given_with _ _ (none_five m to fs t h) (ap gives e)

pub kroot_short : (m : List ℕ) → length m < 13 → refused 5 ≡ raw_numbers kroot_rows m
kroot_short m h =
    raw_short m (row "NB_DK" 0 4 ∷ row "PKID" 4 4 ∷ row "CIDKR" 8 2 ∷ row "HF" 12 2 ∷ row "MF" 14 2 ∷ row "KS" 16 4 ∷ row "TS" 20 4 ∷ row "MACLT" 24 8
    ∷ row "WN_K" 36 12 ∷ row "TOWH_K" 48 8 ∷ []) (row "alpha" 56 48) (omega arith)

pub kroot_raw : (m : List ℕ) {l : List ℕ} → 13 ≤ length m → l ≡ map (λ (f : Field). value f m) kroot_rows → gives l ≡ raw_numbers kroot_rows m
kroot_raw m h e = raw_read m 104 kroot_rows tt (omega arith) e

pub pkr_short : (m : List ℕ) → length m < 130 → refused 5 ≡ raw_numbers pkr_rows m
pkr_short m h = raw_short m (row "NB_DP" 0 4 ∷ row "MID" 4 4 ∷ row "NPKT" 1032 4 ∷ []) (row "NPKID" 1036 4) (omega arith)

pub pkr_raw : (m : List ℕ) {l : List ℕ} → 130 ≤ length m → l ≡ map (λ (f : Field). value f m) pkr_rows → gives l ≡ raw_numbers pkr_rows m
pkr_raw m h e = raw_read m 1040 pkr_rows tt (omega arith) e
