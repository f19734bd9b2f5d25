-- Laws for writing what was read: the fields of a layout, packed again, and bytes taken one part after the other.
-- Assumes nothing.
use mathlib.Core.Path.{◌≡◌, refl, sym, ap, ◌∙◌, subst}
use mathlib.Core.List.{List, [], ◌∷◌, map}
use mathlib.Core.Bool.{Bool, true, false}
use Prim.Native.Nat.{ℕ, zero, suc, ◌+◌, ◌-◌, ◌*◌, ◌/◌, ◌%◌, ◌^◌, ◌≤◌, ◌<◌}
use native.Mathlib.Nat.{add_assoc, not-suc-le-zero, le_of_suc-le-suc}
use native.Mathlib.Omega.{arith}
use lib.Dec.{T, eqb→eq, eqb-suc-zero}
use lib.ListN.{length, take, drop, get_or, length-drop}
use lib.Seq.{ext_get_or, get_or-take, get_or-drop, length-take-le}
use borrow.Author.Tests.{lt-ltb}
use Rattle.layouts.specs.Answer.{Answer, refused, nothing, gives, answered}
use Rattle.layouts.specs.Bits.{field, Field, gapless, value}
use Rattle.layouts.proofs.Fields.{field_add, field_lt, field_byte, field_mid}
use Rattle.runs.proofs.Basics.{and_true}
use Rattle.layouts.specs.Packed.{packed_on, bytes_of, too_wide}
use Rattle.transmitter.specs.WriteBack.{Bytes, given, all_given}
use Rattle.layouts.proofs.Packed.{gap_head, byte_at, length_bytes}

-- the fields of a layout, packed, are its bits
pub packed_back : (l : List ℕ) (s v : ℕ) (fs : List Field) (u : ℕ) → T (gapless (s + v) fs (s + u))
    → packed_on (field l s v) fs (map (λ (f : Field). value f l) fs) ≡ field l s u
unfolding packed_on
packed_back l s v [] u t = ap (field l s) (let e : s + v ≡ s + u = eqb→eq (s + v) (s + u) t in omega arith)
packed_back l s v (f ∷ fs) u t =
    let w : ℕ = f.width in
    let g : (s + v ≡ f.first) × T (gapless (s + v + w) fs (s + u)) = gap_head (s + v) f fs (s + u) t in
    let here : field l s v * 2 ^ w + field l f.first w ≡ field l s (v + w) =
    ap (λ (x : ℕ). field l s v * 2 ^ w + field l x w) (sym g.0) ∙ sym (field_add l s v w) in
    ap (λ (x : ℕ). packed_on x fs (map (λ (f : Field). value f l) fs)) here
    ∙ packed_back l s (v + w) fs u (subst (λ (x : ℕ). T (gapless x fs (s + u))) (add_assoc s v w) g.1)

pub values_narrow : (l : List ℕ) (fs : List Field) → too_wide fs (map (λ (f : Field). value f l) fs) ≡ false
unfolding too_wide
values_narrow l [] = refl
values_narrow l (f ∷ fs) = rw (lt-ltb (value f l) (2 ^ f.width) (field_lt l f.first f.width)) (values_narrow l fs)

byte_lt : (l : List ℕ) → Bytes l → (i : ℕ) → get_or l i 0 < 256
byte_lt [] b i = omega arith
byte_lt (x ∷ l) b zero = b.0
byte_lt (x ∷ l) b (suc i) = byte_lt l b.1 i

place : (k j : ℕ) → j < k → 8 * k ≡ 8 * j + 8 + 8 * (k - 1 - j)
place k j h = omega arith

-- so many whole bytes, as a number and back
pub bytes_back : (l : List ℕ) (f k : ℕ) → f + k ≤ length l → Bytes l → bytes_of k (field l (8 * f) (8 * k)) ≡ take k (drop f l)
bytes_back l f k h b =
    let n : ℕ = field l (8 * f) (8 * k) in
    let long : length (take k (drop f l)) ≡ k = length-take-le k (drop f l) (rw (length-drop f l) (omega arith)) in
    ext_get_or 0 (bytes_of k n) (take k (drop f l)) (length_bytes k n ∙ sym long) (λ j g.
    let i : j < k = omega (arith, length_bytes k n) in
    let x : ℕ = 8 * (k - 1 - j) in
    byte_at k n j i
    ∙ ap (λ (y : ℕ). field l (8 * f) y / 2 ^ x % 2 ^ 8) (place k j i)
    ∙ field_mid l (8 * f) (8 * j) 8 x
    ∙ ap (λ (y : ℕ). field l y 8) (let e : 8 * f + 8 * j ≡ 8 * (f + j) = omega arith in e)
    ∙ field_byte l (f + j) (byte_lt l b (f + j))
    ∙ sym (get_or-take k (drop f l) j 0 i ∙ get_or-drop f l j 0))

-- answers that are given
pub given_at : (as' : List Answer) (i : ℕ) → i < length as' → all_given as' ≡ true → given (get_or as' i nothing) ≡ true
unfolding all_given
given_at [] i h e = absurd (not-suc-le-zero h)
given_at (a ∷ as') zero h e = (and_true (given a) (all_given as') e).0
given_at (a ∷ as') (suc i) h e = given_at as' i (le_of_suc-le-suc h) (and_true (given a) (all_given as') e).1

pub given_none : (q : ℕ) (l : List ℕ) → given (answered q (gives l)) ≡ true → q ≡ 0
unfolding answered
given_none zero l e = refl
given_none (suc q) l e =
    let f : given (refused (suc q)) ≡ true = rw eqb-suc-zero at e in
    let g : ◌≡◌ {A = Bool} false true = f in
    let z : ◌≡◌ {A = ℕ} 0 1 = cc in absurd (omega arith)

pub given_is : (q : ℕ) (l : List ℕ) → given (answered q (gives l)) ≡ true → answered q (gives l) ≡ gives l
unfolding answered
given_is q l e = rw (given_none q l e)
