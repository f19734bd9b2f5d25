-- Laws of the check that every count is at most 15, by numbers of several counts.
-- Assumes nothing.
use Prim.Native.Nat.{ℕ, zero, suc, ◌+◌, ◌*◌, ◌/◌, ◌%◌, ◌≤◌, ◌<◌}
use native.Mathlib.Numerals.{add-one}
use native.Mathlib.Omega.{arith}
use mathlib.Core.Path.{◌≡◌, refl, sym, ap, ◌∙◌}
use mathlib.Core.List.{List, [], ◌∷◌, ◌++◌}
use mathlib.Core.Bool.{Bool, true, false, not, ◌&&◌}
use lib.ListN.{length, get_or, drop, drop_of_length-le}
use lib.Seq.{drop-cons}
use lib.Dec.{leb, eqb}
use lib.Bits.{bit_and, and_block, and_high}
use borrow.Author.Tests.{leb-true, leb-false, eq-eqb, ne_eqb, not-true, not-false}
use Rattle.subframes.specs.Subframe.{small}
use Rattle.subframes.specs.inner.Subframe.{packed, Joined, eight_of}

-- the high half of each byte
unfoldable mask : List ℕ → ℕ
mask [] = 0
mask (b ∷ l) = mask l * 256 + 240

unfoldable Bytes : List ℕ → Type 0
Bytes [] = Unit {0}
Bytes (b ∷ l) = (b < 256) × Bytes l

zero_block : (x y : ℕ) → y ≡ 0 → eqb (x * 256 + y) 0 ≡ eqb x 0
zero_block zero y e = rw e
zero_block (suc x) y e = ne_eqb (suc x * 256 + y) 0 (λ q. omega arith) ∙ sym (ne_eqb (suc x) 0 (λ q. omega arith))

-- no high half has a bit exactly where all bytes are at most 15
clear : (l : List ℕ) → Bytes l → eqb (bit_and (packed l) (mask l)) 0 ≡ small l
unfolding packed mask small Bytes
clear [] h = refl
clear (b ∷ l) h = rw (and_block 8 (packed l) (mask l) b 240 h.0 (omega arith), and_high b 4 4) (go (leb b 15) refl (clear l h.1))
  where
    go : (x : Bool) → leb b 15 ≡ x → eqb (bit_and (packed l) (mask l)) 0 ≡ small l → eqb (bit_and (packed l) (mask l) * 256 + b / 16 % 16 * 16) 0 ≡ (x && small l)
    go true e r = zero_block (bit_and (packed l) (mask l)) (b / 16 % 16 * 16) (omega (arith, leb-true b 15 e)) ∙ r
    go false e r = ne_eqb (bit_and (packed l) (mask l) * 256 + b / 16 % 16 * 16) 0 (λ q. omega (arith, leb-false b 15 e, h.0))

-- Numbers of four and of eight counts.
pub joined_is : (a b c d : ℕ) → a < 256 → b < 256 → c < 256 → d < 256 → Joined a b c d (((d * 256 + c) * 256 + b) * 256 + a)
unfolding packed
joined_is a b c d ha hb hc hd = record { number = omega arith; a_byte = ha; b_byte = hb; c_byte = hc; d_byte = hd }

pub joined_lt : {a b c d r : ℕ} → Joined a b c d r → r < 4294967296
unfolding packed
joined_lt j = omega (arith, j.number, j.a_byte, j.b_byte, j.c_byte, j.d_byte)

pub four_clear : {a b c d r : ℕ} → Joined a b c d r → eqb (bit_and r 4042322160) 0 ≡ small (a ∷ b ∷ c ∷ d ∷ [])
unfolding mask Bytes
four_clear {a} {b} {c} {d} j = rw j.number (clear (a ∷ b ∷ c ∷ d ∷ []) (j.a_byte, (j.b_byte, (j.c_byte, (j.d_byte, tt)))))

pub eight_clear :
    {a b c d e f g h x y : ℕ} → Joined a b c d x → Joined e f g h y
    → eqb (bit_and (y * 4294967296 + x) 17361641481138401520) 0 ≡ small (a ∷ b ∷ c ∷ d ∷ e ∷ f ∷ g ∷ h ∷ [])
unfolding packed mask Bytes
eight_clear {a} {b} {c} {d} {e} {f} {g} {h} {x} {y} j k =
    let n : y * 4294967296 + x ≡ packed (a ∷ b ∷ c ∷ d ∷ e ∷ f ∷ g ∷ h ∷ []) = omega (arith, j.number, k.number) in
    rw n (clear (a ∷ b ∷ c ∷ d ∷ e ∷ f ∷ g ∷ h ∷ []) (j.a_byte, (j.b_byte, (j.c_byte, (j.d_byte, (k.a_byte, (k.b_byte, (k.c_byte, (k.d_byte, tt)))))))))

-- Counts in front of the others.
both_small : (xs ys : List ℕ) → small (xs ++ ys) ≡ (small xs && small ys)
unfolding small
both_small [] ys = refl
both_small (x ∷ xs) ys = go (leb x 15) (both_small xs ys)
  where
    go : (b : Bool) → small (xs ++ ys) ≡ (small xs && small ys) → (b && small (xs ++ ys)) ≡ ((b && small xs) && small ys)
    go true r = r
    go false r = refl

next : (l : List ℕ) (i j : ℕ) → j ≡ i + 1 → i < length l → drop i l ≡ get_or l i 0 ∷ drop j l
next l i j e h = rw (e, add-one, drop-cons l i 0 h)

front_4 : (l : List ℕ) → 4 ≤ length l → l ≡ (get_or l 0 0 ∷ get_or l 1 0 ∷ get_or l 2 0 ∷ get_or l 3 0 ∷ []) ++ drop 4 l
front_4 l h = next l 0 1 refl (omega arith) ∙ rw (next l 1 2 refl (omega arith), next l 2 3 refl (omega arith), next l 3 4 refl (omega arith))

front_8 : (l : List ℕ) (i : ℕ) → i + 8 ≤ length l → drop i l ≡ eight_of l i ++ drop (i + 8) l
front_8 l i h =
    rw (
      next l i (i + 1) refl (omega arith),
      next l (i + 1) (i + 2) (omega arith) (omega arith),
      next l (i + 2) (i + 3) (omega arith) (omega arith),
      next l (i + 3) (i + 4) (omega arith) (omega arith),
      next l (i + 4) (i + 5) (omega arith) (omega arith),
      next l (i + 5) (i + 6) (omega arith) (omega arith),
      next l (i + 6) (i + 7) (omega arith) (omega arith),
      next l (i + 7) (i + 8) (omega arith) (omega arith),
    )

-- The check's ways: before each turn what is left is small exactly if all is.
module _ (l : List ℕ) {x : ℕ} (h : 4 ≤ length l) (j : Joined (get_or l 0 0) (get_or l 1 0) (get_or l 2 0) (get_or l 3 0) x) where
  first : small l ≡ (eqb (bit_and x 4042322160) 0 && small (drop 4 l))
  first =
      ap small (front_4 l h) ∙ both_small (get_or l 0 0 ∷ get_or l 1 0 ∷ get_or l 2 0 ∷ get_or l 3 0 ∷ []) (drop 4 l)
      ∙ ap (λ (b : Bool). b && small (drop 4 l)) (sym (four_clear j))

  pub first_stop : (bit_and x 4042322160 ≡ 0 → ⊥) → false ≡ small l
  first_stop ne = sym (first ∙ ap (λ (b : Bool). b && small (drop 4 l)) (ne_eqb (bit_and x 4042322160) 0 ne))

  pub first_go : bit_and x 4042322160 ≡ 0 → small (drop 4 l) ≡ small l
  first_go e = sym (first ∙ ap (λ (b : Bool). b && small (drop 4 l)) (eq-eqb (bit_and x 4042322160) 0 e))

module _ (l : List ℕ) (i : ℕ) {b : Bool} (h : i + 8 ≤ length l) (f : b ≡ small (eight_of l i)) (e : small (drop i l) ≡ small l) where
  left : small l ≡ (b && small (drop (i + 8) l))
  left = sym e ∙ ap small (front_8 l i h) ∙ both_small (eight_of l i) (drop (i + 8) l) ∙ ap (λ (x : Bool). x && small (drop (i + 8) l)) (sym f)

  pub small_stop : not b ≡ true → false ≡ small l
  small_stop n = sym (left ∙ ap (λ (x : Bool). x && small (drop (i + 8) l)) (not-true b n))

  pub small_go : not b ≡ false → small (drop (i + 8) l) ≡ small l
  small_go n = sym (left ∙ ap (λ (x : Bool). x && small (drop (i + 8) l)) (not-false b n))

pub small_end : (l : List ℕ) (i : ℕ) → length l ≤ i → small (drop i l) ≡ small l → true ≡ small l
unfolding small
small_end l i h e = sym (ap small (drop_of_length-le l h)) ∙ e
