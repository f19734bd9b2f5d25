-- Laws of the I/NAV page.
-- Assumes nothing.
use Prim.Native.Nat.{ℕ, ◌+◌, ◌*◌}
use native.Mathlib.Nat.{add-zero}
use native.Mathlib.Omega.{arith}
use mathlib.Core.Path.{◌≡◌, refl, ap}
use mathlib.Core.List.{List, [], ◌∷◌}
use mathlib.Core.Bool.{Bool, true, false, cond, ◌&&◌}
use lib.ListN.{length, replicate}
use lib.Dec.{eqb}
use borrow.Author.Tests.{eq-eqb, ne_eqb, eqb-true}
use Rattle.layouts.specs.Answer.{refused, nothing, gives, refusal, answered, Copied}
use Rattle.layouts.specs.Bits.{bit, field, bytes_from}
use Rattle.layouts.specs.InavPage.{is_counted, osnma, page_kind, osnma_copied}
use Rattle.layouts.proofs.Fields.{bit_lt}

-- Lengths.
module _ (page : List ℕ) where
  pub other_length : (length page ≡ 30 → ⊥) → refused 1 ≡ page_kind page
  unfolding refusal answered
  other_length ne = rw (ne_eqb (length page) 30 ne)

  pub osnma_refused : (length page ≡ 30 → ⊥)
      → ◌≡◌ {A = Copied} (record { answer = refused 1; bytes = replicate 5 0 }) (osnma_copied page)
  unfolding refusal answered
  osnma_refused ne = rw (ne_eqb (length page) 30 ne)

-- What class a page is.
pub field_two : (l : List ℕ) (s : ℕ) → field l s 2 ≡ bit l s * 2 + bit l (s + 1)
unfolding field
field_two l s = omega (arith, ap (λ (i : ℕ). bit l i) (add-zero s))

no_first : (p q r s : Bool) → (p ≡ true → q ≡ true → ⊥) → false ≡ (p && q && r && s)
no_first true true r s f = absurd (f refl refl)
no_first true false r s f = refl
no_first false q r s f = refl

no_last : (p q r s : Bool) → (r ≡ true → s ≡ true → ⊥) → false ≡ (p && q && r && s)
no_last true true true true f = absurd (f refl refl)
no_last true true true false f = refl
no_last true true false s f = refl
no_last true false r s f = refl
no_last false q r s f = refl

module _ (page : List ℕ) {a : ℕ} (e : a ≡ field page 0 2) where
  even_other : (a ≡ 0 → ⊥) → false ≡ is_counted page
  unfolding is_counted
  even_other ne =
      no_first (eqb (bit page 0) 0) (eqb (bit page 1) 0) _ _
      (λ p q. ne (omega (arith, field_two page 0, eqb-true (bit page 0) 0 p, eqb-true (bit page 1) 0 q)))

  module _ {b : ℕ} (f : b ≡ field page 120 2) where
    odd_other : (b ≡ 2 → ⊥) → false ≡ is_counted page
    unfolding is_counted
    odd_other ne =
        no_last (eqb (bit page 0) 0) (eqb (bit page 1) 0) (eqb (bit page 120) 1) (eqb (bit page 121) 0)
        (λ p q. ne (omega (arith, field_two page 120, eqb-true (bit page 120) 1 p, eqb-true (bit page 121) 0 q)))

    page_counts : a ≡ 0 → b ≡ 2 → true ≡ is_counted page
    unfolding is_counted
    page_counts g h =
        let b0 : bit page 0 ≡ 0 = omega (arith, field_two page 0) in
        let b1 : bit page 1 ≡ 0 = omega (arith, field_two page 0) in
        let b120 : bit page 120 ≡ 1 = omega (arith, field_two page 120, bit_lt page 121) in
        let b121 : bit page 121 ≡ 0 = omega (arith, field_two page 120, bit_lt page 121) in
        rw (b0, b1, b120, b121)

-- The answers, of a page of 30 bytes.
module _ (page : List ℕ) (long : length page ≡ 30) where
  kind_is : {b : Bool} → b ≡ is_counted page → cond b (gives []) nothing ≡ page_kind page
  unfolding refusal answered
  kind_is e = rw (eq-eqb (length page) 30 long, e)

  pub skips_even : {a : ℕ} → a ≡ field page 0 2 → (a ≡ 0 → ⊥) → nothing ≡ page_kind page
  skips_even e ne = kind_is (even_other page e ne)

  pub skips_odd : {a b : ℕ} → a ≡ field page 0 2 → b ≡ field page 120 2 → (b ≡ 2 → ⊥)
      → nothing ≡ page_kind page
  skips_odd e f ne = kind_is (odd_other page e f ne)

  pub counts_both : {a b : ℕ} → a ≡ field page 0 2 → b ≡ field page 120 2 → a ≡ 0 → b ≡ 2
      → gives [] ≡ page_kind page
  counts_both e f g h = kind_is (page_counts page e f g h)

  pub osnma_is : {a b c d e : ℕ} → a ≡ field page 138 8 → b ≡ field page 146 8 → c ≡ field page 154 8 → d ≡ field page 162 8 → e ≡ field page 170 8
      → ◌≡◌ {A = Copied} (record { answer = gives []; bytes = a ∷ b ∷ c ∷ d ∷ e ∷ [] }) (osnma_copied page)
  unfolding refusal answered osnma bytes_from
  osnma_is ea eb ec ed ee = rw (eq-eqb (length page) 30 long, ea, eb, ec, ed, ee)
