-- The refusal numbers of the PKR writer, one law for each `return`.
-- Assumes nothing.
use mathlib.Core.Path.{◌≡◌, refl, sym, ap, ◌∙◌}
use Rattle.std.specs.Prelude.{Result, Err, Option, Some, None}
use Rattle.std.specs.Option.{SomeIff, option_eq}
use Rattle.std.specs.Result.{IsErrAnd}
use Rattle.layouts.specs.Refusals.{refused_by}
use Rattle.layouts.specs.declared.refusal.Refusal.{Refusal}
use Rattle.transmitter.specs.inner.Parts.{sized}
use Rattle.transmitter.proofs.Rows.{sized_stop}
use mathlib.Core.List.{List, [], ◌∷◌}
use mathlib.Core.Bool.{Bool, true, false, cond, not}
use Prim.Native.Nat.{ℕ, ◌+◌, ◌-◌, ◌*◌, ◌≤◌, ◌<◌}
use native.Mathlib.Omega.{arith}
use lib.Dec.{eqb}
use lib.ListN.{length, drop}
use borrow.Author.Tests.{eqb-true, eqb-false, lt-ltb, le-ltb, eq-eqb, ne_eqb}
use Rattle.layouts.specs.Answer.{refusal}
use Rattle.layouts.specs.Sizes.{size, unless_0, pkr_blocks, key_types, naming}
use Rattle.layouts.proofs.Options.{size_is, size_some, size_none}
use Rattle.layouts.specs.DsmPkr.{new_key_sizes}
use Rattle.layouts.specs.Packed.{too_wide}
use Rattle.transmitter.specs.Write.{pkr_rows, PkrValues, pkr_numbers, pkr_checks}
use Rattle.layouts.proofs.Answers.{stop_n, pass_n, none_n, differs, equals}

-- in a message of so many blocks a type has a size exactly if it has a name
pub sized_named : (b t : ℕ) → (size (new_key_sizes b) t ≡ 0 → ⊥) → eqb (length (naming key_types t)) 0 ≡ false
unfolding key_types
sized_named b t = go (eqb t 1) (eqb t 3) (eqb t 4)
  where
    go : (x y z : Bool) → (◌≡◌ {A = ℕ} (cond x 33 (cond y 67 (cond z (13 * b - 130) 0))) 0 → ⊥)
        → eqb (length (cond x (t ∷ []) (cond y (t ∷ []) (cond z (t ∷ []) [])))) 0 ≡ false
    go true y z ne = refl
    go false true z ne = refl
    go false false true ne = refl
    go false false false ne = absurd (ne refl)

unsized_unnamed : (b t : ℕ) → 13 ≤ b → size (new_key_sizes b) t ≡ 0 → eqb (length (naming key_types t)) 0 ≡ true
unfolding key_types
unsized_unnamed b t h = go (eqb t 1) (eqb t 3) (eqb t 4)
  where
    go : (x y z : Bool) → ◌≡◌ {A = ℕ} (cond x 33 (cond y 67 (cond z (13 * b - 130) 0))) 0
        → eqb (length (cond x (t ∷ []) (cond y (t ∷ []) (cond z (t ∷ []) [])))) 0 ≡ true
    go true y z e = absurd (omega arith)
    go false true z e = absurd (omega arith)
    go false false true e = absurd (omega arith)
    go false false false e = refl

pub blocks_many : (n : ℕ) → (size pkr_blocks n ≡ 0 → ⊥) → 13 ≤ size pkr_blocks n
unfolding pkr_blocks
blocks_many n = go (eqb n 7) (eqb n 8) (eqb n 9) (eqb n 10)
  where
    go : (a b c d : Bool) → (◌≡◌ {A = ℕ} (cond a 13 (cond b 14 (cond c 15 (cond d 16 0)))) 0 → ⊥) → 13 ≤ cond a 13 (cond b 14 (cond c 15 (cond d 16 0)))
    go true b c d ne = omega arith
    go false true c d ne = omega arith
    go false false true d ne = omega arith
    go false false false true ne = omega arith
    go false false false false ne = absurd (ne refl)

pub pkr_blocks_few : (n : ℕ) → size pkr_blocks n ≤ 16
unfolding pkr_blocks
pkr_blocks_few n = go (eqb n 7) (eqb n 8) (eqb n 9) (eqb n 10)
  where
    go : (a b c d : Bool) → cond a 13 (cond b 14 (cond c 15 (cond d 16 0))) ≤ 16
    go true b c d = omega arith
    go false true c d = omega arith
    go false false true d = omega arith
    go false false false true = omega arith
    go false false false false = omega arith

-- what is left of m where a is taken off is l exactly where a and l are m
left_over : (d : Option ℕ) (m a l : ℕ) → SomeIff d (a ≤ m) (m - a) → option_eq eqb d (Some l) ≡ eqb (a + l) m
left_over (Some x) m a l h = go (eqb (a + l) m) refl
  where
    go : (b : Bool) → eqb (a + l) m ≡ b → eqb x l ≡ b
    go true e = eq-eqb x l (omega (arith, h, eqb-true (a + l) m e))
    go false e = ne_eqb x l (λ z. eqb-false (a + l) m e (omega (arith, h, z)))
left_over None m a l h = sym (ne_eqb (a + l) m (λ z. h (omega (arith, z))))

module _ (memory : List ℕ) (id : ℕ) (v : PkrValues) (nodes key padding : List ℕ) where
  pub pkr_memory : (length memory ≡ 208 → ⊥) → 1 ≡ refusal (pkr_checks memory id v nodes key padding)
  pkr_memory h = stop_n 1 _ _ (differs (length memory) 208 h)

  module _ (h₁ : length memory ≡ 208) where
    pub pkr_nodes : (length nodes ≡ 128 → ⊥) → 1 ≡ refusal (pkr_checks memory id v nodes key padding)
    pkr_nodes h = pass_n 1 _ _ (equals (length memory) 208 h₁) (stop_n 1 _ _ (differs (length nodes) 128 h))

    module _ (h₂ : length nodes ≡ 128) {w : Bool} (e₃ : w ≡ too_wide pkr_rows (pkr_numbers v)) where
      go₂ : {r : ℕ} → r ≡ refusal (drop 2 (pkr_checks memory id v nodes key padding)) → r ≡ refusal (pkr_checks memory id v nodes key padding)
      go₂ h = pass_n 1 _ _ (equals (length memory) 208 h₁) (pass_n 1 _ _ (equals (length nodes) 128 h₂) h)

      pub pkr_wide : w ≡ true → 7 ≡ refusal (pkr_checks memory id v nodes key padding)
      pkr_wide h = go₂ (stop_n 7 _ _ (sym e₃ ∙ h))

      module _ (h₃ : w ≡ false) where
        go₃ : {r : ℕ} → r ≡ refusal (drop 3 (pkr_checks memory id v nodes key padding)) → r ≡ refusal (pkr_checks memory id v nodes key padding)
        go₃ h = go₂ (pass_n 7 _ _ (sym e₃ ∙ h₃) h)

        pub pkr_low : id < 12 → 7 ≡ refusal (pkr_checks memory id v nodes key padding)
        pkr_low h = go₃ (stop_n 7 _ _ (lt-ltb id 12 h))

        module _ (h₄ : 12 ≤ id) where
          pub pkr_high : 15 < id → 7 ≡ refusal (pkr_checks memory id v nodes key padding)
          pkr_high h = go₃ (pass_n 7 _ _ (le-ltb id 12 h₄) (stop_n 7 _ _ (lt-ltb 15 id h)))

          module _ (h₅ : id ≤ 15) where
            go₅ : {r : ℕ} → r ≡ refusal (drop 5 (pkr_checks memory id v nodes key padding)) → r ≡ refusal (pkr_checks memory id v nodes key padding)
            go₅ h = go₃ (pass_n 7 _ _ (le-ltb id 12 h₄) (pass_n 7 _ _ (le-ltb 15 id h₅) h))

            pub pkr_reserved : {A : Type 0} (r : Result A Refusal) (e : Refusal) → IsErrAnd r (λ (f : Refusal). f ≡ e) → Err e ≡ sized (size pkr_blocks v.nb_dp)
                → refused_by r ≡ refusal (pkr_checks memory id v nodes key padding)
            pkr_reserved r e i h = go₅ (sized_stop (size pkr_blocks v.nb_dp) _ r e i h)

            module _ {n : ℕ} (e₆ : n ≡ size pkr_blocks v.nb_dp) (h₆ : n ≡ 0 → ⊥) {o : Option ℕ} (e₇ : o ≡ unless_0 (size (new_key_sizes n) v.npkt)) where
              go₆ : {r : ℕ} → r ≡ refusal (drop 6 (pkr_checks memory id v nodes key padding)) → r ≡ refusal (pkr_checks memory id v nodes key padding)
              go₆ h = go₅ (pass_n 6 _ _ (ne_eqb (size pkr_blocks v.nb_dp) 0 (λ z. h₆ (e₆ ∙ z))) h)

              sizes : o ≡ unless_0 (size (new_key_sizes (size pkr_blocks v.nb_dp)) v.npkt)
              sizes = e₇ ∙ ap (λ (m : ℕ). unless_0 (size (new_key_sizes m) v.npkt)) e₆

              pub pkr_type : o ≡ None → 6 ≡ refusal (pkr_checks memory id v nodes key padding)
              pkr_type h =
                  go₆ (stop_n 6 _ _ (unsized_unnamed (size pkr_blocks v.nb_dp) v.npkt (blocks_many v.nb_dp (λ z. h₆ (e₆ ∙ z))) (size_none _ sizes h)))

              module _ {k : ℕ} (h₇ : o ≡ Some k) where
                its_size : k ≡ size (new_key_sizes (size pkr_blocks v.nb_dp)) v.npkt
                its_size = size_is _ sizes h₇

                go₇ : {r : ℕ} → r ≡ refusal (drop 7 (pkr_checks memory id v nodes key padding)) → r ≡ refusal (pkr_checks memory id v nodes key padding)
                go₇ h = go₆ (pass_n 6 _ _ (sized_named (size pkr_blocks v.nb_dp) v.npkt (size_some _ sizes h₇)) h)

                pub pkr_key : (length key ≡ k → ⊥) → 11 ≡ refusal (pkr_checks memory id v nodes key padding)
                pkr_key h = go₇ (stop_n 11 _ _ (differs (length key) (size (new_key_sizes (size pkr_blocks v.nb_dp)) v.npkt) (λ z. h (z ∙ sym its_size))))

                module _ (h₈ : length key ≡ k) where
                  go₈ : {r : ℕ} → r ≡ refusal (drop 8 (pkr_checks memory id v nodes key padding)) → r ≡ refusal (pkr_checks memory id v nodes key padding)
                  go₈ h = go₇ (pass_n 11 _ _ (equals (length key) (size (new_key_sizes (size pkr_blocks v.nb_dp)) v.npkt) (h₈ ∙ its_size)) h)

                  -- what the padding has to fill
                  module _ (d : Option ℕ) (e₉ : SomeIff d (130 + k ≤ 13 * n) (13 * n - (130 + k))) {b : Bool}
                      (f₉ : b ≡ not (option_eq eqb d (Some (length padding)))) where
                    filled : b ≡ not (eqb (130 + length key + length padding) (13 * size pkr_blocks v.nb_dp))
                    filled =
                        f₉ ∙ ap not (left_over d (13 * n) (130 + k) (length padding) e₉)
                        ∙ ap (λ (m : ℕ). not (eqb (130 + m + length padding) (13 * n))) (sym h₈)
                        ∙ ap (λ (m : ℕ). not (eqb (130 + length key + length padding) (13 * m))) e₆

                    pub pkr_unfilled : b ≡ true → 11 ≡ refusal (pkr_checks memory id v nodes key padding)
                    pkr_unfilled h = go₈ (stop_n 11 _ _ (sym filled ∙ h))

                    pub pkr_filled : b ≡ false → 0 ≡ refusal (pkr_checks memory id v nodes key padding)
                    pkr_filled h = go₈ (pass_n 11 _ _ (sym filled ∙ h) none_n)
