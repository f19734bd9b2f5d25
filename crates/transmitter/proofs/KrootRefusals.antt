-- The refusal numbers of the KROOT writer, one law for each `return`, and the code's tables.
-- Assumes nothing.
use mathlib.Core.Path.{◌≡◌, sym, ◌∙◌}
use mathlib.Core.List.{List}
use mathlib.Core.Bool.{Bool, true, false, not, ◌||◌}
use Prim.Native.Nat.{ℕ, ◌+◌, ◌*◌, ◌≤◌, ◌<◌}
use lib.Dec.{eqb}
use lib.ListN.{length, drop}
use borrow.Author.Tests.{lt-ltb, le-ltb}
use Rattle.layouts.specs.Answer.{refusal}
use Rattle.layouts.specs.Packed.{too_wide}
use Rattle.layouts.specs.Sizes.{size, kroot_blocks, key_sizes}
use Rattle.layouts.specs.DsmKroot.{kroot_layout}
use Rattle.layouts.proofs.Answers.{stop_n, pass_n, none_n, differs, equals}
use Rattle.transmitter.specs.Write.{KrootValues, kroot_numbers, kroot_checks}

pub not_same : {a b : Bool} {c : Bool} → a ≡ b → not a ≡ c → not b ≡ c
not_same e h = rw e at h

module _ (memory : List ℕ) (id : ℕ) (v : KrootValues) (key signature padding : List ℕ) where
  pub kroot_memory : (length memory ≡ 208 → ⊥) → 1 ≡ refusal (kroot_checks memory id v key signature padding)
  kroot_memory h = stop_n 1 _ _ (differs (length memory) 208 h)

  module _ (h₁ : length memory ≡ 208) {b : Bool} (e₂ : b ≡ (eqb (length signature) 64 || eqb (length signature) 132)) where
    pub kroot_signature : not b ≡ true → 1 ≡ refusal (kroot_checks memory id v key signature padding)
    kroot_signature h = pass_n 1 _ _ (equals (length memory) 208 h₁) (stop_n 1 _ _ (not_same e₂ h))

    module _ (h₂ : not b ≡ false) {w : Bool} (e₃ : w ≡ too_wide kroot_layout (kroot_numbers v)) where
      go₂ : {r : ℕ} → r ≡ refusal (drop 2 (kroot_checks memory id v key signature padding)) → r ≡ refusal (kroot_checks memory id v key signature padding)
      go₂ h = pass_n 1 _ _ (equals (length memory) 208 h₁) (pass_n 1 _ _ (not_same e₂ h₂) h)

      pub kroot_wide : w ≡ true → 7 ≡ refusal (kroot_checks memory id v key signature padding)
      kroot_wide h = go₂ (stop_n 7 _ _ (sym e₃ ∙ h))

      module _ (h₃ : w ≡ false) where
        pub kroot_id : 11 < id → 7 ≡ refusal (kroot_checks memory id v key signature padding)
        kroot_id h = go₂ (pass_n 7 _ _ (sym e₃ ∙ h₃) (stop_n 7 _ _ (lt-ltb 11 id h)))

        pub kroot_sizes : id ≤ 11 → {r : ℕ} → r ≡ refusal (drop 4 (kroot_checks memory id v key signature padding))
            → r ≡ refusal (kroot_checks memory id v key signature padding)
        kroot_sizes h₄ h = go₂ (pass_n 7 _ _ (sym e₃ ∙ h₃) (pass_n 7 _ _ (le-ltb 11 id h₄) h))

  -- the lengths
  module _ {n k : ℕ} (en : n ≡ size kroot_blocks v.nb_dk) (ek : k ≡ size key_sizes v.ks) where
    pub kroot_key : (length key ≡ k → ⊥) → 11 ≡ refusal (drop 7 (kroot_checks memory id v key signature padding))
    kroot_key h = stop_n 11 _ _ (differs (length key) (size key_sizes v.ks) (λ z. h (z ∙ sym ek)))

    module _ (h₈ : length key ≡ k) where
      pub kroot_padding : 12 < length padding → 11 ≡ refusal (drop 7 (kroot_checks memory id v key signature padding))
      kroot_padding h = pass_n 11 _ _ (equals (length key) (size key_sizes v.ks) (h₈ ∙ ek)) (stop_n 11 _ _ (lt-ltb 12 (length padding) h))

      module _ (h₉ : length padding ≤ 12) where
        pub kroot_unfilled : (13 + k + length signature + length padding ≡ 13 * n → ⊥)
            → 11 ≡ refusal (drop 7 (kroot_checks memory id v key signature padding))
        kroot_unfilled h =
            pass_n 11 _ _ (equals (length key) (size key_sizes v.ks) (h₈ ∙ ek))
            (pass_n 11 _ _ (le-ltb 12 (length padding) h₉)
            (stop_n 11 _ _ (differs (13 + length key + length signature + length padding) (13 * size kroot_blocks v.nb_dk)
            (λ z. h (rw (← h₈, en) z)))))

        pub kroot_filled : 13 + k + length signature + length padding ≡ 13 * n → 0 ≡ refusal (drop 7 (kroot_checks memory id v key signature padding))
        kroot_filled h =
            pass_n 11 _ _ (equals (length key) (size key_sizes v.ks) (h₈ ∙ ek))
            (pass_n 11 _ _ (le-ltb 12 (length padding) h₉)
            (pass_n 11 _ _ (equals (13 + length key + length signature + length padding) (13 * size kroot_blocks v.nb_dk)
            (rw (h₈, ← en) h)) none_n))
