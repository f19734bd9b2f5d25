-- What a block is cut from: the refusals, the count and the answer.
-- Assumes nothing.
use mathlib.Core.Path.{◌≡◌, refl, sym, ap, ◌∙◌}
use mathlib.Core.List.{List, [], ◌∷◌}
use mathlib.Core.Bool.{not}
use Prim.Native.Nat.{ℕ, zero, suc, ◌+◌, ◌*◌, ◌≤◌, ◌<◌}
use native.Mathlib.Omega.{arith}
use lib.Dec.{eqb, eqb-suc-zero}
use lib.ListN.{length, take, drop, replicate}
use borrow.Author.Tests.{ltb-false, eqb-true, lt-ltb, le-ltb, ne_eqb, not-false}
use Rattle.layouts.specs.Answer.{refused, gives, ◌when◌, refusal, answered, Copied, answered_with}
use Rattle.layouts.specs.Bits.{Field, the, value}
use Rattle.layouts.specs.Sizes.{size, kroot_blocks, pkr_blocks, read_size}
use Rattle.layouts.specs.DsmKroot.{kroot_layout}
use Rattle.layouts.specs.DsmPkr.{pkr_layout}
use Rattle.layouts.specs.Meaning.{meaning_number}
use Rattle.layouts.proofs.Unique.{numbers}
use Rattle.layouts.proofs.Answers.{Passed, none_fails, stop_n, pass_n, none_n, differs, equals}
use Rattle.dsms.specs.Dsm.{counted}
use Rattle.std.specs.Prelude.{Result, Err}
use Rattle.std.specs.Result.{IsErrAnd}
use Rattle.layouts.specs.Refusals.{refusal_number, refused_by}
use Rattle.layouts.specs.declared.refusal.Refusal.{Refusal}
use Rattle.layouts.proofs.Refused.{number_some, carried}
use Rattle.transmitter.specs.WritePromises.{meaning_cut}
use Rattle.transmitter.specs.inner.Parts.{sized}
use Rattle.transmitter.specs.declared.blocks.BlockCut.{BlockCut}
use Rattle.transmitter.proofs.Rows.{sized_stop}
use Rattle.transmitter.specs.Write.{header, cut, cut_checks, blocks}

-- a count, as the readers of `layouts` answer it
sized_means : (k : ℕ) → meaning_number (sized k) ≡ answered (refusal (6 when eqb k 0 ∷ [])) (gives (k ∷ []))
unfolding refusal answered
sized_means zero = refl
sized_means (suc k) = rw eqb-suc-zero

sized_read : (f : Field) (g : ℕ → ℕ) (m : List ℕ) → f.first + f.width ≤ 8 * length m → meaning_number (sized (g (value f m))) ≡ read_size f g m
unfolding refusal
sized_read f g m l = rw (le-ltb (8 * length m) (f.first + f.width) l) (sized_means (g (value f m)))

module _ (m : List ℕ) (id : ℕ) (l : length m ≡ 208) (x : Result ℕ Refusal) where
  pub kroot_counted : id < 12 → meaning_number x ≡ read_size (the "NB_DK" kroot_layout) (size kroot_blocks) m → x ≡ sized (blocks m id)
  unfolding counted
  kroot_counted h e = rw (lt-ltb id 12 h) (numbers _ x _ e (sized_read (the "NB_DK" kroot_layout) (size kroot_blocks) m (omega arith)))

  pub pkr_counted : 12 ≤ id → meaning_number x ≡ read_size (the "NB_DP" pkr_layout) (size pkr_blocks) m → x ≡ sized (blocks m id)
  unfolding counted
  pkr_counted h e = rw (le-ltb id 12 h) (numbers _ x _ e (sized_read (the "NB_DP" pkr_layout) (size pkr_blocks) m (omega arith)))

module _ (memory : List ℕ) (id n : ℕ) where
  pub cut_memory : (length memory ≡ 208 → ⊥) → 1 ≡ refusal (cut_checks memory id n)
  cut_memory h = stop_n 1 _ _ (differs (length memory) 208 h)

  module _ (h₁ : length memory ≡ 208) where
    pub cut_id : 15 < id → 7 ≡ refusal (cut_checks memory id n)
    cut_id h = pass_n 1 _ _ (equals (length memory) 208 h₁) (stop_n 7 _ _ (lt-ltb 15 id h))

    module _ (h₂ : id ≤ 15) where
      pub cut_number : 15 < n → 7 ≡ refusal (cut_checks memory id n)
      cut_number h = pass_n 1 _ _ (equals (length memory) 208 h₁) (pass_n 7 _ _ (le-ltb 15 id h₂) (stop_n 7 _ _ (lt-ltb 15 n h)))

      module _ (h₃ : n ≤ 15) {c : ℕ} (e : c ≡ blocks memory id) where
        go₃ : {r : ℕ} → r ≡ refusal (drop 3 (cut_checks memory id n)) → r ≡ refusal (cut_checks memory id n)
        go₃ h = pass_n 1 _ _ (equals (length memory) 208 h₁) (pass_n 7 _ _ (le-ltb 15 id h₂) (pass_n 7 _ _ (le-ltb 15 n h₃) h))

        module _ (h₄ : c ≡ 0 → ⊥) where
          go₄ : {r : ℕ} → r ≡ refusal (drop 4 (cut_checks memory id n)) → r ≡ refusal (cut_checks memory id n)
          go₄ h = go₃ (pass_n 6 _ _ (ne_eqb (blocks memory id) 0 (λ z. h₄ (e ∙ z))) h)

          pub cut_beyond : c ≤ n → 7 ≡ refusal (cut_checks memory id n)
          cut_beyond h = go₄ (stop_n 7 _ _ (ap not (le-ltb n (blocks memory id) (omega arith))))

          pub cut_within : n < c → 0 ≡ refusal (cut_checks memory id n)
          cut_within h = go₄ (pass_n 7 _ _ (ap not (lt-ltb n (blocks memory id) (omega arith))) none_n)

  pub cut_reserved : {A : Type 0} (r : Result A Refusal) (e : Refusal) → IsErrAnd r (λ (f : Refusal). f ≡ e) → length memory ≡ 208 → id ≤ 15 → n ≤ 15
      → Err e ≡ sized (blocks memory id) → refused_by r ≡ refusal (cut_checks memory id n)
  cut_reserved r e i h₁ h₂ h₃ h =
      pass_n 1 _ _ (equals (length memory) 208 h₁)
      (pass_n 7 _ _ (le-ltb 15 id h₂) (pass_n 7 _ _ (le-ltb 15 n h₃) (sized_stop (blocks memory id) _ r e i h)))

  module _ {q : ℕ} (e : q ≡ refusal (cut_checks memory id n)) where
    pub cut_refused : (q ≡ 0 → ⊥) → ◌≡◌ {A = Copied} (record { answer = refused q; bytes = replicate 13 0 }) (cut memory id n)
    unfolding cut answered
    cut_refused ne = go q (sym e) ne
      where
        go : (q : ℕ) → refusal (cut_checks memory id n) ≡ q → (q ≡ 0 → ⊥)
            → ◌≡◌ {A = Copied} (record { answer = refused q; bytes = replicate 13 0 })
            (answered_with (cut_checks memory id n) (gives (header id n ∷ [])) (take 13 (drop (13 * n) memory)) (replicate 13 0))
        go zero e ne = absurd (ne refl)
        go (suc q) e ne = rw (e, eqb-suc-zero)

  pub cut_err : (r : Result BlockCut Refusal) (e : Refusal) → IsErrAnd r (λ (f : Refusal). f ≡ e) → refusal_number e ≡ refusal (cut_checks memory id n)
      → meaning_cut r ≡ cut memory id n
  cut_err r e i h = ap meaning_cut (carried r i) ∙ cut_refused h (number_some e)

  module _ (e : 0 ≡ refusal (cut_checks memory id n)) where
    checked : Passed (cut_checks memory id n)
    checked = none_fails (cut_checks memory id n) tt (sym e)

    pub cut_id_few : id ≤ 15
    cut_id_few = ltb-false 15 id checked.1.0

    pub cut_few : n ≤ 15
    cut_few = ltb-false 15 n checked.1.1.0

    pub cut_fits : 13 * n + 13 ≤ length memory
    cut_fits = omega (arith, eqb-true (length memory) 208 (not-false _ checked.0), cut_few)

    pub cut_given : {h : ℕ} {l : List ℕ} → h ≡ header id n → l ≡ take 13 (drop (13 * n) memory)
        → ◌≡◌ {A = Copied} (record { answer = gives (h ∷ []); bytes = l }) (cut memory id n)
    unfolding cut answered
    cut_given eh el = rw (sym e, el, eh)
