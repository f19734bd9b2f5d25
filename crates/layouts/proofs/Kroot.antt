-- Laws of the parts of a DSM-KROOT message.
-- Assumes nothing.
use mathlib.Core.Path.{◌≡◌, refl, sym, ap, ◌∙◌}
use mathlib.Core.List.{List, [], ◌∷◌, ◌++◌}
use mathlib.Core.Bool.{Bool, true, false, cond}
use Prim.Native.Nat.{ℕ, ◌+◌, ◌-◌, ◌≤◌, ◌<◌}
use native.Mathlib.Omega.{arith}
use lib.Dec.{ltb, leb, eqb, leb→le}
use lib.ListN.{length}
use borrow.Author.Tests.{ltb-false, eqb-true, eqb-false, le-ltb, eq-eqb, ne_eqb}
use Rattle.layouts.specs.Answer.{Answer, refused, gives, ◌when◌, refusal, answered, part}
use Rattle.layouts.specs.Bits.{the, value}
use Rattle.layouts.specs.Sizes.{size, unless_0, kroot_blocks, key_sizes, ecdsa_functions, read_size}
use Rattle.layouts.specs.DsmKroot.{
  kroot_layout,
  key_bytes,
  key_checks,
  kroot_part,
  padding_to_block,
  signature_length,
  signature_bytes,
  signature_checks,
  signature_part,
  ecdsa_function,
  padding_part,
}
use Rattle.layouts.specs.Layouts.{Follow}
use Rattle.layouts.specs.Meaning.{meaning_part}
use Rattle.layouts.specs.inner.Code.{Inside}
use Rattle.layouts.specs.declared.part.Part.{Part}
use Rattle.layouts.specs.declared.refusal.Refusal.{Refusal}
use Rattle.layouts.specs.declared.refusal.Refusal.TheVariants.{Lengths}
use Rattle.layouts.specs.Refusals.{refusal_number}
use Rattle.std.specs.Prelude.{Option, Some, None, Result, Ok, Err}
use Rattle.std.specs.Option.{ok_or}
use Rattle.layouts.proofs.Answers.{stop, pass, done, refused_too, passed, Passed, none_fails, all_pass, converse, answer_of, refusal_idle, given_with}
use Rattle.layouts.proofs.Options.{some_size, size_is, size_some, size_none, is_there, not_there}
use Rattle.layouts.proofs.Readers.{first_of, second_of, part_first, part_many, part_ends, inside_part}
use Rattle.layouts.proofs.Fields.{field_lt}
use Rattle.layouts.proofs.Tables.{holds_below}

-- at most 14 blocks
pub blocks_few : (m : List ℕ) → size kroot_blocks (value (the "NB_DK" kroot_layout) m) ≤ 14
unfolding kroot_blocks
blocks_few m = leb→le _ _ (holds_below 16 (λ c. leb (size kroot_blocks c) 14) tt (value (the "NB_DK" kroot_layout) m) (field_lt m 0 4))

-- a key has at most 32 bytes
pub key_few : (m : List ℕ) → key_bytes m ≤ 32
unfolding key_sizes
key_few m = leb→le _ _ (holds_below 16 (λ c. leb (size key_sizes c) 32) tt (value (the "KS" kroot_layout) m) (field_lt m 16 4))

-- a padding is shorter than a block
pub padding_few : (n : ℕ) → padding_to_block n < 13
unfolding padding_to_block
padding_few n = omega arith

-- a signature with its padding fills what is left
pub signature_fits : (k r : ℕ) → (signature_length k r ≡ 0 → ⊥) → signature_length k r ≤ r
unfolding signature_length
signature_fits k r = go (eqb r a) (eqb r b) refl refl
  where
    a : ℕ
    a = 64 + padding_to_block (k + 64)

    b : ℕ
    b = 132 + padding_to_block (k + 132)

    go : (x y : Bool) → eqb r a ≡ x → eqb r b ≡ y → (◌≡◌ {A = ℕ} (cond x 64 (cond y 132 0)) 0 → ⊥) → cond x 64 (cond y 132 0) ≤ r
    go true y ex ey ne = omega (arith, eqb-true r a ex)
    go false true ex ey ne = omega (arith, eqb-true r b ey)
    go false false ex ey ne = absurd (ne refl)

pub signature_other : (k r : ℕ) → (signature_length k r ≡ 0 → ⊥) → (signature_length k r ≡ 64 → ⊥) → signature_length k r ≡ 132
unfolding signature_length
signature_other k r = go (eqb r (64 + padding_to_block (k + 64))) (eqb r (132 + padding_to_block (k + 132)))
  where
    go : (x y : Bool) → (◌≡◌ {A = ℕ} (cond x 64 (cond y 132 0)) 0 → ⊥) → (◌≡◌ {A = ℕ} (cond x 64 (cond y 132 0)) 64 → ⊥)
        → ◌≡◌ {A = ℕ} (cond x 64 (cond y 132 0)) 132
    go true y ne no' = absurd (no' refl)
    go false true ne no' = refl
    go false false ne no' = absurd (ne refl)

-- its length, by the tests that lead to it
module _ (k r : ℕ) {p : ℕ} (e : p ≡ padding_to_block (k + 64)) where
  pub length_64 : r ≡ 64 + p → 64 ≡ signature_length k r
  unfolding signature_length
  length_64 h = rw (eq-eqb r (64 + padding_to_block (k + 64)) (h ∙ ap (λ (n : ℕ). 64 + n) e))

  pub some_64 : r ≡ 64 + p → Some 64 ≡ unless_0 (signature_length k r)
  some_64 h = some_size (length_64 h) (omega arith)

  module _ {q : ℕ} (ne : r ≡ 64 + p → ⊥) (f : q ≡ padding_to_block (k + 132)) where
    not_64 : eqb r (64 + padding_to_block (k + 64)) ≡ false
    not_64 = ne_eqb r _ (λ h. ne (h ∙ ap (λ (n : ℕ). 64 + n) (sym e)))

    pub length_132 : r ≡ 132 + q → 132 ≡ signature_length k r
    unfolding signature_length
    length_132 h = rw (not_64, eq-eqb r (132 + padding_to_block (k + 132)) (h ∙ ap (λ (n : ℕ). 132 + n) f))

    pub some_132 : r ≡ 132 + q → Some 132 ≡ unless_0 (signature_length k r)
    some_132 h = some_size (length_132 h) (omega arith)

    pub no_length : (r ≡ 132 + q → ⊥) → None ≡ unless_0 (signature_length k r)
    unfolding signature_length
    no_length no' = rw (not_64, ne_eqb r (132 + padding_to_block (k + 132)) (λ h. no' (h ∙ ap (λ (n : ℕ). 132 + n) (sym f))))

pub ruleset lengths = (padding_few, some_64, some_132, no_length)

-- what is shown lies within the message
module _ (r : Result Part Refusal) (m : List ℕ) where
  pub kroot_inside : meaning_part r ≡ kroot_part m → Inside r (length m)
  unfolding kroot_part
  kroot_inside e = inside_part r m 13 (key_bytes m) (key_checks m) tt e

  pub signature_inside : meaning_part r ≡ signature_part m → Inside r (length m)
  unfolding signature_part
  signature_inside e = inside_part r m (13 + key_bytes m) (signature_bytes m) (signature_checks m) tt e

  pub padding_inside : meaning_part r ≡ padding_part m → Inside r (length m)
  unfolding padding_part
  padding_inside e =
      let first = 13 + key_bytes m + signature_bytes m in inside_part r m first (length m - first) (signature_checks m) tt e

module _ (m : List ℕ) where
  -- the key, after its size
  pub kroot_refused : {n : ℕ} → refused n ≡ read_size (the "KS" kroot_layout) (size key_sizes) m → refused n ≡ kroot_part m
  unfolding kroot_part
  kroot_refused e = refused_too (key_checks m) _ (key_bytes m ∷ []) _ e

  pub kroot_given : {v : ℕ} {r : Answer} → gives (v ∷ []) ≡ read_size (the "KS" kroot_layout) (size key_sizes) m → r ≡ part m [] 13 v → r ≡ kroot_part m
  unfolding kroot_part
  kroot_given gave h =
      passed (key_checks m) _ (key_bytes m ∷ []) _ tt gave
      (h ∙ ap (λ (n : ℕ). part m [] 13 n) (first_of (answer_of _ (key_bytes m ∷ []) gave)))

  -- the signature, after the key
  pub signature_refused : {n : ℕ} → refused n ≡ kroot_part m → refused n ≡ signature_part m
  unfolding kroot_part signature_part
  signature_refused e = refused_too (key_checks m ++ (5 when ltb (length m) (13 + key_bytes m) ∷ [])) _ (13 ∷ key_bytes m ∷ []) _ e

  module _ {f k : ℕ} (g : gives (f ∷ k ∷ []) ≡ kroot_part m) where
    gave : gives (f ∷ k ∷ []) ≡ part m (key_checks m) 13 (key_bytes m)
    unfolding kroot_part
    gave = g

    pub key_at : f ≡ 13
    key_at = part_first m 13 (key_bytes m) (key_checks m) gave

    pub key_long : k ≡ key_bytes m
    key_long = part_many m 13 (key_bytes m) (key_checks m) gave

    pub key_ends : f + k ≤ length m
    key_ends = rw (key_at, key_long) (part_ends m 13 (key_bytes m) (key_checks m) gave tt)

    module _ {o : Option ℕ} (e : o ≡ unless_0 (signature_length k (length m - (f + k)))) where
      long : o ≡ unless_0 (signature_bytes m)
      long = rw (key_at, key_long) at e

      pub signature_none : {e : Refusal} → Err e ≡ ok_or o Lengths → refused (refusal_number e) ≡ signature_part m
      unfolding signature_part
      signature_none n =
          let p = not_there o Lengths n in
          rw p.1
          (passed (key_checks m ++ (5 when ltb (length m) (13 + key_bytes m) ∷ [])) _ (13 ∷ key_bytes m ∷ []) _ tt gave
          (stop 11 _ _ _ tt (eq-eqb (signature_bytes m) 0 (size_none (signature_bytes m) long p.0))))

      pub signature_given : {s : ℕ} {r : Answer} → Ok s ≡ ok_or o Lengths → r ≡ part m [] (f + k) s → r ≡ signature_part m
      unfolding signature_part
      signature_given n p =
          let there : o ≡ Some _ = is_there o Lengths n in
          passed (key_checks m ++ (5 when ltb (length m) (13 + key_bytes m) ∷ [])) _ (13 ∷ key_bytes m ∷ []) _ tt gave
          (pass 11 _ _ _ (ne_eqb (signature_bytes m) 0 (size_some (signature_bytes m) long there))
          (rw (key_at, key_long, size_is (signature_bytes m) long there) at p))

  -- after the signature: its checks leave room for it
  room : Passed (signature_checks m) → 13 + key_bytes m + signature_bytes m ≤ length m
  room p =
      let h : 13 + key_bytes m ≤ length m = ltb-false (length m) (13 + key_bytes m) p.1.1.0 in
      let r : ℕ = length m - (13 + key_bytes m) in
      let s : signature_bytes m ≤ r = signature_fits (key_bytes m) r (eqb-false (signature_bytes m) 0 p.1.1.1.0) in
      omega arith

  after : (first many : ℕ) → (13 + key_bytes m + signature_bytes m ≤ length m → first + many ≤ length m)
      → part m (signature_checks m) first many ≡ answered (refusal (signature_checks m)) (gives (first ∷ many ∷ []))
  after first many h =
      ap (λ (q : ℕ). answered q (gives (first ∷ many ∷ [])))
      (refusal_idle (signature_checks m) (5 when ltb (length m) (first + many)) tt (λ p. le-ltb (length m) (first + many) (h (room p))))

  signature_answer : signature_part m ≡ answered (refusal (signature_checks m)) (gives ((13 + key_bytes m) ∷ signature_bytes m ∷ []))
  unfolding signature_part
  signature_answer = after (13 + key_bytes m) (signature_bytes m) (λ h. h)

  padding_answer :
      padding_part m
      ≡ answered (refusal (signature_checks m))
      (gives ((13 + key_bytes m + signature_bytes m) ∷ (length m - (13 + key_bytes m + signature_bytes m)) ∷ []))
  unfolding padding_part
  padding_answer =
      after (13 + key_bytes m + signature_bytes m) (length m - (13 + key_bytes m + signature_bytes m)) (λ h. omega arith)

  -- where nothing is refused the parts follow one another to the end
  module _ (z : refusal (signature_checks m) ≡ 0) where
    all_there : Passed (signature_checks m)
    all_there = none_fails (signature_checks m) tt z

    given : {a : Answer} (b : Answer) → a ≡ answered (refusal (signature_checks m)) b → a ≡ b
    given b e = e ∙ sym (given_with (refusal (signature_checks m)) b z refl)

    key_answer : kroot_part m ≡ gives (13 ∷ key_bytes m ∷ [])
    unfolding kroot_part
    key_answer =
        let p = all_there in
        sym (given_with _ (gives (13 ∷ key_bytes m ∷ []))
        (all_pass (key_checks m ++ (5 when ltb (length m) (13 + key_bytes m) ∷ [])) (p.0, (p.1.0, (p.1.1.0, tt)))) refl)

    pub parts_follow : Follow 13 (kroot_part m ∷ signature_part m ∷ padding_part m ∷ []) (length m)
    parts_follow =
        let h : 13 + key_bytes m + signature_bytes m ≤ length m = room all_there in
        rw (key_answer, given _ signature_answer, given _ padding_answer) (refl, (refl, (refl, omega arith)))

  refused_after : (a : Answer) {n : ℕ} → refused n ≡ signature_part m → refused n ≡ answered (refusal (signature_checks m)) a
  refused_after a e = refused_too (signature_checks m) [] ((13 + key_bytes m) ∷ signature_bytes m ∷ []) a (e ∙ signature_answer)

  pub padding_refused : {n : ℕ} → refused n ≡ signature_part m → refused n ≡ padding_part m
  padding_refused e = refused_after _ e ∙ sym padding_answer

  pub ecdsa_refused : {n : ℕ} → refused n ≡ signature_part m → refused n ≡ ecdsa_function m
  unfolding ecdsa_function
  ecdsa_refused e = refused_after _ e

  module _ {f s : ℕ} (g : gives (f ∷ s ∷ []) ≡ signature_part m) where
    gave_sig : gives (f ∷ s ∷ []) ≡ answered (refusal (signature_checks m)) (gives ((13 + key_bytes m) ∷ signature_bytes m ∷ []))
    gave_sig = g ∙ signature_answer

    pub sig_at : f ≡ 13 + key_bytes m
    sig_at = first_of (answer_of _ ((13 + key_bytes m) ∷ signature_bytes m ∷ []) gave_sig)

    pub sig_long : s ≡ signature_bytes m
    sig_long = second_of (answer_of _ ((13 + key_bytes m) ∷ signature_bytes m ∷ []) gave_sig)

    sig_passed : Passed (signature_checks m)
    sig_passed = converse (signature_checks m) ((13 + key_bytes m) ∷ signature_bytes m ∷ []) tt gave_sig

    pub sig_ends : f + s ≤ length m
    sig_ends = rw (sig_at, sig_long) (room sig_passed)

    pub given_after : (a : Answer) {r : Answer} → r ≡ a → r ≡ answered (refusal (signature_checks m)) a
    given_after a h = passed (signature_checks m) [] ((13 + key_bytes m) ∷ signature_bytes m ∷ []) a tt gave_sig (done a h)

    pub p256 : s ≡ 64 → gives (256 ∷ []) ≡ ecdsa_function m
    unfolding ecdsa_function ecdsa_functions
    p256 h = given_after _ (ap (λ (n : ℕ). gives (size ecdsa_functions n ∷ [])) (sym h ∙ sig_long))

    pub p521 : (s ≡ 64 → ⊥) → gives (521 ∷ []) ≡ ecdsa_function m
    unfolding ecdsa_function ecdsa_functions
    p521 ne =
        let h : signature_bytes m ≡ 132 =
        signature_other (key_bytes m) (length m - (13 + key_bytes m)) (eqb-false (signature_bytes m) 0 sig_passed.1.1.1.0) (λ z. ne (sig_long ∙ z)) in
        given_after _ (ap (λ (n : ℕ). gives (size ecdsa_functions n ∷ [])) (sym h))

    pub padding_given : {r : Answer} → r ≡ part m [] (f + s) (length m - (f + s)) → r ≡ padding_part m
    unfolding padding_part
    padding_given h = passed (signature_checks m) _ ((13 + key_bytes m) ∷ signature_bytes m ∷ []) _ tt gave_sig (rw (sig_at, sig_long) at h)
