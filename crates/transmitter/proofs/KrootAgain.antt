-- A KROOT message that is good is what writing it again yields.
-- Assumes nothing.
use mathlib.Core.Path.{◌≡◌, refl, sym, ap, ◌∙◌}
use mathlib.Core.List.{List, [], ◌∷◌, ◌++◌, map}
use mathlib.Core.Bool.{Bool, true, false, cond, not, ◌||◌}
use Prim.Native.Nat.{ℕ, ◌+◌, ◌-◌, ◌*◌, ◌≤◌, ◌<◌}
use native.Mathlib.Omega.{arith}
use lib.Dec.{eqb}
use lib.ListN.{length, take, drop, get_or, length-drop}
use lib.Seq.{take-add, take_all, length-take-le}
use borrow.Author.Tests.{ltb-false, eqb-true, eqb-false, ne_eqb}
use Rattle.layouts.specs.Answer.{nothing, gives, ◌when◌, refusal, shown}
use Rattle.layouts.specs.Bits.{field, Field, the, value, reach}
use Rattle.layouts.specs.Sizes.{size, kroot_blocks, key_sizes, tag_sizes}
use Rattle.layouts.specs.DsmKroot.{kroot_layout, key_bytes, kroot_part, padding_to_block, signature_length, signature_bytes, signature_checks, signature_part}
use Rattle.layouts.specs.DsmKroot.{ecdsa_function, padding_part}
use Rattle.layouts.proofs.Answers.{Passed, none_fails, pass_n}
use Rattle.layouts.proofs.Kroot.{padding_few, signature_fits}
use Rattle.runs.proofs.Basics.{and_true}
use Rattle.layouts.specs.Packed.{packed_on, bytes_of, too_wide}
use Rattle.transmitter.specs.Write.{kroot_numbers, kroot_message, kroot_checks, write_kroot}
use Rattle.transmitter.specs.WriteBack.{Bytes, given, all_given, kroot_answers, is_good_kroot, kroot_read, kroot_rewritten, Same}
use Rattle.transmitter.proofs.Rows.{more}
use Rattle.transmitter.proofs.Writes.{written_is}
use Rattle.transmitter.proofs.KrootBack.{shown_of}
use Rattle.transmitter.proofs.KrootRefusals.{kroot_sizes, kroot_filled}
use Rattle.transmitter.proofs.Again.{packed_back, values_narrow, bytes_back, given_at, given_none, given_is}

-- a signature that is found leaves a padding below a block
signature_tight : (k r : ℕ) → (signature_length k r ≡ 0 → ⊥) → r - signature_length k r ≤ 12
unfolding signature_length
signature_tight k r = go (eqb r (64 + padding_to_block (k + 64))) (eqb r (132 + padding_to_block (k + 132))) refl refl
  where
    go : (x y : Bool) → eqb r (64 + padding_to_block (k + 64)) ≡ x → eqb r (132 + padding_to_block (k + 132)) ≡ y
        → (◌≡◌ {A = ℕ} (cond x 64 (cond y 132 0)) 0 → ⊥) → r - cond x 64 (cond y 132 0) ≤ 12
    go true y ex ey ne = omega (arith, eqb-true r (64 + padding_to_block (k + 64)) ex, padding_few (k + 64))
    go false true ex ey ne = omega (arith, eqb-true r (132 + padding_to_block (k + 132)) ey, padding_few (k + 132))
    go false false ex ey ne = absurd (ne refl)

signature_either : (k r : ℕ) → (signature_length k r ≡ 0 → ⊥) → (eqb (signature_length k r) 64 || eqb (signature_length k r) 132) ≡ true
unfolding signature_length
signature_either k r = go (eqb r (64 + padding_to_block (k + 64))) (eqb r (132 + padding_to_block (k + 132)))
  where
    go : (x y : Bool) → (◌≡◌ {A = ℕ} (cond x 64 (cond y 132 0)) 0 → ⊥) → (eqb (cond x 64 (cond y 132 0)) 64 || eqb (cond x 64 (cond y 132 0)) 132) ≡ true
    go true y ne = refl
    go false true ne = refl
    go false false ne = absurd (ne refl)

-- a message from its parts
parts : (m : List ℕ) (k s p : ℕ) → 13 + k + s + p ≡ length m → take 13 m ++ take k (drop 13 m) ++ take s (drop (13 + k) m) ++ take p (drop (13 + k + s) m) ≡ m
parts m k s p h =
    ap (λ (l : List ℕ). l ++ take s (drop (13 + k) m) ++ take p (drop (13 + k + s) m)) (sym (take-add 13 k m))
    ∙ ap (λ (l : List ℕ). l ++ take p (drop (13 + k + s) m)) (sym (take-add (13 + k) s m))
    ∙ sym (take-add (13 + k + s) p m)
    ∙ take_all (13 + k + s + p) m (omega arith)

pub long_part : (m : List ℕ) (at n : ℕ) → at + n ≤ length m → length (take n (drop at m)) ≡ n
long_part m at n h = length-take-le n (drop at m) (rw (length-drop at m) (omega arith))

module _ (m : List ℕ) (good : is_good_kroot m ≡ true) where
  halves : (all_given (kroot_answers m) ≡ true) × (eqb (length m) (13 * size kroot_blocks (value (the "NB_DK" kroot_layout) m)) ≡ true)
      × (eqb (value (the "Reserved 1" kroot_layout) m) 0 ≡ true) × (eqb (value (the "Reserved 2" kroot_layout) m) 0 ≡ true)
  unfolding is_good_kroot
  halves =
      let a = and_true _ (eqb (value (the "Reserved 2" kroot_layout) m) 0) good in
      let b = and_true _ (eqb (value (the "Reserved 1" kroot_layout) m) 0) a.0 in
      let c = and_true (all_given (kroot_answers m)) (eqb (length m) (13 * size kroot_blocks (value (the "NB_DK" kroot_layout) m))) b.0 in
      (c.0, c.1, b.1, a.1)

  whole : length m ≡ 13 * size kroot_blocks (value (the "NB_DK" kroot_layout) m)
  whole = eqb-true _ _ halves.1

  at : (i : ℕ) → i < 22 → given (get_or (kroot_answers m) i nothing) ≡ true
  at i h = given_at (kroot_answers m) i h halves.0

  -- the head is there
  pub head_there : 104 ≤ 8 * length m
  head_there =
      ltb-false (8 * length m) 104
      (none_fails (reach (the "alpha" kroot_layout) m ∷ []) tt (given_none _ (value (the "alpha" kroot_layout) m ∷ []) (at 12 (omega arith)))).0

  count_some : size kroot_blocks (value (the "NB_DK" kroot_layout) m) ≡ 0 → ⊥
  count_some =
      eqb-false _ 0
      (none_fails (reach (the "NB_DK" kroot_layout) m ∷ 6 when eqb (size kroot_blocks (value (the "NB_DK" kroot_layout) m)) 0 ∷ []) tt
      (given_none _ (size kroot_blocks (value (the "NB_DK" kroot_layout) m) ∷ []) (at 13 (omega arith)))).1.0

  tag_some : size tag_sizes (value (the "TS" kroot_layout) m) ≡ 0 → ⊥
  tag_some =
      eqb-false _ 0
      (none_fails (reach (the "TS" kroot_layout) m ∷ 6 when eqb (size tag_sizes (value (the "TS" kroot_layout) m)) 0 ∷ []) tt
      (given_none _ (size tag_sizes (value (the "TS" kroot_layout) m) ∷ []) (at 17 (omega arith)))).1.0

  passed : Passed (signature_checks m)
  unfolding ecdsa_function
  passed = none_fails (signature_checks m) tt (given_none _ (size Rattle.layouts.specs.Sizes.ecdsa_functions (signature_bytes m) ∷ []) (at 20 (omega arith)))

  key_some : key_bytes m ≡ 0 → ⊥
  key_some = eqb-false (key_bytes m) 0 passed.1.0

  key_ends : 13 + key_bytes m ≤ length m
  key_ends = ltb-false (length m) (13 + key_bytes m) passed.1.1.0

  signature_some : signature_bytes m ≡ 0 → ⊥
  signature_some = eqb-false (signature_bytes m) 0 passed.1.1.1.0

  signature_ends : signature_bytes m ≤ length m - (13 + key_bytes m)
  signature_ends = signature_fits (key_bytes m) (length m - (13 + key_bytes m)) signature_some

  abbrev rest : ℕ
  rest = length m - (13 + key_bytes m + signature_bytes m)

  rest_few : rest ≤ 12
  rest_few =
      let h : (length m - (13 + key_bytes m)) - signature_bytes m ≤ 12 = signature_tight (key_bytes m) (length m - (13 + key_bytes m)) signature_some in omega arith

  all_of_it : 13 + key_bytes m + signature_bytes m + rest ≡ length m
  all_of_it = omega (arith, key_ends, signature_ends)

  key_is : shown m (kroot_part m) ≡ take (key_bytes m) (drop 13 m)
  unfolding kroot_part
  key_is = shown_of m (given_is _ (13 ∷ key_bytes m ∷ []) (at 18 (omega arith)))

  signature_is : shown m (signature_part m) ≡ take (signature_bytes m) (drop (13 + key_bytes m) m)
  unfolding signature_part
  signature_is = shown_of m (given_is _ ((13 + key_bytes m) ∷ signature_bytes m ∷ []) (at 19 (omega arith)))

  padding_is : shown m (padding_part m) ≡ take rest (drop (13 + key_bytes m + signature_bytes m) m)
  unfolding padding_part
  padding_is = shown_of m (given_is _ ((13 + key_bytes m + signature_bytes m) ∷ rest ∷ []) (at 21 (omega arith)))

  -- the numbers that were read, with 0 for the reserved ones
  numbers_are : kroot_numbers (kroot_read m) ≡ map (λ (f : Field). value f m) kroot_layout
  numbers_are =
      more refl (more refl (more refl (more (sym (eqb-true _ 0 halves.2)) (more refl (more refl (more refl (more refl (more refl
      (more (sym (eqb-true _ 0 halves.3)) (more refl (more refl (more refl refl))))))))))))

  says : (i : ℕ) → get_or (kroot_numbers (kroot_read m)) i 0 ≡ get_or (map (λ (f : Field). value f m) kroot_layout) i 0
  says i = ap (λ (l : List ℕ). get_or l i 0) numbers_are

  head_is : Bytes m → bytes_of 13 (packed_on 0 kroot_layout (kroot_numbers (kroot_read m))) ≡ take 13 m
  unfolding field
  head_is b =
      ap (λ (l : List ℕ). bytes_of 13 (packed_on 0 kroot_layout l)) numbers_are
      ∙ ap (bytes_of 13) (packed_back m 0 0 kroot_layout 104 tt)
      ∙ bytes_back m 0 13 (omega (arith, head_there)) b

  module _ (memory : List ℕ) (id : ℕ) (long : length memory ≡ 208) (b : Bytes m) (kind : id < 12) where
    abbrev k : ℕ
    k = key_bytes m

    abbrev s : ℕ
    s = signature_bytes m

    abbrev key : List ℕ
    key = take k (drop 13 m)

    abbrev signature : List ℕ
    signature = take s (drop (13 + k) m)

    abbrev padding : List ℕ
    padding = take rest (drop (13 + k + s) m)

    none_stops : 0 ≡ refusal (kroot_checks memory id (kroot_read m) key signature padding)
    none_stops =
        let lk : length key ≡ k = long_part m 13 k (omega (arith, all_of_it)) in
        let ls : length signature ≡ s = long_part m (13 + k) s (omega (arith, all_of_it)) in
        let lp : length padding ≡ rest = long_part m (13 + k + s) rest (omega (arith, all_of_it)) in
        kroot_sizes memory id (kroot_read m) key signature padding long
        refl (ap not (ap (λ (n : ℕ). eqb n 64 || eqb n 132) ls ∙ signature_either k (length m - (13 + k)) signature_some))
        refl (ap (too_wide kroot_layout) numbers_are ∙ values_narrow m kroot_layout)
        (omega arith)
        (pass_n 6 _ _ (ne_eqb (size kroot_blocks (kroot_read m).nb_dk) 0 (λ z. count_some (sym (ap (size kroot_blocks) (says 0)) ∙ z)))
        (pass_n 6 _ _ (ne_eqb (size key_sizes (kroot_read m).ks) 0 (λ z. key_some (sym (ap (size key_sizes) (says 6)) ∙ z)))
        (pass_n 6 _ _ (ne_eqb (size tag_sizes (kroot_read m).ts) 0 (λ z. tag_some (sym (ap (size tag_sizes) (says 7)) ∙ z)))
        (kroot_filled memory id (kroot_read m) key signature padding refl refl
        (lk ∙ sym (ap (size key_sizes) (says 6)))
        (omega (arith, lp, rest_few))
        (ap (λ (n : ℕ). 13 + n + length signature + length padding) (ap (size key_sizes) (says 6)) ∙ omega (arith, ls, lp, all_of_it, whole) ∙ ap
        (λ (n : ℕ). 13 * size kroot_blocks n) (sym (says 0)))))))

    message_is : kroot_message (kroot_read m) key signature padding ≡ m
    unfolding kroot_message
    message_is = ap (λ (l : List ℕ). l ++ key ++ signature ++ padding) (head_is b) ∙ parts m k s rest all_of_it

    pub if_kroot : Same memory id m (kroot_rewritten memory id m)
    unfolding write_kroot
    if_kroot =
        ap (λ (x : List ℕ). write_kroot memory id (kroot_read m) x (shown m (signature_part m)) (shown m (padding_part m))) key_is
        ∙ ap (λ (x : List ℕ). write_kroot memory id (kroot_read m) key x (shown m (padding_part m))) signature_is
        ∙ ap (λ (x : List ℕ). write_kroot memory id (kroot_read m) key signature x) padding_is
        ∙ written_is (kroot_checks memory id (kroot_read m) key signature padding) memory (kroot_message (kroot_read m) key signature padding) id (sym none_stops)
        ∙ ap (λ (x : List ℕ). record {
          memory = x ++ drop (length x) memory;
          answer = gives
              (id ∷ Rattle.layouts.specs.DsmHeader.dsm_type_of id ∷ length x ∷ []);
        }) message_is
