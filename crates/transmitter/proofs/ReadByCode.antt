-- What the code's readers say of a message that the code wrote.
-- Assumes nothing.
use mathlib.Core.Path.{◌≡◌, refl, sym, ap, ◌∙◌, subst⁻¹}
use mathlib.Core.List.{List, [], ◌∷◌, map}
use Prim.Native.Nat.{ℕ, ◌+◌, ◌*◌}
use native.Mathlib.Omega.{arith}
use lib.ListN.{take, drop, get_or}
use Rattle.layouts.specs.Answer.{Answer, nothing, gives, Check}
use Rattle.layouts.specs.Bits.{Field, value, read}
use Rattle.layouts.specs.DsmKroot.{kroot_layout}
use Rattle.layouts.proofs.Answers.{Passed, none_fails}
use Rattle.layouts.proofs.Unique.{agreed}
use Rattle.transmitter.specs.Write.{Written, written, kroot_numbers, kroot_message, kroot_checks, write_kroot, pkr_message, pkr_checks, write_pkr}
use Rattle.transmitter.specs.WritePromises.{kroot_of, pkr_of}
use Rattle.transmitter.specs.ReadBack.{KrootReads, KrootReadByCode, KrootCodeReadsBack, PkrReads, PkrReadByCode, PkrCodeReadsBack}
use Rattle.transmitter.specs.declared.kroot.KrootValues.{KrootValues}
use Rattle.std.specs.Prelude.{Ok}
use Rattle.transmitter.specs.declared.pkr.PkrValues.{PkrValues}
use Rattle.transmitter.proofs.Rows.{more, kroot_raw, pkr_raw}
use Rattle.transmitter.proofs.Writes.{none_refused, message_back}
use Rattle.transmitter.proofs.KrootBack.{KrootFacts, kroot_reads, kroot_facts}
use Rattle.transmitter.proofs.PkrBack.{PkrFacts, pkr_reads, pkr_facts}
use Rattle.transmitter.proofs.WriteUnique.{same_kroot, same_pkr}

module _ (m : List ℕ) (v : KrootValues) (key signature padding : List ℕ) (f : KrootFacts m (kroot_of v) key signature padding) where
  kroot_by_code : KrootReadByCode m v key signature padding
  kroot_by_code =
      let reads : KrootReads m (kroot_of v) key signature padding = kroot_reads m (kroot_of v) key signature padding f in
      let row : (i : ℕ) → get_or (map (λ (f : Field). read f m) kroot_layout) i nothing ≡ get_or
      (map (λ (n : ℕ). gives (n ∷ [])) (kroot_numbers (kroot_of v))) i nothing =
      λ i. ap (λ (l : List Answer). get_or l i nothing) reads.rows in
      let says : (i : ℕ) → get_or (kroot_numbers (kroot_of v)) i 0 ≡ get_or (map (λ (f : Field). value f m) kroot_layout) i 0 =
      λ i. sym (ap (λ (l : List ℕ). get_or l i 0) f.values) in
      record {
        number_of_blocks = λ r p. p ∙ reads.count_read;
        public_key_id = λ r p. p ∙ row 1;
        kroot_chain_id = λ r p. p ∙ row 2;
        hash_function_number = λ r p. p ∙ row 4;
        hash_function = λ r p. p ∙ reads.hash_read;
        mac_function_number = λ r p. p ∙ row 5;
        mac_function = λ r p. p ∙ reads.mac_read;
        key_size = λ r p. p ∙ reads.key_size_read;
        tag_size = λ r p. p ∙ reads.tag_size_read;
        mac_lookup_table = λ r p. p ∙ row 8;
        kroot_wn = λ r p. p ∙ row 10;
        kroot_towh = λ r p. p ∙ row 11;
        alpha = λ r p. p ∙ row 12;
        ecdsa_function_is = λ r p. p ∙ reads.curve_read;
        kroot_shown = λ r p. p ∙ reads.key_shown;
        kroot_bytes = λ r p. p ∙ reads.key_read;
        digital_signature_shown = λ r p. p ∙ reads.signature_shown;
        digital_signature = λ r p. p ∙ reads.signature_read;
        padding_shown = λ r p. p ∙ reads.padding_shown;
        padding_bytes = λ r p. p ∙ reads.padding_read;
        kroot_values = λ r p.
            same_kroot r (Ok v)
            (p ∙ sym (kroot_raw m (omega (arith, f.long))
            (more (says 0) (more (says 1) (more (says 2) (more (says 4) (more (says 5) (more (says 6) (more (says 7) (more (says 8) (more (says 10)
            (more (says 11) (more (says 12) refl)))))))))))));
      }

module _ (m : List ℕ) (v : PkrValues) (nodes key padding : List ℕ) (f : PkrFacts m (pkr_of v) nodes key padding) where
  pkr_by_code : PkrReadByCode m v nodes key padding
  pkr_by_code =
      let reads : PkrReads m (pkr_of v) nodes key padding = pkr_reads m (pkr_of v) nodes key padding f in
      record {
        number_of_blocks = λ r p. p ∙ reads.count_read;
        message_id = λ r p. p ∙ reads.message_read;
        tree_node = λ k h r p.
            agreed.pkr_intermediate_tree_node m k r
            (Ok (record { part = record { first = 1 + 32 * k; many = 32 }; bytes = take 32 (drop (32 * k) nodes) })) p (sym (reads.nodes_read k h));
        key_type_number = λ r p. p ∙ reads.type_as_it_stands;
        key_type = λ r p. p ∙ reads.type_read;
        key_id = λ r p. p ∙ reads.key_id_read;
        key_size = λ r p. p ∙ reads.key_size_read;
        new_public_key_shown = λ r p. p ∙ reads.key_shown;
        new_public_key = λ r p. p ∙ reads.key_read;
        merkle_tree_leaf_shown = λ r p. p ∙ reads.leaf_shown;
        merkle_tree_leaf = λ r p. p ∙ reads.leaf_read;
        padding_shown = λ r p. p ∙ reads.padding_shown;
        padding_bytes = λ r p. p ∙ reads.padding_read;
        pkr_values = λ r p.
            same_pkr r (Ok v)
            (p ∙ sym (pkr_raw m (omega (arith, f.long))
            (more (sym f.count_says) (more (sym f.message_says) (more (sym f.type_says) (more (sym f.key_id_says) refl))))));
      }

-- the message stands in the first n bytes of what the code left
module _ (checks : List Check) (memory message : List ℕ) (id t n : ℕ) {a : Answer} {after : List ℕ}
    (w : ◌≡◌ {A = Written} (record { memory = after; answer = a }) (written checks memory message id)) (e : a ≡ gives (id ∷ t ∷ n ∷ [])) where
  answered : (written checks memory message id).answer ≡ gives (id ∷ t ∷ n ∷ [])
  answered = sym (ap (λ (x : Written). x.answer) w) ∙ e

  left_there : take n after ≡ message
  left_there = ap (λ (x : Written). take n x.memory) w ∙ message_back checks memory message id t n answered

  left_passed : Rattle.layouts.specs.Answer.refusal checks ≡ 0
  left_passed = none_refused checks memory message id answered

pub kroot_code_back : KrootCodeReadsBack
unfolding write_kroot
kroot_code_back memory id v key signature padding r after n w e =
    let checks = kroot_checks memory id (kroot_of v) key signature padding in
    let message = kroot_message (kroot_of v) key signature padding in
    let p : Passed checks = none_fails checks tt (left_passed checks memory message id 0 n w e) in
    subst⁻¹ (λ (m : List ℕ). KrootReadByCode m v key signature padding) (left_there checks memory message id 0 n w e)
    (kroot_by_code message v key signature padding (kroot_facts memory id (kroot_of v) key signature padding p))

pub pkr_code_back : PkrCodeReadsBack
unfolding write_pkr
pkr_code_back memory id v nodes key padding r after n w e =
    let checks = pkr_checks memory id (pkr_of v) nodes key padding in
    let message = pkr_message (pkr_of v) nodes key padding in
    let p : Passed checks = none_fails checks tt (left_passed checks memory message id 1 n w e) in
    subst⁻¹ (λ (m : List ℕ). PkrReadByCode m v nodes key padding) (left_there checks memory message id 1 n w e)
    (pkr_by_code message v nodes key padding (pkr_facts memory id (pkr_of v) nodes key padding p))
