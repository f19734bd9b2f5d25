-- What the readers say of a KROOT message that was written.
-- Assumes nothing.
use mathlib.Core.Path.{◌≡◌, refl, sym, ap, ◌∙◌, subst⁻¹}
use mathlib.Core.List.{List, [], ◌∷◌, ◌++◌, map, append_assoc}
use mathlib.Core.Bool.{Bool, true, false, ◌||◌}
use Prim.Native.Nat.{ℕ, ◌+◌, ◌-◌, ◌*◌, ◌≤◌}
use native.Mathlib.Omega.{arith}
use lib.Dec.{eqb}
use lib.ListN.{length, take, drop, get_or, length-append}
use lib.Seq.{take_at, drop_at, take-length}
use borrow.Author.Tests.{ltb-false, eqb-true, eqb-false, le-ltb, ne_eqb, not-false}
use Rattle.layouts.specs.Answer.{Answer, gives, shown}
use Rattle.layouts.specs.Bits.{field, Field, the, value, read}
use Rattle.layouts.specs.Sizes.{size, kroot_blocks, key_sizes, tag_sizes, read_size, hash_functions, mac_functions, Named, naming, read_name, ecdsa_functions}
use Rattle.layouts.specs.DsmKroot.{kroot_layout, key_bytes, kroot_part, padding_to_block, signature_length, signature_bytes, signature_part, ecdsa_function}
use Rattle.layouts.specs.DsmKroot.{padding_part}
use Rattle.layouts.proofs.Answers.{pass, done, Passed, none_fails}
use Rattle.layouts.proofs.Kroot.{length_64, length_132, padding_few}
use Rattle.layouts.specs.Packed.{packed_on, bytes_of}
use Rattle.transmitter.specs.Write.{KrootValues, kroot_numbers, kroot_message, kroot_checks, write_kroot}
use Rattle.transmitter.specs.ReadBack.{KrootReads, KrootReadsBack}
use Rattle.layouts.proofs.Packed.{field_of_bytes, field_front, length_bytes, rows_say, rows_read, row_read}
use Rattle.transmitter.proofs.Writes.{none_refused, message_back}

-- the readers, from what a field says
pub size_read : (f : Field) (m : List ℕ) (sz : ℕ → ℕ) (x : ℕ) → f.first + f.width ≤ 8 * length m → value f m ≡ x → (sz x ≡ 0 → ⊥)
    → read_size f sz m ≡ gives (sz x ∷ [])
size_read f m sz x h e ne =
    sym (pass 5 _ _ _ (le-ltb (8 * length m) (f.first + f.width) h)
    (pass 6 _ _ _ (ne_eqb (sz (value f m)) 0 (λ z. ne (sym (ap sz e) ∙ z))) (done _ (ap (λ (n : ℕ). gives (sz n ∷ [])) (sym e)))))

pub name_read : (f : Field) (m : List ℕ) (names : List Named) (x : ℕ) → f.first + f.width ≤ 8 * length m → value f m ≡ x
    → read_name f names m ≡ gives (naming names x)
name_read f m names x h e =
    sym (pass 5 _ _ _ (le-ltb (8 * length m) (f.first + f.width) h) (done _ (ap (λ (n : ℕ). gives (naming names n)) (sym e))))

pub number_read : (f : Field) (m : List ℕ) (x : ℕ) → f.first + f.width ≤ 8 * length m → value f m ≡ x → read f m ≡ gives (x ∷ [])
number_read f m x h e = row_read f m h ∙ ap (λ (n : ℕ). gives (n ∷ [])) e

pub shown_of : (m : List ℕ) {a : Answer} {first many : ℕ} → a ≡ gives (first ∷ many ∷ []) → shown m a ≡ take many (drop first m)
unfolding shown
shown_of m e = rw e

-- a padding below a block fills it
pad_fills : (k s p b : ℕ) → 13 + k + s + p ≡ 13 * b → p ≤ 12 → p ≡ padding_to_block (k + s)
unfolding padding_to_block
pad_fills k s p b h l = omega arith

pub signature_found : (k s p b : ℕ) → (eqb s 64 || eqb s 132) ≡ true → 13 + k + s + p ≡ 13 * b → p ≤ 12 → signature_length k (s + p) ≡ s
signature_found k s p b sig h l = go (eqb s 64) (eqb s 132) refl refl sig
  where
    go : (x y : Bool) → eqb s 64 ≡ x → eqb s 132 ≡ y → (x || y) ≡ true → signature_length k (s + p) ≡ s
    go true y ex ey o =
        let e : s ≡ 64 = eqb-true s 64 ex in
        let f : p ≡ padding_to_block (k + 64) = pad_fills k 64 p b (omega arith) l in
        sym (length_64 k (s + p) f (omega arith)) ∙ sym e
    go false true ex ey o =
        let e : s ≡ 132 = eqb-true s 132 ey in
        let f : p ≡ padding_to_block (k + 132) = pad_fills k 132 p b (omega arith) l in
        sym (length_132 k (s + p) {p = padding_to_block (k + 64)} refl (λ z. omega (arith, padding_few (k + 64))) f (omega arith)) ∙ sym e
    go false false ex ey o = let z : ◌≡◌ {A = ℕ} 0 1 = cc in absurd (omega arith)

-- what is known of a message that was written
pub record KrootFacts (m : List ℕ) (v : KrootValues) (key signature padding : List ℕ) : Type 0 where
  pub values : map (λ (f : Field). value f m) kroot_layout ≡ kroot_numbers v
  pub long : length m ≡ 13 + length key + length signature + length padding
  pub key_there : take (length key) (drop 13 m) ≡ key
  pub signature_there : take (length signature) (drop (13 + length key) m) ≡ signature
  pub padding_there : take (length padding) (drop (13 + length key + length signature) m) ≡ padding
  pub count_some : size kroot_blocks v.nb_dk ≡ 0 → ⊥
  pub key_some : size key_sizes v.ks ≡ 0 → ⊥
  pub tag_some : size tag_sizes v.ts ≡ 0 → ⊥
  pub key_long : length key ≡ size key_sizes v.ks
  pub signature_either : (eqb (length signature) 64 || eqb (length signature) 132) ≡ true
  pub few : length padding ≤ 12
  pub whole : 13 + length key + length signature + length padding ≡ 13 * size kroot_blocks v.nb_dk

module _ (m : List ℕ) (v : KrootValues) (key signature padding : List ℕ) (f : KrootFacts m v key signature padding) where
  head_there : 104 ≤ 8 * length m
  head_there = omega (arith, f.long)

  says : (i : ℕ) → get_or (map (λ (f : Field). value f m) kroot_layout) i 0 ≡ get_or (kroot_numbers v) i 0
  says i = ap (λ (l : List ℕ). get_or l i 0) f.values

  key_bytes_lem : key_bytes m ≡ length key
  key_bytes_lem = ap (size key_sizes) (says 6) ∙ sym f.key_long

  signature_bytes_lem : signature_bytes m ≡ length signature
  signature_bytes_lem =
      let left : length m - (13 + length key) ≡ length signature + length padding = omega (arith, f.long) in
      ap (λ (k : ℕ). signature_length k (length m - (13 + k))) key_bytes_lem
      ∙ ap (signature_length (length key)) left
      ∙ signature_found (length key) (length signature) (length padding) (size kroot_blocks v.nb_dk) f.signature_either f.whole f.few

  key_is : kroot_part m ≡ gives (13 ∷ length key ∷ [])
  unfolding kroot_part
  key_is =
      sym (pass 5 _ _ _ (le-ltb (8 * length m) 20 (omega (arith, head_there)))
      (pass 6 _ _ _ (ne_eqb (key_bytes m) 0 (λ z. f.key_some (sym (ap (size key_sizes) (says 6)) ∙ z)))
      (pass 5 _ _ _ (le-ltb (length m) (13 + key_bytes m) (omega (arith, key_bytes_lem, f.long)))
      (done _ (ap (λ (n : ℕ). gives (13 ∷ n ∷ [])) (sym key_bytes_lem))))))

  -- the checks up to the signature's
  signature_some : signature_bytes m ≡ 0 → ⊥
  signature_some z = omega (arith, signature_bytes_lem, either (eqb (length signature) 64) (eqb (length signature) 132) refl refl f.signature_either)
    where
      either : (x y : Bool) → eqb (length signature) 64 ≡ x → eqb (length signature) 132 ≡ y → (x || y) ≡ true → 64 ≤ length signature
      either true y ex ey o = omega (arith, eqb-true (length signature) 64 ex)
      either false true ex ey o = omega (arith, eqb-true (length signature) 132 ey)
      either false false ex ey o = let z : ◌≡◌ {A = ℕ} 0 1 = cc in absurd (omega arith)

  signature_is : signature_part m ≡ gives ((13 + length key) ∷ length signature ∷ [])
  unfolding signature_part
  signature_is =
      sym (pass 5 _ _ _ (le-ltb (8 * length m) 20 (omega (arith, head_there)))
      (pass 6 _ _ _ (ne_eqb (key_bytes m) 0 (λ z. f.key_some (sym (ap (size key_sizes) (says 6)) ∙ z)))
      (pass 5 _ _ _ (le-ltb (length m) (13 + key_bytes m) (omega (arith, key_bytes_lem, f.long)))
      (pass 11 _ _ _ (ne_eqb (signature_bytes m) 0 signature_some)
      (pass 5 _ _ _ (le-ltb (length m) (13 + key_bytes m + signature_bytes m) (omega (arith, key_bytes_lem, signature_bytes_lem, f.long)))
      (done _ (rw (signature_bytes_lem, key_bytes_lem))))))))

  curve_is : ecdsa_function m ≡ gives (size ecdsa_functions (length signature) ∷ [])
  unfolding ecdsa_function
  curve_is =
      sym (pass 5 _ _ _ (le-ltb (8 * length m) 20 (omega (arith, head_there)))
      (pass 6 _ _ _ (ne_eqb (key_bytes m) 0 (λ z. f.key_some (sym (ap (size key_sizes) (says 6)) ∙ z)))
      (pass 5 _ _ _ (le-ltb (length m) (13 + key_bytes m) (omega (arith, key_bytes_lem, f.long)))
      (pass 11 _ _ _ (ne_eqb (signature_bytes m) 0 signature_some)
      (done _ (ap (λ (n : ℕ). gives (size ecdsa_functions n ∷ [])) (sym signature_bytes_lem)))))))

  padding_is : padding_part m ≡ gives ((13 + length key + length signature) ∷ length padding ∷ [])
  unfolding padding_part
  padding_is =
      let left : length m - (13 + length key + length signature) ≡ length padding = omega (arith, f.long) in
      sym (pass 5 _ _ _ (le-ltb (8 * length m) 20 (omega (arith, head_there)))
      (pass 6 _ _ _ (ne_eqb (key_bytes m) 0 (λ z. f.key_some (sym (ap (size key_sizes) (says 6)) ∙ z)))
      (pass 5 _ _ _ (le-ltb (length m) (13 + key_bytes m) (omega (arith, key_bytes_lem, f.long)))
      (pass 11 _ _ _ (ne_eqb (signature_bytes m) 0 signature_some)
      (pass 5 _ _ _ (le-ltb (length m) (13 + key_bytes m + signature_bytes m + (length m - (13 + key_bytes m + signature_bytes m)))
      (omega (arith, key_bytes_lem, signature_bytes_lem, f.long)))
      (done _ (rw (signature_bytes_lem, key_bytes_lem, left))))))))

  pub kroot_reads : KrootReads m v key signature padding
  kroot_reads =
      record {
        rows = rows_read m 0 kroot_layout 104 tt head_there ∙ ap (map (λ (n : ℕ). gives (n ∷ []))) f.values;
        count_read = size_read (the "NB_DK" kroot_layout) m (size kroot_blocks) v.nb_dk (omega (arith, head_there)) (says 0) f.count_some;
        hash_read = name_read (the "HF" kroot_layout) m hash_functions v.hf (omega (arith, head_there)) (says 4);
        mac_read = name_read (the "MF" kroot_layout) m mac_functions v.mf (omega (arith, head_there)) (says 5);
        key_size_read = size_read (the "KS" kroot_layout) m (size key_sizes) v.ks (omega (arith, head_there)) (says 6) f.key_some;
        tag_size_read = size_read (the "TS" kroot_layout) m (size tag_sizes) v.ts (omega (arith, head_there)) (says 7) f.tag_some;
        key_shown = key_is;
        key_read = shown_of m key_is ∙ f.key_there;
        signature_shown = signature_is;
        signature_read = shown_of m signature_is ∙ f.signature_there;
        curve_read = curve_is;
        padding_shown = padding_is;
        padding_read = shown_of m padding_is ∙ f.padding_there;
      }

-- a part between others
pub part_there : (a b c : List ℕ) (n : ℕ) → length a ≡ n → take (length b) (drop n (a ++ b ++ c)) ≡ b
part_there a b c n e =
    ap (λ (l : List ℕ). take (length b) (drop n l)) (append_assoc a b c) ∙ ap (take (length b)) (drop_at a (b ++ c) n e) ∙ take_at b c (length b) refl

-- what the checks leave
module _ (memory : List ℕ) (id : ℕ) (v : KrootValues) (key signature padding : List ℕ) (p : Passed (kroot_checks memory id v key signature padding)) where
  pub kroot_facts : KrootFacts (kroot_message v key signature padding) v key signature padding
  unfolding kroot_message
  kroot_facts =
      let number : ℕ = packed_on 0 kroot_layout (kroot_numbers v) in
      let head : List ℕ = bytes_of 13 number in
      let apart : head ++ key ++ signature ++ padding ≡ head ++ (key ++ (signature ++ padding)) = simp append_assoc in
      let h13 : length head ≡ 13 = length_bytes 13 number in
      record {
        values =
            rows_say (head ++ key ++ signature ++ padding) 0 0 kroot_layout 104 (kroot_numbers v) tt p.1.1.0 refl
            (λ s w g h. ap (λ (l : List ℕ). field l s w) apart ∙ field_front head (key ++ (signature ++ padding)) s w (omega (arith, h, h13))
            ∙ field_of_bytes 13 number s w h);
        long = simp length-append (omega (arith, h13));
        key_there =
            ap (λ (l : List ℕ). take (length key) (drop 13 l)) (append_assoc (head ++ key) signature padding) ∙ part_there head key
            (signature ++ padding) 13 h13;
        signature_there = part_there (head ++ key) signature padding (13 + length key) (simp length-append (omega (arith, h13)));
        padding_there =
            ap (take (length padding))
            (drop_at (head ++ key ++ signature) padding (13 + length key + length signature) (simp length-append (omega (arith, h13)))) ∙ take-length padding;
        count_some = eqb-false _ 0 p.1.1.1.1.0;
        key_some = eqb-false _ 0 p.1.1.1.1.1.0;
        tag_some = eqb-false _ 0 p.1.1.1.1.1.1.0;
        key_long = eqb-true _ _ (not-false _ p.1.1.1.1.1.1.1.0);
        signature_either = not-false _ p.1.0;
        few = ltb-false 12 _ p.1.1.1.1.1.1.1.1.0;
        whole = eqb-true _ _ (not-false _ p.1.1.1.1.1.1.1.1.1.0);
      }

pub kroot_back : KrootReadsBack
unfolding write_kroot
kroot_back memory id v key signature padding n e =
    let checks = kroot_checks memory id v key signature padding in
    let message = kroot_message v key signature padding in
    let p : Passed checks = none_fails checks tt (none_refused checks memory message id e) in
    subst⁻¹ (λ (m : List ℕ). KrootReads m v key signature padding) (message_back checks memory message id 0 n e)
    (kroot_reads message v key signature padding (kroot_facts memory id v key signature padding p))
